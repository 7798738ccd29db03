-- What holds of a world's fields behind a pick: with sessions left in the phase, at its end, and in the next one.
use Rattle.std.proofs.Common.{◌≡◌, ℕ, zero, suc, ◌+◌, ◌-◌, ◌%◌, ◌<◌, ◌≤◌, Bool, true, false, List, [], ◌∷◌, length, set, get_or, Option, Some, None, inl, inr, refl, sym, ap, subst, ◌∙◌, arith}
use Rattle.std.specs.Prelude.{nat_lt, nat_le, option_map, vec_capacity}
use Rattle.std.specs.List.{slice_get, sum_by, remove}
use Rattle.std.proofs.lemmas.Bool.{cases_eq, cases_lt, le-leb, lt-ltb}
use Rattle.std.proofs.lemmas.Option.{slice_get_within, slice_get-get_or, get_or_from_slice_get, slice_get-map, slice_get_read}
use Rattle.std.proofs.lemmas.List.{map-set, length-map, length-set}
use Rattle.std.proofs.lemmas.List.Sums.{sum_by-set}
use Rattle.std.proofs.lemmas.Nat.{mod_below}
use Rattle.hv_dev.specs.declared.sink.PageSink.{Ghosts}
use Rattle.hv_view.specs.View.{Viewed}
use Rattle.hv_model.specs.declared.script.Script.{Script}
use Rattle.hv_model.specs.declared.script.Statement.{Statement}
use Rattle.hv_model.specs.declared.reply.Reply.{Reply}
use Rattle.hv_model.specs.Database.{RowDatabase}
use Rattle.hv_model.specs.Legal.{count_of_session, done_before}
use Rattle.hv_model.specs.Sessions.{HasSessions, HasBounds, AllReplied, LegalInPhase, count_before}
use Rattle.hv_model.proofs.Places.{slice_get-set_same, slice_get-set_other}
use Rattle.hv_model.proofs.SessionScripts.{IsInPhase, earlier_number}
use Rattle.hv_model.proofs.SessionReplies.{count_before_all, all_replied, done_later, next_in_phase}
use Rattle.hv_catalogue.specs.Holding.{Holding}
use Rattle.hv_world.specs.declared.session.Session.{Session}
use Rattle.hv_world.specs.declared.stage.Stage.{Stage}
use Rattle.hv_world.specs.declared.turns.Turn.{Turn}
use Rattle.hv_world.specs.Known.{Known}
use Rattle.hv_world.specs.Look.{KeepsTables}
use Rattle.hv_world.specs.Picks.{IsNextOf, HasStepped, floor_of}
use Rattle.hv_world.specs.Stored.{IsSound, AreFiles, HasFiles}
use Rattle.hv_world.specs.Reads.{PortSeen, port_seen}
use Rattle.hv_world.specs.Standing.{IsWorld, SessionStands}
use Rattle.hv_world.specs.Turns.{AreTurns, HasTurns, HaveTurns, IsFirstPhase, IsKeptWorld, IsNextPhase, next_turn, is_due, replies_of, ports_of, stages_of, session_left, world_of}
use Rattle.hv_world.specs.World.{IsLegalSoFar, AreCausedSoFar, IsPick, landings_of, ready_from}
use Rattle.hv_world.proofs.PickPlaces.{IsReadyAt, ready_place, ready_stays, ready_goes}
use Rattle.hv_world.proofs.Picking.{IsFound, found, IsStepped, stepped, port_at}
use Rattle.hv_world.proofs.ReadyPlaces.{due_is, none_ready}
use Rattle.hv_world.proofs.TurnPlaces.{phases_passed, turns_enough}
use Rattle.hv_world.proofs.WorldSteps.{some_same}

-- the places of each session's statements
abbrev pub EachHasTurns : {P File : Type 0} → Script → List (Session P File) → Type 0
EachHasTurns {P} {File} s sessions = (i : ℕ) (name : List ℕ) (q : Session P File) → slice_get s.sessions i ≡ Some name → slice_get sessions i ≡ Some q → HasTurns s name q

-- they stay where one session took a step
pub turns_kept : {P File : Type 0} (s : Script) (sessions : List (Session P File)) (at : ℕ) (q new : Session P File) → EachHasTurns s sessions → slice_get sessions at ≡ Some q
    → new.turns.items ≡ q.turns.items → vec_capacity new.replies ≡ vec_capacity q.replies → EachHasTurns s (set sessions at new)
turns_kept {P} {File} s sessions at q new had at_q turns_are room_is i name r at_name at_r =
    elim (cases_eq i at) [
      | inl mine ↦ (let same : new ≡ r = some_same (sym (slice_get-set_same sessions at new (slice_get_within sessions at q at_q)) ∙ ap (λ (k : ℕ). slice_get (set sessions at new) k) (sym mine) ∙ at_r) in
          let its : HasTurns s name q = had at name q (subst (λ (k : ℕ). slice_get s.sessions k ≡ Some name) mine at_name) at_q in
          subst (λ (t : Session P File). HasTurns s name t) same (record {
            turns = subst (λ (l : List Turn). AreTurns s name l) (sym turns_are) its.turns;
            room = (let wide : length q.turns.items ≤ vec_capacity q.replies = its.room in
                let long : length new.turns.items ≡ length q.turns.items = ap (λ (l : List Turn). length l) turns_are in
                omega arith);
          }))
      | inr apart ↦ had i name r at_name (sym (slice_get-set_other sessions at i new apart) ∙ at_r)
    ]

-- the session of a list of replies
pub record IsOf {P File : Type 0} (sessions : List (Session P File)) (i : ℕ) (rs : List Reply) : Type 0 where
  pub session : Session P File
  pub stands : slice_get sessions i ≡ Some session
  pub its : session.replies.items ≡ rs

session_of : {P File : Type 0} (sessions : List (Session P File)) (i : ℕ) (rs : List Reply) → slice_get (replies_of sessions) i ≡ Some rs → IsOf sessions i rs
session_of [] i rs at = absurd cc
session_of (q ∷ qs) zero rs at = record { session = q; stands = refl; its = some_same at }
session_of (q ∷ qs) (suc i) rs at =
    let rest = session_of qs i rs at in
    record { session = rest.session; stands = rest.stands; its = rest.its }

replies_are : {P File : Type 0} (sessions : List (Session P File)) (i : ℕ) (q : Session P File) → slice_get sessions i ≡ Some q → slice_get (replies_of sessions) i ≡ Some q.replies.items
replies_are [] i q at = absurd cc
replies_are (r ∷ rs) zero q at = ap (λ (o : Option (Session _ _)). some_replies o) at
  where
    some_replies : {P File : Type 0} → Option (Session P File) → Option (List Reply)
    some_replies None = None
    some_replies (Some t) = Some t.replies.items
replies_are (r ∷ rs) (suc i) q at = replies_are rs i q at

-- ---- sessions are left in the phase

pub kept_ready : {P File : Type 0} (tells : Bool) (pages : File → List (List ℕ)) (sink : Ghosts P File) (s : Script) (p barrier : ℕ) (held : Holding (Viewed File)) (sessions : List (Session P File)) (unfinished : List ℕ) (room : ℕ) (files : List File)
    → HasBounds s → IsWorld tells pages s p held (replies_of sessions) (ports_of sink sessions) (stages_of sessions) files → EachHasTurns s sessions
    → unfinished ≡ ready_from s p 0 s.sessions (replies_of sessions) → length s.sessions ≤ room → barrier ≡ done_before s (replies_of sessions) p → 0 < length unfinished
    → IsKeptWorld tells pages sink s p barrier held sessions unfinished room
kept_ready {P} {File} tells pages sink s p barrier held sessions unfinished room files bounds world turns ready wide barrier_is some = record {
  bounds = bounds;
  files = files;
  world = world;
  turns = turns;
  ready = ready;
  wide = wide;
  barrier_is = barrier_is;
  over = (λ none. absurd (let nothing : length unfinished ≡ 0 = ap (λ (l : List ℕ). length l) none in omega arith));
}

-- ---- the last phase has ended

pub kept_over : {P File : Type 0} (tells : Bool) (pages : File → List (List ℕ)) (sink : Ghosts P File) (s : Script) (p barrier : ℕ) (held : Holding (Viewed File)) (sessions : List (Session P File)) (unfinished : List ℕ) (room : ℕ) (files : List File)
    → HasBounds s → IsWorld tells pages s p held (replies_of sessions) (ports_of sink sessions) (stages_of sessions) files → EachHasTurns s sessions
    → unfinished ≡ ready_from s p 0 s.sessions (replies_of sessions) → length s.sessions ≤ room → barrier ≡ done_before s (replies_of sessions) p → IsNextPhase sessions None
    → IsKeptWorld tells pages sink s p barrier held sessions unfinished room
kept_over {P} {File} tells pages sink s p barrier held sessions unfinished room files bounds world turns ready wide barrier_is none = record {
  bounds = bounds;
  files = files;
  world = world;
  turns = turns;
  ready = ready;
  wide = wide;
  barrier_is = barrier_is;
  over = (λ nothing i q at. let lists : length (replies_of sessions) ≡ length s.sessions = (world.legal 0).answers.lists in
      let rs_at : slice_get (replies_of sessions) i ≡ Some q.replies.items = replies_are sessions i q at in
      let below : i < length (replies_of sessions) = slice_get_within (replies_of sessions) i q.replies.items rs_at in
      let name : List ℕ = get_or s.sessions i [] in
      let at_name : slice_get s.sessions i ≡ Some name = slice_get-get_or s.sessions i [] (omega arith) in
      let all : length q.turns.items ≡ count_of_session s name = (turns i name q at_name at).turns.count in
      let short : length q.replies.items ≤ count_before s name (p + 1) = (world.legal 0).answers.short i name q.replies.items at_name rs_at in
      let most : count_before s name (p + 1) ≤ count_of_session s name = count_before_all s name (p + 1) in
      elim (cases_lt (length q.replies.items) (length q.turns.items)) [
        | inl left ↦ absurd (let turn : slice_get q.turns.items (length q.replies.items) ≡ Some (get_or q.turns.items (length q.replies.items) (record { phase = 0; place = 0 }))
            = slice_get-get_or q.turns.items (length q.replies.items) (record { phase = 0; place = 0 }) left in
            let past : next_turn q ≡ None = none i q at in
            let e : None ≡ Some (get_or q.turns.items (length q.replies.items) (record { phase = 0; place = 0 })) = sym past ∙ turn in
            cc)
        | inr past ↦ omega arith
      ]);
}

-- ---- the next phase that has a statement

-- the phase is a later one
phase_later : {P File : Type 0} (s : Script) (p next : ℕ) (sessions : List (Session P File)) → length (replies_of sessions) ≡ length s.sessions → EachHasTurns s sessions
    → [] ≡ ready_from s p 0 s.sessions (replies_of sessions) → IsFirstPhase sessions next → p < next
phase_later {P} {File} s p next sessions lists turns none first =
    let q : Session P File = first.session in
    let rs_at : slice_get (replies_of sessions) first.at ≡ Some q.replies.items = replies_are sessions first.at q first.stands in
    let below : first.at < length (replies_of sessions) = slice_get_within (replies_of sessions) first.at q.replies.items rs_at in
    let name : List ℕ = get_or s.sessions first.at [] in
    let at_name : slice_get s.sessions first.at ≡ Some name = slice_get-get_or s.sessions first.at [] (omega arith) in
    let past : nat_lt (length q.replies.items) (count_before s name (p + 1)) ≡ false = none_ready s p 0 s.sessions (replies_of sessions) first.at name q.replies.items (sym none) at_name rs_at in
    let due : nat_lt (length q.replies.items) (count_before s name (p + 1)) ≡ is_due (next_turn q) p = due_is s name p q (turns first.at name q at_name first.stands).turns in
    let told : is_due (Some first.turn) p ≡ false = ap (λ (o : Option Turn). is_due o p) (sym first.next) ∙ sym due ∙ past in
    let phase : first.turn.phase ≡ next = first.phase in
    elim (cases_lt p first.turn.phase) [
      | inl later ↦ omega arith
      | inr sooner ↦ absurd (let yes : nat_le first.turn.phase p ≡ true = le-leb first.turn.phase p sooner in cc)
    ]

-- each statement before it has its reply
before_replied : {P File : Type 0} (s : Script) → HasSessions s → (next : ℕ) (sessions : List (Session P File)) → length (replies_of sessions) ≡ length s.sessions → EachHasTurns s sessions
    → IsFirstPhase sessions next → AllReplied s (replies_of sessions) next
before_replied {P} {File} s has next sessions lists turns first =
    all_replied s has next (replies_of sessions) lists (λ i name rs at_name at_rs. let own : IsOf sessions i rs = session_of sessions i rs at_rs in
    subst (λ (l : List Reply). count_before s name next ≤ length l) own.its
    (turns_enough s name own.session.turns.items (length own.session.replies.items) next (turns i name own.session at_name own.stands).turns
    (λ turn at. first.least i own.session turn own.stands at)))

-- a session of which no statement is left in the phase has none under way
rests : {File : Type 0} (tells : Bool) (pages : File → List (List ℕ)) (s : Script) → HasSessions s → (p next : ℕ) (now : Holding (Viewed File)) (replies : List (List Reply)) (files : List File) (i : ℕ) (rs : List Reply) (port : PortSeen File) (stage : Stage File)
    → length replies ≡ length s.sessions → [] ≡ ready_from s p 0 s.sessions replies → slice_get replies i ≡ Some rs → SessionStands tells pages s p now replies files i rs port stage
    → SessionStands tells pages s next now replies files i rs port stage
rests {File} tells pages s has p next now replies files i rs port stage lists none at_rs stood =
    elim stood [
      | inl resting ↦ inl resting
      | inr way ↦ absurd (let own : IsInPhase s p _ way.statement = next_in_phase s p replies way.statement i rs way.next in
          let number : way.statement.number ≡ length rs + 1 = way.next.number in
          let early : way.statement.number ≤ count_before s way.statement.session (p + 1) = earlier_number s has (p + 1) _ way.statement own.before in
          let past : nat_lt (length rs) (count_before s way.statement.session (p + 1)) ≡ false = none_ready s p 0 s.sessions replies i way.statement.session rs (sym none) way.next.session at_rs in
          let yes : nat_lt (length rs) (count_before s way.statement.session (p + 1)) ≡ true = lt-leb_suc (length rs) (count_before s way.statement.session (p + 1)) (omega arith) in
          cc)
    ]
  where
    lt-leb_suc : (a b : ℕ) → a < b → nat_lt a b ≡ true
    lt-leb_suc a b below = lt-ltb a b below

pub kept_next : {P File : Type 0} (tells : Bool) (pages : File → List (List ℕ)) (sink : Ghosts P File) (s : Script) (p next barrier : ℕ) (held : Holding (Viewed File)) (sessions : List (Session P File)) (unfinished : List ℕ) (room : ℕ) (files : List File)
    → HasBounds s → IsWorld tells pages s p held (replies_of sessions) (ports_of sink sessions) (stages_of sessions) files → EachHasTurns s sessions
    → [] ≡ ready_from s p 0 s.sessions (replies_of sessions) → length s.sessions ≤ room → IsFirstPhase sessions next
    → unfinished ≡ ready_from s next 0 s.sessions (replies_of sessions) → barrier ≡ length held.history
    → (p < next) × IsKeptWorld tells pages sink s next barrier held sessions unfinished room
kept_next {P} {File} tells pages sink s p next barrier held sessions unfinished room files bounds world turns none wide first ready barrier_is =
    let rs : List (List Reply) = replies_of sessions in
    let lists : length rs ≡ length s.sessions = (world.legal 0).answers.lists in
    let later : p < next = phase_later s p next sessions lists turns none first in
    let replied : AllReplied s rs next = before_replied s world.has next sessions lists turns first in
    let up : p + (next - p) ≡ next = omega arith in
    let legal : (max : ℕ) → LegalInPhase s max (Known tells s held.history (landings_of (ports_of sink sessions))) next held.history rs =
    (λ max. subst (λ (n : ℕ). LegalInPhase s max (Known tells s held.history (landings_of (ports_of sink sessions))) n held.history rs) up
    (phases_passed s world.has max (Known tells s held.history (landings_of (ports_of sink sessions))) p (next - p) held.history rs (world.legal max) (subst (λ (n : ℕ). AllReplied s rs n) (sym up) replied))) in
    let counted : done_before s rs next ≡ length held.history = done_later s world.has p rs (world.legal 0).answers next (omega arith) ∙ (world.legal 0).counted in (
      later,
      record {
        bounds = bounds;
        files = files;
        world = record {
          has = world.has;
          legal = legal;
          database = world.database;
          sound = world.sound;
          are = world.are;
          ports_paired = world.ports_paired;
          stages_paired = world.stages_paired;
          caused = world.caused;
          stands = (λ i own port stage at_own at_port at_stage. rests tells pages s world.has p next held rs files i own port stage lists none at_own (world.stands i own port stage at_own at_port at_stage));
        };
        turns = turns;
        ready = ready;
        wide = wide;
        barrier_is = barrier_is ∙ sym counted;
        over = (λ nothing. absurd (let q : Session P File = first.session in
            let rs_at : slice_get rs first.at ≡ Some q.replies.items = replies_are sessions first.at q first.stands in
            let below : first.at < length rs = slice_get_within rs first.at q.replies.items rs_at in
            let name : List ℕ = get_or s.sessions first.at [] in
            let at_name : slice_get s.sessions first.at ≡ Some name = slice_get-get_or s.sessions first.at [] (omega arith) in
            let past : nat_lt (length q.replies.items) (count_before s name (next + 1)) ≡ false = none_ready s next 0 s.sessions rs first.at name q.replies.items (sym ready ∙ nothing) at_name rs_at in
            let due : nat_lt (length q.replies.items) (count_before s name (next + 1)) ≡ is_due (next_turn q) next = due_is s name next q (turns first.at name q at_name first.stands).turns in
            let told : is_due (Some first.turn) next ≡ false = ap (λ (o : Option Turn). is_due o next) (sym first.next) ∙ sym due ∙ past in
            let phase : first.turn.phase ≡ next = first.phase in
            let yes : nat_le first.turn.phase next ≡ true = le-leb first.turn.phase next (omega arith) in
            cc));
      },
    )

-- ---- what a pick owes

less_sum : (a b x y : ℕ) → a + x ≡ b + y → y < x → a < b
less_sum a b x y same less = omega arith

-- the step that was taken, between two worlds
pub picked : {P File : Type 0} (tells : Bool) (pages : File → List (List ℕ)) (sink : Ghosts P File) (s : Script) (p next barrier at : ℕ) (held new_held : Holding (Viewed File)) (sessions : List (Session P File)) (q new : Session P File) (last new_last : Option ℕ)
    → slice_get sessions at ≡ Some q → IsStepped tells pages sink s p barrier at held new_held sessions q new
    → p ≤ next → (next ≡ p → new_last ≡ Some at) → (p < next → new_last ≡ None)
    → IsPick at (world_of sink s p held sessions last) (world_of sink s next new_held (set sessions at new) new_last)
picked {P} {File} tells pages sink s p next barrier at held new_held sessions q new last new_last at_q stepped later stays goes = record {
  script_is = refl;
  grows = stepped.grows;
  step = record {
    port = port_seen sink q.access.port;
    new = port_seen sink new.access.port;
    was = port_at sink sessions at q at_q;
    is = port_at sink (set sessions at new) at new (slice_get-set_same sessions at new (slice_get_within sessions at q at_q));
    others = (λ other apart. slice_get-map (λ (r : Session P File). port_seen sink r.access.port) (set sessions at new) other
        ∙ ap (λ (o : Option (Session P File)). option_map (λ (r : Session P File). port_seen sink r.access.port) o) (slice_get-set_other sessions at other new apart)
        ∙ sym (slice_get-map (λ (r : Session P File). port_seen sink r.access.port) sessions other));
    step = stepped.told;
  };
  later = later;
  last = (stays, goes);
  fewer = less_sum (sum_by session_left (set sessions at new)) (sum_by session_left sessions) (session_left q) (session_left new)
      (subst (λ (t : Session P File). sum_by session_left (set sessions at new) + session_left t ≡ sum_by session_left sessions + session_left new) (get_or_from_slice_get sessions at q q at_q)
      (sum_by-set session_left sessions at new q (slice_get_within sessions at q at_q))) stepped.fewer;
}

-- a world between two picks is legal so far, and its failures have their causes
pub kept_legal : {P File : Type 0} (tells : Bool) (pages : File → List (List ℕ)) (sink : Ghosts P File) (s : Script) (p barrier : ℕ) (held : Holding (Viewed File)) (sessions : List (Session P File)) (unfinished : List ℕ) (room : ℕ) (last : Option ℕ)
    → IsKeptWorld tells pages sink s p barrier held sessions unfinished room → IsLegalSoFar tells (world_of sink s p held sessions last)
kept_legal tells pages sink s p barrier held sessions unfinished room last kept max = kept.world.legal max

pub kept_causes : {P File : Type 0} (tells : Bool) (pages : File → List (List ℕ)) (sink : Ghosts P File) (s : Script) (p barrier : ℕ) (held : Holding (Viewed File)) (sessions : List (Session P File)) (unfinished : List ℕ) (room : ℕ) (last : Option ℕ)
    → IsKeptWorld tells pages sink s p barrier held sessions unfinished room → AreCausedSoFar tells (world_of sink s p held sessions last)
kept_causes {P} {File} tells pages sink s p barrier held sessions unfinished room last kept = record {
  files = kept.files;
  count = kept.world.are.count ∙ ap (λ (d : RowDatabase). d.made) kept.world.database;
  paired = kept.world.ports_paired;
  each = kept.world.caused;
}

-- ---- a pick by the contracts of the calls in it

-- the session at the k-th place took a step
pub record IsTaken {P File : Type 0} (tells : Bool) (pages : File → List (List ℕ)) (sink : Ghosts P File) (s : Script) (p barrier k at : ℕ) (held new_held : Holding (Viewed File)) (sessions : List (Session P File)) (q new : Session P File) : Type 0 where
  pub listed : slice_get (ready_from s p 0 s.sessions (replies_of sessions)) k ≡ Some at
  pub at_q : slice_get sessions at ≡ Some q
  pub name : List ℕ
  pub at_name : slice_get s.sessions at ≡ Some name
  pub stepped : IsStepped tells pages sink s p barrier at held new_held sessions q new
  pub turns : EachHasTurns s (set sessions at new)

-- the place that is read of the list
pub place_at : (unfinished : List ℕ) (k n at : ℕ) → n ≡ length unfinished → 0 < length unfinished → at ≡ get_or unfinished (k % n) at → slice_get unfinished (k % n) ≡ Some at
place_at unfinished k n at n_is some is =
    slice_get_read unfinished (length unfinished) (k % n) at refl (subst (λ (m : ℕ). k % m < length unfinished) (sym n_is) (mod_below k (length unfinished) some)) is

-- a session stands at it
pub session_below : {P File : Type 0} (tells : Bool) (pages : File → List (List ℕ)) (sink : Ghosts P File) (s : Script) (p barrier : ℕ) (held : Holding (Viewed File)) (sessions : List (Session P File)) (unfinished : List ℕ) (room : ℕ)
    → IsKeptWorld tells pages sink s p barrier held sessions unfinished room → (k at : ℕ) → slice_get unfinished k ≡ Some at → at < length sessions
session_below {P} {File} tells pages sink s p barrier held sessions unfinished room kept k at at_k =
    let there : IsReadyAt s p 0 s.sessions (replies_of sessions) at =
    ready_place s p 0 s.sessions (replies_of sessions) k at (subst (λ (l : List ℕ). slice_get l k ≡ Some at) kept.ready at_k) in
    let place : at ≡ 0 + there.place = there.at_is in
    let own : IsOf sessions there.place there.of_session = session_of sessions there.place there.of_session there.is in
    let below : there.place < length sessions = slice_get_within sessions there.place own.session own.stands in
    omega arith

pub taken : {P File : Type 0} (tells : Bool) (pages : File → List (List ℕ)) (sink : Ghosts P File) (s : Script) (p barrier : ℕ) (held new_held : Holding (Viewed File)) (sessions : List (Session P File)) (unfinished : List ℕ) (room : ℕ)
    → IsKeptWorld tells pages sink s p barrier held sessions unfinished room → (k at : ℕ) (q new : Session P File) → slice_get unfinished k ≡ Some at → q ≡ get_or sessions at q
    → ((x : Statement) → IsNextOf s q x → HasStepped tells pages sink x (floor_of barrier q) held new_held q new)
    → ((files : List File) → AreFiles held files → HasFiles new_held files) → IsSound tells pages new_held → KeepsTables held new_held
    → IsTaken tells pages sink s p barrier k at held new_held sessions q new
taken {P} {File} tells pages sink s p barrier held new_held sessions unfinished room kept k at q new at_k q_is steps more_files sound keeps =
    let at_q : slice_get sessions at ≡ Some q = slice_get_read sessions (length sessions) at q refl (session_below tells pages sink s p barrier held sessions unfinished room kept k at at_k) q_is in
    let f : IsFound s p sessions at q = found tells pages sink s p barrier held sessions unfinished room kept k at q at_k at_q in
    let did = steps f.statement f.is in
    record {
      listed = subst (λ (l : List ℕ). slice_get l k ≡ Some at) kept.ready at_k;
      at_q = at_q;
      name = f.name;
      at_name = f.at_name;
      stepped = stepped tells pages sink s p barrier held new_held sessions unfinished room kept k at q new at_k at_q steps more_files sound keeps;
      turns = turns_kept s sessions at q new kept.turns at_q did.turns did.room;
    }

-- it has statements left in the phase, or none
pub still_listed : {P File : Type 0} (tells : Bool) (pages : File → List (List ℕ)) (sink : Ghosts P File) (s : Script) (p barrier k at : ℕ) (held new_held : Holding (Viewed File)) (sessions : List (Session P File)) (q new : Session P File)
    → IsTaken tells pages sink s p barrier k at held new_held sessions q new → is_due (next_turn new) p ≡ true
    → ready_from s p 0 s.sessions (replies_of (set sessions at new)) ≡ ready_from s p 0 s.sessions (replies_of sessions)
still_listed {P} {File} tells pages sink s p barrier k at held new_held sessions q new t due =
    let at_new : slice_get (set sessions at new) at ≡ Some new = slice_get-set_same sessions at new (slice_get_within sessions at q t.at_q) in
    let left : nat_lt (length new.replies.items) (count_before s t.name (p + 1)) ≡ true = due_is s t.name p new (t.turns at t.name new t.at_name at_new).turns ∙ due in
    ap (λ (rs : List (List Reply)). ready_from s p 0 s.sessions rs) (map-set (λ (r : Session P File). r.replies.items) sessions at new)
    ∙ ready_stays s p s.sessions (replies_of sessions) k at t.name new.replies.items t.listed t.at_name left

pub no_longer_listed : {P File : Type 0} (tells : Bool) (pages : File → List (List ℕ)) (sink : Ghosts P File) (s : Script) (p barrier k at : ℕ) (held new_held : Holding (Viewed File)) (sessions : List (Session P File)) (q new : Session P File)
    → IsTaken tells pages sink s p barrier k at held new_held sessions q new → is_due (next_turn new) p ≡ false
    → ready_from s p 0 s.sessions (replies_of (set sessions at new)) ≡ remove (ready_from s p 0 s.sessions (replies_of sessions)) k
no_longer_listed {P} {File} tells pages sink s p barrier k at held new_held sessions q new t due =
    let at_new : slice_get (set sessions at new) at ≡ Some new = slice_get-set_same sessions at new (slice_get_within sessions at q t.at_q) in
    let none : nat_lt (length new.replies.items) (count_before s t.name (p + 1)) ≡ false = due_is s t.name p new (t.turns at t.name new t.at_name at_new).turns ∙ due in
    ap (λ (rs : List (List Reply)). ready_from s p 0 s.sessions rs) (map-set (λ (r : Session P File). r.replies.items) sessions at new)
    ∙ ready_goes s p s.sessions (replies_of sessions) k at t.name new.replies.items t.listed t.at_name none

-- the session that is read back
pub due_of : {P File : Type 0} (sessions : List (Session P File)) (at : ℕ) (new r : Session P File) (p : ℕ) (n : Option Turn) (b : Bool) → at < length sessions → r ≡ get_or (set sessions at new) at r
    → n ≡ next_turn r → b ≡ is_due n p → is_due (next_turn new) p ≡ b
due_of {P} {File} sessions at new r p n b below is n_is b_is =
    let long : length (set sessions at new) ≡ length sessions = length-set sessions at new in
    let same : new ≡ r = some_same (sym (slice_get-set_same sessions at new below) ∙ slice_get_read (set sessions at new) (length (set sessions at new)) at r refl (omega arith) is) in
    ap (λ (t : Session P File). is_due (next_turn t) p) same ∙ ap (λ (o : Option Turn). is_due o p) (sym n_is) ∙ sym b_is

-- the place that a clause of a pick tells is the one that was read
pub same_place : (places unfinished : List ℕ) (k n at other : ℕ) → places ≡ unfinished → n ≡ length unfinished → slice_get unfinished (k % n) ≡ Some at
    → slice_get places (k % length places) ≡ Some other → at ≡ other
same_place places unfinished k n at other same n_is at_k told =
    let length_is : length places ≡ n = ap (λ (l : List ℕ). length l) same ∙ sym n_is in
    some_same (sym at_k ∙ ap (λ (l : List ℕ). slice_get l (k % n)) (sym same) ∙ ap (λ (m : ℕ). slice_get places (k % m)) (sym length_is) ∙ told)

-- sessions have the places of their statements, one list a name
pub have_turns : {P File : Type 0} (s : Script) (sessions : List (Session P File)) → length (replies_of sessions) ≡ length s.sessions → EachHasTurns s sessions → HaveTurns s s.sessions sessions
have_turns {P} {File} s sessions lists turns = record {
  paired = sym (length-map sessions (λ (q : Session P File). q.replies.items)) ∙ lists;
  each = (λ i name q at_name at_q. (turns i name q at_name at_q).turns);
}
