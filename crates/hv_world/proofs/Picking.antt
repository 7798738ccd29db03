-- One pick over the fields of a world: the statement that is picked, its step, and what holds behind it.
use Rattle.std.proofs.Common.{◌≡◌, ◌⊎◌, ℕ, zero, suc, ◌+◌, ◌-◌, ◌*◌, ◌<◌, ◌≤◌, Bool, true, List, [], ◌∷◌, ◌++◌, length, set, take, get_or, count_by, Option, Some, inl, inr, refl, sym, ap, subst, ◌∙◌, arith, le_refl}
use Rattle.std.specs.Prelude.{nat_lt, option_map}
use Rattle.std.specs.List.{slice_get}
use Rattle.std.proofs.Math.Nat.{le-max_left, le-max_right, max-le, suc-mul}
use Rattle.std.proofs.lemmas.Bool.{ltb-true}
use Rattle.std.proofs.lemmas.Option.{slice_get_within, slice_get-get_or, get_or_from_slice_get, slice_get-map, slice_get_read}
use Rattle.std.proofs.lemmas.List.{map-set, length_push}
use Rattle.std.proofs.Math.Seq.{map-set_same}
use Rattle.hv_row.specs.Schema.{same_name}
use Rattle.hv_dev.specs.declared.sink.PageSink.{Ghosts}
use Rattle.hv_view.specs.View.{Viewed}
use Rattle.hv_model.specs.declared.script.Script.{Script}
use Rattle.hv_model.specs.declared.script.Statement.{Statement}
use Rattle.hv_model.specs.declared.reply.Reply.{Reply}
use Rattle.hv_model.specs.declared.reply.Reply.TheVariants as reply
use Rattle.hv_model.specs.declared.reply.Failure.TheVariants as failure
use Rattle.hv_model.specs.Database.{RowDatabase}
use Rattle.hv_model.specs.Legal.{Stands, count_of_session, done_before}
use Rattle.hv_model.specs.Sessions.{IsNext, IsSeen, statements_before, count_before, last_number, with_reply}
use Rattle.hv_model.proofs.SessionScripts.{same_statement, in_phase, number_in_phase}
use Rattle.hv_model.proofs.SessionReplies.{count_before_all, done_earlier}
use Rattle.hv_model.proofs.SessionWorld.{HasNext, has_next, next_stands, seen_present}
use Rattle.hv_catalogue.specs.Holding.{Holding}
use Rattle.hv_world.specs.declared.session.Session.{Session}
use Rattle.hv_world.specs.declared.stage.Stage.{Stage}
use Rattle.hv_world.specs.declared.stage.Stage.TheVariants as stage_of
use Rattle.hv_world.specs.declared.stage.Step.{Step}
use Rattle.hv_world.specs.declared.stage.Step.TheVariants.{Goes, Answered}
use Rattle.hv_world.specs.declared.turns.Turn.{Turn}
use Rattle.hv_world.specs.Damage.{RepliedBy}
use Rattle.hv_world.specs.Known.{Known}
use Rattle.hv_world.specs.Look.{KeepsTables}
use Rattle.hv_world.specs.Picks.{IsNextOf, CanStep, Becomes, HasStepped, floor_of}
use Rattle.hv_world.specs.Reads.{PortSeen, port_seen, IsStill}
use Rattle.hv_world.specs.Stage.{left_of, most_steps}
use Rattle.hv_world.specs.Standing.{IsPast, IsWorld}
use Rattle.hv_world.specs.Step.{GoesTo, IsStep}
use Rattle.hv_world.specs.Stored.{IsSound, AreFiles, HasFiles}
use Rattle.hv_world.specs.Turns.{IsTurn, AreTurns, HasTurns, IsKeptWorld, replies_of, ports_of, stages_of, session_left}
use Rattle.hv_world.specs.World.{CountsTell, GrowsByOne, RepliesOnce, landings_of}
use Rattle.hv_world.proofs.PickPlaces.{IsReadyAt, ready_place}
use Rattle.hv_world.proofs.WorldSteps.{some_same, staged_next, past_of, goes_on}
use Rattle.hv_world.proofs.WorldAnswers.{HasGrown, answered_on}

-- ---- the session that is picked

-- a session with a statement left in the phase, and this statement
pub record IsFound {P File : Type 0} (s : Script) (p : ℕ) (sessions : List (Session P File)) (at : ℕ) (q : Session P File) : Type 0 where
  pub name : List ℕ
  pub at_name : slice_get s.sessions at ≡ Some name
  pub below : nat_lt (length q.replies.items) (count_before s name (p + 1)) ≡ true
  pub statement : Statement
  pub next : IsNext s p (replies_of sessions) statement at q.replies.items
  pub is : IsNextOf s q statement

-- the replies of a session among those of all
replies_at : {P File : Type 0} (sessions : List (Session P File)) (at : ℕ) (q : Session P File) → slice_get sessions at ≡ Some q → slice_get (replies_of sessions) at ≡ Some q.replies.items
replies_at {P} {File} sessions at q at_q = slice_get-map (λ (r : Session P File). r.replies.items) sessions at ∙ ap (λ (o : Option (Session P File)). option_map (λ (r : Session P File). r.replies.items) o) at_q

pub port_at : {P File : Type 0} (sink : Ghosts P File) (sessions : List (Session P File)) (at : ℕ) (q : Session P File) → slice_get sessions at ≡ Some q
    → slice_get (ports_of sink sessions) at ≡ Some (port_seen sink q.access.port)
port_at {P} {File} sink sessions at q at_q =
    slice_get-map (λ (r : Session P File). port_seen sink r.access.port) sessions at ∙ ap (λ (o : Option (Session P File)). option_map (λ (r : Session P File). port_seen sink r.access.port) o) at_q

stage_at : {P File : Type 0} (sessions : List (Session P File)) (at : ℕ) (q : Session P File) → slice_get sessions at ≡ Some q → slice_get (stages_of sessions) at ≡ Some q.stage
stage_at {P} {File} sessions at q at_q = slice_get-map (λ (r : Session P File). r.stage) sessions at ∙ ap (λ (o : Option (Session P File)). option_map (λ (r : Session P File). r.stage) o) at_q

pub found : {P File : Type 0} (tells : Bool) (pages : File → List (List ℕ)) (sink : Ghosts P File) (s : Script) (p barrier : ℕ) (held : Holding (Viewed File)) (sessions : List (Session P File)) (unfinished : List ℕ) (room : ℕ)
    → IsKeptWorld tells pages sink s p barrier held sessions unfinished room → (k at : ℕ) (q : Session P File) → slice_get unfinished k ≡ Some at → slice_get sessions at ≡ Some q
    → IsFound s p sessions at q
found {P} {File} tells pages sink s p barrier held sessions unfinished room kept k at q at_k at_q =
    let there : IsReadyAt s p 0 s.sessions (replies_of sessions) at =
    ready_place s p 0 s.sessions (replies_of sessions) k at (subst (λ (l : List ℕ). slice_get l k ≡ Some at) kept.ready at_k) in
    let place : there.place ≡ at = (let is : at ≡ 0 + there.place = there.at_is in omega arith) in
    let name : List ℕ = there.name in
    let at_name : slice_get s.sessions at ≡ Some name = subst (λ (i : ℕ). slice_get s.sessions i ≡ Some name) place there.at_name in
    let at_rs : slice_get (replies_of sessions) at ≡ Some q.replies.items = replies_at sessions at q at_q in
    let same_rs : there.of_session ≡ q.replies.items = some_same (sym (subst (λ (i : ℕ). slice_get (replies_of sessions) i ≡ Some there.of_session) place there.is) ∙ at_rs) in
    let below : nat_lt (length q.replies.items) (count_before s name (p + 1)) ≡ true = subst (λ (l : List Reply). nat_lt (length l) (count_before s name (p + 1)) ≡ true) same_rs there.below in
    let less : length q.replies.items < count_before s name (p + 1) = ltb-true (length q.replies.items) (count_before s name (p + 1)) below in
    let had : HasNext s p (replies_of sessions) at q.replies.items = has_next s kept.world.has p (replies_of sessions) at name q.replies.items (kept.world.legal 0).answers at_name at_rs less in
    let its : AreTurns s name q.turns.items = (kept.turns at name q at_name at_q).turns in
    let all : length q.turns.items ≡ count_of_session s name = its.count in
    let most : count_before s name (p + 1) ≤ count_of_session s name = count_before_all s name (p + 1) in
    let turn : Turn = get_or q.turns.items (length q.replies.items) (record { phase = 0; place = 0 }) in
    let at_turn : slice_get q.turns.items (length q.replies.items) ≡ Some turn = slice_get-get_or q.turns.items (length q.replies.items) (record { phase = 0; place = 0 }) (omega arith) in
    let stood : IsTurn s name (length q.replies.items) turn = its.each (length q.replies.items) turn at_turn in
    let x : Statement = stood.statement in
    let counted : length q.replies.items ≡ count_before s name turn.phase + count_by (λ y. same_name y.session name) (take turn.place stood.phase) = stood.counted in
    let number : x.number ≡ count_before s x.session turn.phase + count_by (λ y. same_name y.session x.session) (take turn.place stood.phase) + 1 =
    number_in_phase s kept.world.has turn.phase turn.place stood.phase x stood.phase_is stood.stands in
    let named : x.number ≡ count_before s name turn.phase + count_by (λ y. same_name y.session name) (take turn.place stood.phase) + 1 =
    subst (λ (n : List ℕ). x.number ≡ count_before s n turn.phase + count_by (λ y. same_name y.session n) (take turn.place stood.phase) + 1) stood.session number in
    let number_is : x.number ≡ length q.replies.items + 1 = omega arith in
    let stands : Stands s x = (length (statements_before s turn.phase) + turn.place, (in_phase s turn.phase turn.place stood.phase x stood.phase_is stood.stands).stands) in
    let session : had.statement.session ≡ name = some_same (sym had.next.session ∙ at_name) in
    let same : had.statement ≡ x = same_statement s kept.world.has had.statement x (next_stands s p (replies_of sessions) had.statement at q.replies.items had.next) stands
    (session ∙ sym stood.session) (had.next.number ∙ sym number_is) in
    record {
      name = name;
      at_name = at_name;
      below = below;
      statement = x;
      next = subst (λ (y : Statement). IsNext s p (replies_of sessions) y at q.replies.items) same had.next;
      is = record { turn = turn; next = at_turn; phase = stood.phase; phase_is = stood.phase_is; stands = stood.stands };
    }

-- the least number that its reply may tell was seen
floor_seen : {P File : Type 0} (tells : Bool) (pages : File → List (List ℕ)) (sink : Ghosts P File) (s : Script) (p barrier : ℕ) (held : Holding (Viewed File)) (sessions : List (Session P File)) (unfinished : List ℕ) (room : ℕ)
    → IsKeptWorld tells pages sink s p barrier held sessions unfinished room → (at : ℕ) (q : Session P File) → slice_get sessions at ≡ Some q → IsFound s p sessions at q
    → IsSeen s p held.history (replies_of sessions) q.replies.items (floor_of barrier q)
floor_seen {P} {File} tells pages sink s p barrier held sessions unfinished room kept at q at_q f =
    let present : IsSeen s p held.history (replies_of sessions) q.replies.items (length held.history) =
    seen_present s kept.world.has 0 (Known tells s held.history (landings_of (ports_of sink sessions))) p held.history (replies_of sessions) at f.name q.replies.items (kept.world.legal 0) f.at_name (replies_at sessions at q at_q) in
    let own : last_number q.replies.items ≤ length held.history = present.after_own in
    let phases : done_before s (replies_of sessions) p ≤ length held.history = present.after_phases in
    let is : barrier ≡ done_before s (replies_of sessions) p = kept.barrier_is in
    let left : barrier ≤ floor_of barrier q = le-max_left barrier (last_number q.replies.items) in
    record {
      reached = max-le (subst (λ (n : ℕ). n ≤ length held.history) (sym is) phases) own;
      after_own = le-max_right barrier (last_number q.replies.items);
      after_phases = subst (λ (n : ℕ). n ≤ floor_of barrier q) is left;
    }

-- it can take a step
pub can_step : {P File : Type 0} (tells : Bool) (pages : File → List (List ℕ)) (sink : Ghosts P File) (s : Script) (p barrier : ℕ) (held : Holding (Viewed File)) (sessions : List (Session P File)) (unfinished : List ℕ) (room : ℕ)
    → IsKeptWorld tells pages sink s p barrier held sessions unfinished room → (k at : ℕ) (q : Session P File) → slice_get unfinished k ≡ Some at → slice_get sessions at ≡ Some q
    → CanStep tells pages sink s held q
can_step {P} {File} tells pages sink s p barrier held sessions unfinished room kept k at q at_k at_q =
    let f : IsFound s p sessions at q = found tells pages sink s p barrier held sessions unfinished room kept k at q at_k at_q in
    let at_rs : slice_get (replies_of sessions) at ≡ Some q.replies.items = replies_at sessions at q at_q in
    let its : HasTurns s f.name q = kept.turns at f.name q f.at_name at_q in
    let within : length q.replies.items < length q.turns.items = slice_get_within q.turns.items (length q.replies.items) f.is.turn f.is.next in
    record {
      statement = f.statement;
      next = f.is;
      text = kept.bounds.short_text f.statement (next_stands s p (replies_of sessions) f.statement at q.replies.items f.next);
      staged = staged_next tells pages s kept.world.has p held (replies_of sessions) kept.files f.statement at q.replies.items (port_seen sink q.access.port) q.stage f.next
          (kept.world.stands at q.replies.items (port_seen sink q.access.port) q.stage at_rs (port_at sink sessions at q at_q) (stage_at sessions at q at_q));
      room = (let wide : length q.turns.items ≤ _ = its.room in omega arith);
    }

-- the statement that is found at its place
pub statement_is : {P File : Type 0} (s : Script) (q : Session P File) (x : Statement) → IsNextOf s q x → (n : ℕ) (turn : Turn) (phases : List (List Statement)) (phase inside : List Statement) (y : Statement)
    → n ≡ length q.replies.items → turn ≡ get_or q.turns.items n turn → phases ≡ s.phases → phase ≡ get_or phases turn.phase phase → inside ≡ phase → y ≡ get_or inside turn.place y → y ≡ x
statement_is {P} {File} s q x next n turn phases phase inside y n_is turn_is phases_are phase_is inside_is y_is =
    let at_turn : slice_get q.turns.items n ≡ Some next.turn = ap (λ (k : ℕ). slice_get q.turns.items k) n_is ∙ next.next in
    let same_turn : turn ≡ next.turn = some_same (sym (slice_get_read q.turns.items (length q.turns.items) n turn refl (slice_get_within q.turns.items n next.turn at_turn) turn_is) ∙ at_turn) in
    let at_phase : slice_get phases turn.phase ≡ Some next.phase =
    ap (λ (l : List (List Statement)). slice_get l turn.phase) phases_are ∙ ap (λ (t : Turn). slice_get s.phases t.phase) same_turn ∙ next.phase_is in
    let same_phase : phase ≡ next.phase = some_same (sym (slice_get_read phases (length phases) turn.phase phase refl (slice_get_within phases turn.phase next.phase at_phase) phase_is) ∙ at_phase) in
    let at_place : slice_get inside turn.place ≡ Some x =
    ap (λ (l : List Statement). slice_get l turn.place) (inside_is ∙ same_phase) ∙ ap (λ (t : Turn). slice_get next.phase t.place) same_turn ∙ next.stands in
    some_same (sym (slice_get_read inside (length inside) turn.place y refl (slice_get_within inside turn.place x at_place) y_is) ∙ at_place)

-- ---- what its reply says of the counts

counts_tell : {File : Type 0} (tells : Bool) (d : RowDatabase) (files : List File) (before after : PortSeen File) (r : Reply) → RepliedBy tells d files before after r → CountsTell before after r
counts_tell tells d files before after (reply.Done at what) by = by.0
counts_tell tells d files before after (reply.Rows at rows) by = by.0
counts_tell tells d files before after (reply.Refused at cause) by = by.0
counts_tell tells d files before after (reply.Failed at failure.Read) by = (by.0, by.1)
counts_tell tells d files before after (reply.Failed at failure.Write) by = by
counts_tell tells d files before after (reply.Failed at (failure.Damaged chunk page why)) by = by.0
counts_tell tells d files before after (reply.Failed at failure.Memory) by = by.0

-- ---- how many steps are left

left_falls : (d m a b : ℕ) → 0 < d → a < b → d * m + a - m < d * m + b - m
left_falls zero m a b some less = absurd (omega arith)
left_falls (suc c) m a b some less = (let e : suc c * m ≡ c * m + m = suc-mul c m in omega arith)

left_answers : (d c m b : ℕ) → d ≡ suc c → 0 < b → c * m + m - m < d * m + b - m
left_answers d c m b is some = (let e : d * m ≡ c * m + m = ap (λ (n : ℕ). n * m) is ∙ suc-mul c m in omega arith)

left_some : {File : Type 0} (stage : Stage File) → 0 < left_of stage
left_some stage_of.Unbegun = omega arith
left_some (stage_of.Rows table look) = omega arith
left_some (stage_of.Building table look job) = omega arith
left_some (stage_of.Made table look chunk) = omega arith
left_some (stage_of.Reading job) = omega arith

-- ---- behind a step of the session

-- the same lists by other names
world_is : {File : Type 0} (tells : Bool) (pages : File → List (List ℕ)) (s : Script) (p : ℕ) (now : Holding (Viewed File)) (replies replies_now : List (List Reply)) (ports ports_now : List (PortSeen File)) (stages stages_now : List (Stage File)) (files : List File)
    → replies ≡ replies_now → ports ≡ ports_now → stages ≡ stages_now → IsWorld tells pages s p now replies ports stages files → IsWorld tells pages s p now replies_now ports_now stages_now files
world_is {File} tells pages s p now replies replies_now ports ports_now stages stages_now files same_replies same_ports same_stages w =
    subst (λ (rs : List (List Reply)). IsWorld tells pages s p now rs ports_now stages_now files) same_replies
    (subst (λ (ps : List (PortSeen File)). IsWorld tells pages s p now replies ps stages_now files) same_ports
    (subst (λ (ts : List (Stage File)). IsWorld tells pages s p now replies ports ts files) same_stages w))

-- what holds behind the step of one session, in the phase in which it took it
pub record IsStepped {P File : Type 0} (tells : Bool) (pages : File → List (List ℕ)) (sink : Ghosts P File) (s : Script) (p barrier at : ℕ) (before after : Holding (Viewed File)) (sessions : List (Session P File)) (q new : Session P File) : Type 0 where
  pub files : List File
  pub world : IsWorld tells pages s p after (replies_of (set sessions at new)) (ports_of sink (set sessions at new)) (stages_of (set sessions at new)) files
  pub grows : GrowsByOne before.history after.history
  pub told : ((replies_of (set sessions at new) ≡ replies_of sessions) × (after ≡ before) × IsStill (port_seen sink q.access.port) (port_seen sink new.access.port))
      ⊎ ((r : Reply) × RepliesOnce at (replies_of sessions) (replies_of (set sessions at new)) r × CountsTell (port_seen sink q.access.port) (port_seen sink new.access.port) r)
  pub fewer : session_left new < session_left q
  pub barrier_is : barrier ≡ done_before s (replies_of (set sessions at new)) p

-- it goes on
goes_stepped : {P File : Type 0} (tells : Bool) (pages : File → List (List ℕ)) (sink : Ghosts P File) (s : Script) (p barrier : ℕ) (held : Holding (Viewed File)) (sessions : List (Session P File)) (unfinished : List ℕ) (room : ℕ)
    → IsKeptWorld tells pages sink s p barrier held sessions unfinished room → (at : ℕ) (q new : Session P File) → slice_get sessions at ≡ Some q → (f : IsFound s p sessions at q)
    → (next : Stage File) → GoesTo tells pages f.statement held held q.stage next (port_seen sink q.access.port) (port_seen sink new.access.port)
    → new.stage ≡ next → new.replies.items ≡ q.replies.items → new.turns.items ≡ q.turns.items
    → IsStepped tells pages sink s p barrier at held held sessions q new
goes_stepped {P} {File} tells pages sink s p barrier held sessions unfinished room kept at q new at_q f next goes stage_is replies_are turns_are =
    let at_rs : slice_get (replies_of sessions) at ≡ Some q.replies.items = replies_at sessions at q at_q in
    let same : replies_of (set sessions at new) ≡ replies_of sessions =
    map-set_same (λ (r : Session P File). r.replies.items) sessions at new q (replies_are ∙ ap (λ (r : Session P File). r.replies.items) (sym (get_or_from_slice_get sessions at q q at_q))) in
    let ports : ports_of sink (set sessions at new) ≡ set (ports_of sink sessions) at (port_seen sink new.access.port) = map-set (λ (r : Session P File). port_seen sink r.access.port) sessions at new in
    let stages : stages_of (set sessions at new) ≡ set (stages_of sessions) at next = map-set (λ (r : Session P File). r.stage) sessions at new ∙ ap (λ (t : Stage File). set (stages_of sessions) at t) stage_is in
    let within : length q.replies.items < length q.turns.items = slice_get_within q.turns.items (length q.replies.items) f.is.turn f.is.next in
    let less : left_of next < left_of q.stage = goes.fewer in
    record {
      files = kept.files;
      world = world_is tells pages s p held (replies_of sessions) (replies_of (set sessions at new)) (set (ports_of sink sessions) at (port_seen sink new.access.port)) (ports_of sink (set sessions at new))
          (set (stages_of sessions) at next) (stages_of (set sessions at new)) kept.files (sym same) (sym ports) (sym stages)
          (goes_on tells pages s p held (replies_of sessions) (ports_of sink sessions) (stages_of sessions) kept.files f.statement at q.replies.items (port_seen sink q.access.port) (port_seen sink new.access.port) q.stage next
          kept.world f.next (port_at sink sessions at q at_q) (stage_at sessions at q at_q) goes);
      grows = inl refl;
      told = inl (same, refl, goes.well.still);
      fewer = (rw (ap (λ (l : List Turn). length l) turns_are, ap (λ (l : List Reply). length l) replies_are, stage_is)
          (left_falls (length q.turns.items - length q.replies.items) most_steps (left_of next) (left_of q.stage) (omega arith) less));
      barrier_is = kept.barrier_is ∙ ap (λ (rs : List (List Reply)). done_before s rs p) (sym same);
    }

-- its port's counts, where it is answered
answer_counts : {P File : Type 0} (tells : Bool) (pages : File → List (List ℕ)) (sink : Ghosts P File) (s : Script) (p barrier : ℕ) (held new_held : Holding (Viewed File)) (sessions : List (Session P File)) (unfinished : List ℕ) (room : ℕ)
    → IsKeptWorld tells pages sink s p barrier held sessions unfinished room → (at : ℕ) (q : Session P File) → slice_get sessions at ≡ Some q → (x : Statement) (floor : ℕ) (new : PortSeen File) (r : Reply)
    → IsStep tells pages x floor held new_held q.stage (port_seen sink q.access.port) new (Answered r) → CountsTell (port_seen sink q.access.port) new r
answer_counts {P} {File} tells pages sink s p barrier held new_held sessions unfinished room kept at q at_q x floor new r step =
    let port : PortSeen File = port_seen sink q.access.port in
    elim step.1 [
      | inl over ↦ counts_tell tells _ kept.files port new r (over.cause kept.files kept.world.are)
      | inr rest ↦ elim rest [
        | inl then ↦ (let past : IsPast s p held (replies_of sessions) kept.files q.replies.items then.look.held.value =
            past_of tells pages s p held (replies_of sessions) kept.files at q.replies.items port q.stage then.look
            (kept.world.stands at q.replies.items port q.stage (replies_at sessions at q at_q) (port_at sink sessions at q at_q) (stage_at sessions at q at_q)) then.looked in
            counts_tell tells _ past.first port new r (then.over.cause past.first past.are))
        | inr never ↦ subst (λ (t : Reply). CountsTell port new t) (sym never.is) (subst (λ (t : PortSeen File). IsStill port t) (sym never.port_is) (record { reads = refl; writes = refl }))
      ]
    ]

-- it is answered
answered_stepped : {P File : Type 0} (tells : Bool) (pages : File → List (List ℕ)) (sink : Ghosts P File) (s : Script) (p barrier : ℕ) (held new_held : Holding (Viewed File)) (sessions : List (Session P File)) (unfinished : List ℕ) (room : ℕ)
    → IsKeptWorld tells pages sink s p barrier held sessions unfinished room → (at : ℕ) (q new : Session P File) → slice_get sessions at ≡ Some q → (f : IsFound s p sessions at q) → (r : Reply)
    → IsStep tells pages f.statement (floor_of barrier q) held new_held q.stage (port_seen sink q.access.port) (port_seen sink new.access.port) (Answered r)
    → new.stage ≡ stage_of.Unbegun → new.replies.items ≡ q.replies.items ++ r ∷ [] → new.turns.items ≡ q.turns.items
    → ((files : List File) → AreFiles held files → HasFiles new_held files) → IsSound tells pages new_held → KeepsTables held new_held
    → IsStepped tells pages sink s p barrier at held new_held sessions q new
answered_stepped {P} {File} tells pages sink s p barrier held new_held sessions unfinished room kept at q new at_q f r step stage_is replies_are turns_are more_files sound keeps =
    let rs : List Reply = q.replies.items in
    let port : PortSeen File = port_seen sink q.access.port in
    let port_now : PortSeen File = port_seen sink new.access.port in
    let at_rs : slice_get (replies_of sessions) at ≡ Some rs = replies_at sessions at q at_q in
    let replies : replies_of (set sessions at new) ≡ with_reply (replies_of sessions) at rs r =
    map-set (λ (t : Session P File). t.replies.items) sessions at new ∙ ap (λ (l : List Reply). set (replies_of sessions) at l) replies_are in
    let ports : ports_of sink (set sessions at new) ≡ set (ports_of sink sessions) at port_now = map-set (λ (t : Session P File). port_seen sink t.access.port) sessions at new in
    let stages : stages_of (set sessions at new) ≡ set (stages_of sessions) at stage_of.Unbegun =
    map-set (λ (t : Session P File). t.stage) sessions at new ∙ ap (λ (t : Stage File). set (stages_of sessions) at t) stage_is in
    let grown : HasGrown tells pages s p held new_held (with_reply (replies_of sessions) at rs r) (set (ports_of sink sessions) at port_now) (set (stages_of sessions) at stage_of.Unbegun) kept.files =
    answered_on tells pages s p held new_held (replies_of sessions) (ports_of sink sessions) (stages_of sessions) kept.files f.statement at rs port port_now q.stage r (floor_of barrier q)
    kept.world f.next (port_at sink sessions at q at_q) (stage_at sessions at q at_q) (floor_seen tells pages sink s p barrier held sessions unfinished room kept at q at_q f) step more_files sound keeps in
    let within : length rs < length q.turns.items = slice_get_within q.turns.items (length rs) f.is.turn f.is.next in
    let longer : length new.replies.items ≡ length rs + 1 = ap (λ (l : List Reply). length l) replies_are ∙ length_one rs r in
    let rest : length new.turns.items - length new.replies.items ≡ length q.turns.items - length rs - 1 = (let t : length new.turns.items ≡ length q.turns.items = ap (λ (l : List Turn). length l) turns_are in omega arith) in
    let left : length q.turns.items - length rs ≡ suc (length q.turns.items - length rs - 1) = omega arith in
    record {
      files = kept.files ++ grown.fresh;
      world = world_is tells pages s p new_held (with_reply (replies_of sessions) at rs r) (replies_of (set sessions at new)) (set (ports_of sink sessions) at port_now) (ports_of sink (set sessions at new))
          (set (stages_of sessions) at stage_of.Unbegun) (stages_of (set sessions at new)) (kept.files ++ grown.fresh) (sym replies) (sym ports) (sym stages) grown.world;
      grows = grown.grows;
      told = inr (
        r,
        record { of_session = rs; were = at_rs; are = replies },
        answer_counts tells pages sink s p barrier held new_held sessions unfinished room kept at q at_q f.statement (floor_of barrier q) port_now r step,
      );
      fewer = rw (rest, stage_is) (left_answers (length q.turns.items - length rs) (length q.turns.items - length rs - 1) most_steps (left_of q.stage) left (left_some q.stage));
      barrier_is = kept.barrier_is ∙ sym (ap (λ (l : List (List Reply)). done_before s l p) replies
          ∙ done_earlier s kept.world.has p (replies_of sessions) f.statement at rs r (kept.world.legal 0).answers.lists f.next p (le_refl p));
    }
  where
    length_one : (l : List Reply) (t : Reply) → length (l ++ t ∷ []) ≡ length l + 1
    length_one l t = length_push l t

stepped_by : {P File : Type 0} (tells : Bool) (pages : File → List (List ℕ)) (sink : Ghosts P File) (s : Script) (p barrier : ℕ) (held new_held : Holding (Viewed File)) (sessions : List (Session P File)) (unfinished : List ℕ) (room : ℕ)
    → IsKeptWorld tells pages sink s p barrier held sessions unfinished room → (at : ℕ) (q new : Session P File) → slice_get sessions at ≡ Some q → (f : IsFound s p sessions at q) → (step : Step File)
    → IsStep tells pages f.statement (floor_of barrier q) held new_held q.stage (port_seen sink q.access.port) (port_seen sink new.access.port) step
    → Becomes q new step → new.turns.items ≡ q.turns.items
    → ((files : List File) → AreFiles held files → HasFiles new_held files) → IsSound tells pages new_held → KeepsTables held new_held
    → IsStepped tells pages sink s p barrier at held new_held sessions q new
stepped_by {P} {File} tells pages sink s p barrier held new_held sessions unfinished room kept at q new at_q f (Goes next) step becomes turns_are more_files sound keeps =
    subst (λ (h : Holding (Viewed File)). IsStepped tells pages sink s p barrier at held h sessions q new) (sym step.same)
    (goes_stepped tells pages sink s p barrier held sessions unfinished room kept at q new at_q f next
    (subst (λ (h : Holding (Viewed File)). GoesTo tells pages f.statement held h q.stage next (port_seen sink q.access.port) (port_seen sink new.access.port)) step.same step) becomes.0 becomes.1 turns_are)
stepped_by tells pages sink s p barrier held new_held sessions unfinished room kept at q new at_q f (Answered r) step becomes turns_are more_files sound keeps =
    answered_stepped tells pages sink s p barrier held new_held sessions unfinished room kept at q new at_q f r step becomes.0 becomes.1 turns_are more_files sound keeps

-- a step by the contract of `step_session`
pub stepped : {P File : Type 0} (tells : Bool) (pages : File → List (List ℕ)) (sink : Ghosts P File) (s : Script) (p barrier : ℕ) (held new_held : Holding (Viewed File)) (sessions : List (Session P File)) (unfinished : List ℕ) (room : ℕ)
    → IsKeptWorld tells pages sink s p barrier held sessions unfinished room → (k at : ℕ) (q new : Session P File) → slice_get unfinished k ≡ Some at → slice_get sessions at ≡ Some q
    → ((x : Statement) → IsNextOf s q x → HasStepped tells pages sink x (floor_of barrier q) held new_held q new)
    → ((files : List File) → AreFiles held files → HasFiles new_held files) → IsSound tells pages new_held → KeepsTables held new_held
    → IsStepped tells pages sink s p barrier at held new_held sessions q new
stepped tells pages sink s p barrier held new_held sessions unfinished room kept k at q new at_k at_q steps more_files sound keeps =
    let f = found tells pages sink s p barrier held sessions unfinished room kept k at q at_k at_q in
    let did = steps f.statement f.is in
    stepped_by tells pages sink s p barrier held new_held sessions unfinished room kept at q new at_q f did.step did.is did.becomes did.turns more_files sound keeps
