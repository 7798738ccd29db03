-- A world before its first step.
use Rattle.std.proofs.Common.{◌≡◌, ℕ, ◌+◌, ◌<◌, ◌≤◌, true, false, Bool, List, [], ◌∷◌, zero, suc, length, map, Option, Some, None, inl, inr, refl, sym, ap, subst, ◌∙◌, arith, get_or, le_refl}
use Rattle.std.specs.Prelude.{nat_lt, unwrap_or}
use Rattle.std.specs.List.{slice_get}
use Rattle.std.proofs.lemmas.List.{length-map}
use Rattle.std.proofs.lemmas.Bool.{cases_lt, le-leb}
use Rattle.std.proofs.lemmas.List.Elements.{All-nil}
use Rattle.std.proofs.lemmas.Option.{slice_get-get_or, slice_get_within, slice_get-map}
use Rattle.hv_dev.specs.declared.sink.PageSink.{Ghosts}
use Rattle.hv_view.specs.View.{Viewed}
use Rattle.hv_model.specs.declared.script.Script.{Script}
use Rattle.hv_model.specs.declared.reply.Reply.{Reply}
use Rattle.hv_model.specs.Database.{empty_database}
use Rattle.hv_model.specs.Legal.{done_before}
use Rattle.hv_model.specs.Sessions.{HasBounds, HasSessions, AllReplied, LegalInPhase, count_before}
use Rattle.hv_model.proofs.Places.{map_agree}
use Rattle.hv_model.proofs.SessionReplies.{all_replied, done_le}
use Rattle.hv_model.proofs.SessionPhases.{legal_start}
use Rattle.hv_catalogue.specs.Holding.{Holding}
use Rattle.hv_world.specs.declared.session.Session.{Session}
use Rattle.hv_world.specs.declared.turns.Turn.{Turn}
use Rattle.hv_world.specs.Reads.{port_seen, fresh_port}
use Rattle.hv_world.specs.Known.{Known}
use Rattle.hv_world.specs.Standing.{IsWorld}
use Rattle.hv_world.specs.World.{IsFresh, landings_of, ready_from}
use Rattle.hv_world.specs.Turns.{AreFresh, HaveTurns, IsFreshSession, IsKeptWorld, IsNextPhase, is_due, next_turn, ports_of, replies_of, stages_of, world_of}
use Rattle.hv_world.proofs.Causing.{caused_start}
use Rattle.hv_world.proofs.TurnPlaces.{phases_passed, turns_enough}
use Rattle.hv_world.proofs.ReadyPlaces.{due_is, none_ready}

-- a catalogue without a table
abbrev nothing_held : {File : Type 0} → Holding (Viewed File)
nothing_held = record { database = empty_database; history = [] }

-- an element of a list of values is that of an element
pub record IsMapped {X Y : Type 0} (f : X → Y) (xs : List X) (k : ℕ) (y : Y) : Type 0 where
  pub element : X
  pub stands : slice_get xs k ≡ Some element
  pub is : f element ≡ y

pub mapped : {X Y : Type 0} (f : X → Y) (xs : List X) (k : ℕ) (y : Y) → slice_get (map f xs) k ≡ Some y → IsMapped f xs k y
mapped f [] k y at = absurd cc
mapped f (x ∷ xs) zero y at = record { element = x; stands = refl; is = cc }
mapped f (x ∷ xs) (suc k) y at =
    let rest : IsMapped f xs k y = mapped f xs k y at in
    record { element = rest.element; stands = rest.stands; is = rest.is }

-- a fresh session has no reply
fresh_empty : {P File : Type 0} (sink : Ghosts P File) (s : Script) (sessions : List (Session P File)) → AreFresh sink s s.sessions sessions
    → (i : ℕ) (q : Session P File) → slice_get sessions i ≡ Some q → IsFreshSession sink s (get_or s.sessions i []) q
fresh_empty sink s sessions fresh i q at =
    let paired : length sessions ≡ length s.sessions = fresh.paired in
    let below : i < length sessions = slice_get_within sessions i q at in
    fresh.each i (get_or s.sessions i []) q (slice_get-get_or s.sessions i [] (omega arith)) at

replies_empty : {P File : Type 0} (sink : Ghosts P File) (s : Script) (sessions : List (Session P File)) → AreFresh sink s s.sessions sessions
    → (i : ℕ) (rs : List Reply) → slice_get (replies_of sessions) i ≡ Some rs → rs ≡ []
replies_empty sink s sessions fresh i rs at =
    let its : IsMapped (λ q. q.replies.items) sessions i rs = mapped (λ q. q.replies.items) sessions i rs at in
    sym its.is ∙ (fresh_empty sink s sessions fresh i its.element its.stands).no_reply

-- no next statement of a fresh session stands before the first phase
from_first : {P File : Type 0} (sessions : List (Session P File)) (o : Option ℕ) → IsNextPhase sessions o → (i : ℕ) (q : Session P File) (turn : Turn) → slice_get sessions i ≡ Some q → next_turn q ≡ Some turn
    → unwrap_or o 0 ≤ turn.phase
from_first sessions None none i q turn at next = omega arith
from_first sessions (Some p) first i q turn at next = first.least i q turn at next

all_before : {P File : Type 0} (sink : Ghosts P File) (s : Script) → HasSessions s → (sessions : List (Session P File)) (o : Option ℕ) → AreFresh sink s s.sessions sessions → IsNextPhase sessions o
    → AllReplied s (replies_of sessions) (unwrap_or o 0)
all_before {P} {File} sink s has sessions o fresh next =
    let lists : length (replies_of sessions) ≡ length s.sessions = length-map sessions (λ (q : Session P File). q.replies.items) ∙ fresh.paired in
    all_replied s has (unwrap_or o 0) (replies_of sessions) lists (λ i name rs at_name at.
    let its : IsMapped (λ (q : Session P File). q.replies.items) sessions i rs = mapped (λ q. q.replies.items) sessions i rs at in
    let q : Session P File = its.element in
    let a_fresh : IsFreshSession sink s name q = fresh.each i name q at_name its.stands in
    let enough : count_before s name (unwrap_or o 0) ≤ length q.replies.items = turns_enough s name q.turns.items (length q.replies.items) (unwrap_or o 0) a_fresh.its.turns
    (λ turn at_turn. from_first sessions o next i q turn its.stands at_turn) in
    subst (λ (l : List Reply). count_before s name (unwrap_or o 0) ≤ length l) its.is enough)

start_legal : {P File : Type 0} (sink : Ghosts P File) (s : Script) → HasSessions s → (sessions : List (Session P File)) (o : Option ℕ) → AreFresh sink s s.sessions sessions → IsNextPhase sessions o
    → (max : ℕ) (known : Type 0) → LegalInPhase s max known (unwrap_or o 0) [] (replies_of sessions)
start_legal {P} {File} sink s has sessions o fresh next max known =
    let lists : length (replies_of sessions) ≡ length s.sessions = length-map sessions (λ (q : Session P File). q.replies.items) ∙ fresh.paired in
    let start : LegalInPhase s max known 0 [] (replies_of sessions) = legal_start s has max known (replies_of sessions) lists (replies_empty sink s sessions fresh) in
    let up : 0 + unwrap_or o 0 ≡ unwrap_or o 0 = omega arith in
    rw (sym up) (phases_passed s has max known 0 (unwrap_or o 0) [] (replies_of sessions) start (rw up (all_before sink s has sessions o fresh next)))

-- where none can take a step no session has a statement
start_over : {P File : Type 0} (sink : Ghosts P File) (s : Script) (sessions : List (Session P File)) (o : Option ℕ) → AreFresh sink s s.sessions sessions → IsNextPhase sessions o
    → ready_from s (unwrap_or o 0) 0 s.sessions (replies_of sessions) ≡ [] → (i : ℕ) (q : Session P File) → slice_get sessions i ≡ Some q → length q.replies.items ≡ length q.turns.items
start_over {P} {File} sink s sessions None fresh next none i q at =
    let empty : q.replies.items ≡ [] = (fresh_empty sink s sessions fresh i q at).no_reply in
    let no_turn : slice_get q.turns.items (length q.replies.items) ≡ None = next i q at in
    let first : length q.replies.items ≡ 0 = ap (λ (l : List Reply). length l) empty in
    elim (cases_lt (length q.replies.items) (length q.turns.items)) [
      | inl below ↦ absurd (let there : slice_get q.turns.items (length q.replies.items) ≡ Some (get_or q.turns.items (length q.replies.items) (record { phase = 0; place = 0 }))
          = slice_get-get_or q.turns.items (length q.replies.items) (record { phase = 0; place = 0 }) below in cc)
      | inr past ↦ omega arith
    ]
start_over {P} {File} sink s sessions (Some p) fresh first none i q at =
    let at_q : slice_get sessions first.at ≡ Some first.session = first.stands in
    let paired : length sessions ≡ length s.sessions = fresh.paired in
    let below : first.at < length sessions = slice_get_within sessions first.at first.session at_q in
    let name : List ℕ = get_or s.sessions first.at [] in
    let at_name : slice_get s.sessions first.at ≡ Some name = slice_get-get_or s.sessions first.at [] (omega arith) in
    let a_fresh : IsFreshSession sink s name first.session = fresh.each first.at name first.session at_name at_q in
    let at_rs : slice_get (replies_of sessions) first.at ≡ Some first.session.replies.items = slice_get-map (λ (r : Session P File). r.replies.items) sessions first.at ∙ rw at_q refl in
    let not : nat_lt (length first.session.replies.items) (count_before s name (p + 1)) ≡ false = none_ready s p 0 s.sessions (replies_of sessions) first.at name first.session.replies.items none at_name at_rs in
    let due : is_due (next_turn first.session) p ≡ true = rw (first.next, first.phase) (le-leb p p (le_refl p)) in
    absurd (let tells : nat_lt (length first.session.replies.items) (count_before s name (p + 1)) ≡ is_due (next_turn first.session) p = due_is s name p first.session a_fresh.its.turns in
    let e : true ≡ false = sym due ∙ sym tells ∙ not in cc)

-- the world of a script's fresh sessions
start_world : {P File : Type 0} (tells : Bool) (pages : File → List (List ℕ)) (sink : Ghosts P File) (s : Script) → HasSessions s → (sessions : List (Session P File)) (o : Option ℕ) → AreFresh sink s s.sessions sessions → IsNextPhase sessions o
    → IsWorld tells pages s (unwrap_or o 0) nothing_held (replies_of sessions) (ports_of sink sessions) (stages_of sessions) []
start_world {P} {File} tells pages sink s has sessions o fresh next = record {
  has = has;
  legal = λ max. start_legal sink s has sessions o fresh next max (Known tells s [] (landings_of (ports_of sink sessions)));
  database = refl;
  sound = All-nil _;
  are = record { count = refl; each = All-nil _ };
  ports_paired = length-map sessions (λ (q : Session P File). port_seen sink q.access.port) ∙ sym (length-map sessions (λ (q : Session P File). q.replies.items));
  stages_paired = length-map sessions (λ (q : Session P File). q.stage) ∙ sym (length-map sessions (λ (q : Session P File). q.replies.items));
  caused = λ i rs port at_rs at_port.
      let its : IsMapped (λ (q : Session P File). port_seen sink q.access.port) sessions i port = mapped (λ q. port_seen sink q.access.port) sessions i port at_port in
      let none : rs ≡ [] = replies_empty sink s sessions fresh i rs at_rs in
      let port_is : port ≡ fresh_port File = sym its.is ∙ (fresh_empty sink s sessions fresh i its.element its.stands).port in
      rw (none, port_is) (caused_start tells s);
  stands = λ i rs port stage at_rs at_port at_stage.
      let its : IsMapped (λ (q : Session P File). port_seen sink q.access.port) sessions i port = mapped (λ q. port_seen sink q.access.port) sessions i port at_port in
      let port_is : port ≡ fresh_port File = sym its.is ∙ (fresh_empty sink s sessions fresh i its.element its.stands).port in
      let that : IsMapped (λ (q : Session P File). q.stage) sessions i stage = mapped (λ q. q.stage) sessions i stage at_stage in
      inl (record {
        unbegun = sym that.is ∙ (fresh_empty sink s sessions fresh i that.element that.stands).unbegun;
        idle = rw port_is (record { room = omega arith; none = refl; empty = refl });
      });
}

pub kept_start : {P File : Type 0} (tells : Bool) (pages : File → List (List ℕ)) (sink : Ghosts P File) (s : Script) → HasSessions s → HasBounds s → (held : Holding (Viewed File)) (sessions : List (Session P File)) (o : Option ℕ)
    (unfinished : List ℕ) (room : ℕ) → held ≡ nothing_held → AreFresh sink s s.sessions sessions → IsNextPhase sessions o
    → unfinished ≡ ready_from s (unwrap_or o 0) 0 s.sessions (replies_of sessions) → length s.sessions ≤ room
    → IsKeptWorld tells pages sink s (unwrap_or o 0) 0 held sessions unfinished room
kept_start {P} {File} tells pages sink s has bounds held sessions o unfinished room none fresh next ready wide = record {
  bounds = bounds;
  files = [];
  world = rw none (start_world tells pages sink s has sessions o fresh next);
  turns = λ i name q at_name at. (fresh.each i name q at_name at).its;
  ready = ready;
  wide = wide;
  barrier_is =
      (let legal : LegalInPhase s 0 (Unit {0}) (unwrap_or o 0) [] (replies_of sessions) = start_legal sink s has sessions o fresh next 0 (Unit {0}) in
      let counted : done_before s (replies_of sessions) (unwrap_or o 0 + 1) ≡ 0 = legal.counted in
      let le : done_before s (replies_of sessions) (unwrap_or o 0) ≤ done_before s (replies_of sessions) (unwrap_or o 0 + 1) = done_le s (replies_of sessions) (unwrap_or o 0) (unwrap_or o 0 + 1) (omega arith) in
      omega arith);
  over = λ nobody. start_over sink s sessions o fresh next (sym ready ∙ nobody);
}

-- the sessions have the places of their statements
pub fresh_turns : {P File : Type 0} (sink : Ghosts P File) (s : Script) (sessions : List (Session P File)) → AreFresh sink s s.sessions sessions → HaveTurns s s.sessions sessions
fresh_turns sink s sessions fresh = record {
  paired = fresh.paired;
  each = λ i name q at_name at. (fresh.each i name q at_name at).its.turns;
}

-- it is the world before its first step
pub fresh_start : {P File : Type 0} (sink : Ghosts P File) (s : Script) (p : ℕ) (held : Holding (Viewed File)) (sessions : List (Session P File)) → held ≡ nothing_held → AreFresh sink s s.sessions sessions
    → IsFresh s (world_of sink s p held sessions None)
fresh_start {P} {File} sink s p held sessions none fresh = record {
  script_is = refl;
  empty = none;
  no_reply = map_agree (λ (q : Session P File). q.replies.items) (λ (name : List ℕ). []) sessions s.sessions fresh.paired (λ i q name at at_name. (fresh.each i name q at_name at).no_reply);
  ports_are = map_agree (λ (q : Session P File). port_seen sink q.access.port) (λ (name : List ℕ). fresh_port File) sessions s.sessions fresh.paired (λ i q name at at_name. (fresh.each i name q at_name at).port);
  none = refl;
}

-- so is a world of sessions that were opened, by the contracts of the calls that open it
pub kept_opened : {P File : Type 0} (tells : Bool) (pages : File → List (List ℕ)) (sink : Ghosts P File) (s : Script) → HasSessions s → HasBounds s → (held : Holding (Viewed File)) (sessions looked listed : List (Session P File)) (o : Option ℕ)
    (p : ℕ) (unfinished : List ℕ) (room : ℕ) → held ≡ nothing_held → AreFresh sink s s.sessions sessions → looked ≡ sessions → listed ≡ sessions → p ≡ unwrap_or o 0 → IsNextPhase looked o
    → ((t : Script) → HaveTurns t t.sessions listed → unfinished ≡ ready_from t p 0 t.sessions (replies_of listed)) → length s.sessions ≤ room
    → IsKeptWorld tells pages sink s p 0 held sessions unfinished room
kept_opened {P} {File} tells pages sink s has bounds held sessions looked listed o p unfinished room none fresh looked_is listed_is p_is next ready wide =
    let first : IsNextPhase sessions o = subst (λ (qs : List (Session P File)). IsNextPhase qs o) looked_is next in
    let turns : HaveTurns s s.sessions listed = subst (λ (qs : List (Session P File)). HaveTurns s s.sessions qs) (sym listed_is) (fresh_turns sink s sessions fresh) in
    let are : unfinished ≡ ready_from s (unwrap_or o 0) 0 s.sessions (replies_of sessions) =
    ready s turns ∙ ap (λ (qs : List (Session P File)). ready_from s p 0 s.sessions (replies_of qs)) listed_is ∙ ap (λ (n : ℕ). ready_from s n 0 s.sessions (replies_of sessions)) p_is in
    subst (λ (n : ℕ). IsKeptWorld tells pages sink s n 0 held sessions unfinished room) (sym p_is) (kept_start tells pages sink s has bounds held sessions o unfinished room none fresh first are wide)
