-- What holds of a world's fields at each exit of a pick. This project's own.
use Rattle.std.proofs.Common.{◌≡◌, ◌≢◌, ℕ, ◌==◌, eqb-true, ◌<◌, ◌≤◌, Bool, true, false, List, [], length, set, Option, Some, None, refl, sym, ap, subst, ◌∙◌, arith, le_refl}
use Rattle.std.specs.List.{remove}
use Rattle.std.proofs.lemmas.Bool.{eqb-false}
use Rattle.std.proofs.lemmas.List.{length-map, nil_from_length}
use Rattle.hv_dev.specs.declared.sink.PageSink.{Ghosts}
use Rattle.hv_view.specs.View.{Viewed}
use Rattle.hv_model.specs.declared.script.Script.{Script}
use Rattle.hv_catalogue.specs.Holding.{Holding}
use Rattle.hv_world.specs.declared.session.Session.{Session}
use Rattle.hv_world.specs.Turns.{HaveTurns, IsFirstPhase, IsKeptWorld, IsNextPhase, next_turn, is_due, replies_of, world_of}
use Rattle.hv_world.specs.World.{IsPick, ready_from}
use Rattle.hv_world.proofs.PickKept.{IsTaken, still_listed, no_longer_listed, kept_ready, kept_over, kept_next, picked, have_turns}

module _ {P File : Type 0} (tells : Bool) (pages : File → List (List ℕ)) (sink : Ghosts P File) (s : Script) (p barrier : ℕ) (held new_held : Holding (Viewed File)) (sessions : List (Session P File))
    (unfinished : List ℕ) (room : ℕ) (kept : IsKeptWorld tells pages sink s p barrier held sessions unfinished room) (k at : ℕ) (q new : Session P File)
    (t : IsTaken tells pages sink s p barrier k at held new_held sessions q new) where
  -- the session has a statement left in the phase
  pub stays : is_due (next_turn new) p ≡ true → 0 < length unfinished → IsKeptWorld tells pages sink s p barrier new_held (set sessions at new) unfinished room
  stays due some =
      kept_ready tells pages sink s p barrier new_held (set sessions at new) unfinished room t.stepped.files kept.bounds t.stepped.world t.turns
      (kept.ready ∙ sym (still_listed tells pages sink s p barrier k at held new_held sessions q new t due)) kept.wide t.stepped.barrier_is some

  -- it has none left, and is listed no more
  left_listed : is_due (next_turn new) p ≡ false → (left : List ℕ) → left ≡ remove unfinished k → left ≡ ready_from s p 0 s.sessions (replies_of (set sessions at new))
  left_listed due left left_is =
      left_is ∙ ap (λ (l : List ℕ). remove l k) kept.ready ∙ sym (no_longer_listed tells pages sink s p barrier k at held new_held sessions q new t due)

  -- others have
  pub leaves : is_due (next_turn new) p ≡ false → (left : List ℕ) (now_room : ℕ) → left ≡ remove unfinished k → now_room ≡ room → 0 < length left
      → IsKeptWorld tells pages sink s p barrier new_held (set sessions at new) left now_room
  leaves due left now_room left_is room_is some =
      kept_ready tells pages sink s p barrier new_held (set sessions at new) left now_room t.stepped.files kept.bounds t.stepped.world t.turns
      (left_listed due left left_is) (subst (λ (n : ℕ). length s.sessions ≤ n) (sym room_is) kept.wide) t.stepped.barrier_is some

  -- none has, and a later phase has a statement
  pub goes_on : is_due (next_turn new) p ≡ false → (left filled : List ℕ) (now_room next now_barrier : ℕ) → left ≡ remove unfinished k → left ≡ [] → now_room ≡ room
      → IsFirstPhase (set sessions at new) next → filled ≡ ready_from s next 0 s.sessions (replies_of (set sessions at new)) → now_barrier ≡ length new_held.history
      → (p < next) × IsKeptWorld tells pages sink s next now_barrier new_held (set sessions at new) filled now_room
  goes_on due left filled now_room next now_barrier left_is none room_is first filled_is barrier_is =
      kept_next tells pages sink s p next now_barrier new_held (set sessions at new) filled now_room t.stepped.files kept.bounds t.stepped.world t.turns
      (sym none ∙ left_listed due left left_is) (subst (λ (n : ℕ). length s.sessions ≤ n) (sym room_is) kept.wide) first filled_is barrier_is

  -- none has, in any phase
  pub ends : is_due (next_turn new) p ≡ false → (left : List ℕ) (now_room : ℕ) → left ≡ remove unfinished k → now_room ≡ room → IsNextPhase (set sessions at new) None
      → IsKeptWorld tells pages sink s p barrier new_held (set sessions at new) left now_room
  ends due left now_room left_is room_is none =
      kept_over tells pages sink s p barrier new_held (set sessions at new) left now_room t.stepped.files kept.bounds t.stepped.world t.turns
      (left_listed due left left_is) (subst (λ (n : ℕ). length s.sessions ≤ n) (sym room_is) kept.wide) t.stepped.barrier_is none

  -- the list of sessions that is looked through
  lists : length (set sessions at new) ≡ length s.sessions
  lists = sym (length-map (set sessions at new) (λ (r : Session P File). r.replies.items)) ∙ (t.stepped.world.legal 0).answers.lists

  pub few : (now : List (Session P File)) → now ≡ set sessions at new → length now ≤ 64
  few now is =
      let all : length now ≡ length (set sessions at new) = ap (λ (l : List (Session P File)). length l) is in
      let named : length (set sessions at new) ≡ length s.sessions = lists in
      let bound : length s.sessions ≤ 64 = kept.bounds.few_sessions in
      omega arith

  pub wide : (now : List (Session P File)) (now_room : ℕ) → now ≡ set sessions at new → now_room ≡ room → length now ≤ now_room
  wide now now_room is room_is =
      let all : length now ≡ length (set sessions at new) = ap (λ (l : List (Session P File)). length l) is in
      let named : length (set sessions at new) ≡ length s.sessions = lists in
      let had : length s.sessions ≤ room = kept.wide in
      omega arith

  pub filled : (now : List (Session P File)) (next : ℕ) (list : List ℕ) → now ≡ set sessions at new
      → ((r : Script) → HaveTurns r r.sessions now → list ≡ ready_from r next 0 r.sessions (replies_of now))
      → list ≡ ready_from s next 0 s.sessions (replies_of (set sessions at new))
  filled now next list is told =
      let have : HaveTurns s s.sessions (set sessions at new) = have_turns s (set sessions at new) (t.stepped.world.legal 0).answers.lists t.turns in
      told s (subst (λ (l : List (Session P File)). HaveTurns s s.sessions l) (sym is) have) ∙ ap (λ (l : List (Session P File)). ready_from s next 0 s.sessions (replies_of l)) is

  -- it is a pick in the phase, or one that ends it
  pub picked_here : (last : Option ℕ) → IsPick at (world_of sink s p held sessions last) (world_of sink s p new_held (set sessions at new) (Some at))
  picked_here last =
      picked tells pages sink s p p barrier at held new_held sessions q new last (Some at) t.at_q t.stepped (le_refl p) (λ _. refl) (λ less. absurd (omega arith))

  pub picked_on : (next : ℕ) (last : Option ℕ) → p < next → IsPick at (world_of sink s p held sessions last) (world_of sink s next new_held (set sessions at new) None)
  picked_on next last later =
      picked tells pages sink s p next barrier at held new_held sessions q new last None t.at_q t.stepped (omega arith) (λ same. absurd (omega arith)) (λ _. refl)

-- a list that is told not to be empty, and one that is
pub not_empty : (left : List ℕ) (n : ℕ) (b : Bool) → n ≡ length left → b ≡ (n == 0) → b ≡ false → 0 < length left
not_empty left n b n_is told isnt =
    let some : n ≢ 0 = eqb-false n 0 (sym told ∙ isnt) in
    omega arith

pub is_nothing : (left : List ℕ) (n : ℕ) (b : Bool) → n ≡ length left → b ≡ (n == 0) → b ≡ true → left ≡ []
is_nothing left n b n_is told is = nil_from_length left (sym n_is ∙ eqb-true n 0 (sym told ∙ is))
