-- A script that bytes are has sessions, whose statements are numbered each by itself, and the bounds of a script.
use Rattle.std.proofs.Common.{◌≡◌, ℕ, zero, suc, ◌+◌, ◌<◌, ◌≤◌, Bool, true, false, true≢false, ◌||◌, cond, List, [], ◌∷◌, ◌++◌, length, Option, Some, None, inl, inr, refl, ap, sym, ◌∙◌, subst, arith, length-append}
use Rattle.std.specs.Prelude.{codes, fold}
use Rattle.std.specs.List.{slice_get}
use Rattle.std.proofs.lemmas.Map.Keys.{any_passes_from_place}
use Rattle.hv_row.specs.Schema.{same_name}
use Rattle.hv_model.specs.declared.script.Statement.{Statement}
use Rattle.hv_model.specs.declared.script.Script.{Script}
use Rattle.hv_model.specs.declared.tree.Ast.{Ast}
use Rattle.hv_model.specs.Parsed.{tree_of, lines_wanted}
use Rattle.hv_model.specs.Command.{statements}
use Rattle.hv_model.specs.Legal.{Stands}
use Rattle.hv_model.specs.Script.{most_bytes, most_lines, line_list, Cut, Takes, Cuts, Placed, placed_first, script_of, is_session, with_session, set_session, end_phase, next_statement, add_statement, place_cut, after_cut, placed_by, IsScript}
use Rattle.hv_model.specs.Sessions.{AreNumbered, HasSessions, HasBounds}
use Rattle.hv_model.proofs.Histories.{same_name-refl}
use Rattle.hv_model.proofs.Places.{slice_get-more, slice_get-kept, slice_get-last}
use Rattle.hv_model.proofs.SessionScripts.{same_name-true, numbered_none, numbered_more}
use Rattle.hv_model.proofs.ScriptPlaced.{statements_ended, statements_added, place_cases}
use Rattle.hv_model.proofs.ScriptLengths.{takes_length}

-- where a name of a session stands
pub record IsPlaceOf (names : List (List ℕ)) (name : List ℕ) : Type 0 where
  pub place : ℕ
  pub stands : slice_get names place ≡ Some name

-- names that differ
abbrev pub AreDistinct : List (List ℕ) → Type 0
AreDistinct names = (i j : ℕ) (name : List ℕ) → slice_get names i ≡ Some name → slice_get names j ≡ Some name → i ≡ j

-- a name that is among them has a place
later : (first : List ℕ) (names : List (List ℕ)) (name : List ℕ) → IsPlaceOf names name → IsPlaceOf (first ∷ names) name
later first names name p = record { place = suc p.place; stands = p.stands }

first_or_later : (first : List ℕ) (names : List (List ℕ)) (name : List ℕ) (v : Bool) → same_name first name ≡ v → (is_session names name ≡ true → IsPlaceOf names name)
    → (v || is_session names name) ≡ true → IsPlaceOf (first ∷ names) name
first_or_later first names name true e more h = record { place = 0; stands = ap (λ (n : List ℕ). Some n) (same_name-true first name e) }
first_or_later first names name false e more h = later first names name (more h)

pub place_of : (names : List (List ℕ)) (name : List ℕ) → is_session names name ≡ true → IsPlaceOf names name
place_of [] name h = absurd cc
place_of (first ∷ names) name h = first_or_later first names name (same_name first name) refl (λ g. place_of names name g) h

-- and one that has a place is among them
pub place_found : (names : List (List ℕ)) (name : List ℕ) (i : ℕ) → slice_get names i ≡ Some name → is_session names name ≡ true
place_found names name i at = any_passes_from_place (λ other. same_name other name) names i name at (same_name-refl name)

-- names with one that isn't among them differ
distinct_more : (names : List (List ℕ)) (name : List ℕ) → AreDistinct names → is_session names name ≡ false → AreDistinct (names ++ name ∷ [])
distinct_more names name distinct fresh i j other at_i at_j =
    elim (slice_get-more names name i other at_i) [
      | inl old ↦ elim (slice_get-more names name j other at_j) [
        | inl too ↦ distinct i j other old.stands too.stands
        | inr last ↦ absurd (true≢false (sym (place_found names name i (old.stands ∙ ap (λ (n : List ℕ). Some n) (sym last.same))) ∙ fresh))
      ]
      | inr last ↦ elim (slice_get-more names name j other at_j) [
        | inl old ↦ absurd (true≢false (sym (place_found names name j (old.stands ∙ ap (λ (n : List ℕ). Some n) (sym last.same))) ∙ fresh))
        | inr too ↦ last.at ∙ sym too.at
      ]
    ]

-- where each statement's session is among the names
abbrev AreNamed : List (List ℕ) → List Statement → Type 0
AreNamed names xs = (k : ℕ) (x : Statement) → slice_get xs k ≡ Some x → IsPlaceOf names x.session

named_kept : (names : List (List ℕ)) (name : List ℕ) (xs : List Statement) → AreNamed names xs → AreNamed (names ++ name ∷ []) xs
named_kept names name xs named k x at = let p = named k x at in record { place = p.place; stands = slice_get-kept names name p.place x.session p.stands }

named_more : (names : List (List ℕ)) (xs : List Statement) (x : Statement) → AreNamed names xs → IsPlaceOf names x.session → AreNamed names (xs ++ x ∷ [])
named_more names xs x named own k y at =
    elim (slice_get-more xs x k y at) [
      | inl old ↦ named k y old.stands
      | inr last ↦ subst (λ (z : Statement). IsPlaceOf names z.session) last.same own
    ]

-- what holds of names of sessions, the session of what follows and statements
pub record AreSound (names : List (List ℕ)) (current : List ℕ) (xs : List Statement) : Type 0 where
  pub main : slice_get names 0 ≡ Some (codes "main")
  pub distinct : AreDistinct names
  pub present : IsPlaceOf names current
  pub named : AreNamed names xs
  pub numbered : AreNumbered xs

abbrev pub IsSound : Placed → Type 0
IsSound s = AreSound s.sessions s.current (statements (script_of s))

sound_first : IsSound placed_first
sound_first = record {
  main = refl;
  distinct = one;
  present = record { place = 0; stands = refl };
  named = (λ k x at. absurd cc);
  numbered = numbered_none;
}
  where
    one : AreDistinct (codes "main" ∷ [])
    one zero zero name at_i at_j = refl
    one zero (suc j) name at_i at_j = absurd cc
    one (suc i) j name at_i at_j = absurd cc

sound_named : (names : List (List ℕ)) (current name : List ℕ) (xs : List Statement) → AreSound names current xs → (v : Bool) → is_session names name ≡ v
    → AreSound (cond v names (names ++ name ∷ [])) name xs
sound_named names current name xs p true e = record { main = p.main; distinct = p.distinct; present = place_of names name e; named = p.named; numbered = p.numbered }
sound_named names current name xs p false e = record {
  main = slice_get-kept names name 0 (codes "main") p.main;
  distinct = distinct_more names name p.distinct e;
  present = record { place = length names; stands = slice_get-last names name };
  named = named_kept names name xs p.named;
  numbered = p.numbered;
}

pub sound_set : (s : Placed) (name : List ℕ) → IsSound s → IsSound (set_session s name)
sound_set s name p = sound_named s.sessions s.current name (statements (script_of s)) p (is_session s.sessions name) refl

pub sound_end : (s : Placed) → IsSound s → IsSound (end_phase s)
sound_end s p = subst (λ (xs : List Statement). AreSound s.sessions s.current xs) (sym (statements_ended s)) p

sound_more : (s : Placed) (cut : Cut) → IsSound s → AreSound s.sessions s.current (statements (script_of s) ++ next_statement s cut ∷ [])
sound_more s cut p = record {
  main = p.main;
  distinct = p.distinct;
  present = p.present;
  named = named_more s.sessions (statements (script_of s)) (next_statement s cut) p.named p.present;
  numbered = numbered_more (statements (script_of s)) (next_statement s cut) p.numbered refl;
}

pub sound_add : (s : Placed) (cut : Cut) → IsSound s → IsSound (add_statement s cut)
sound_add s cut p = subst (λ (xs : List Statement). AreSound s.sessions s.current xs) (sym (statements_added s cut)) (sound_more s cut p)

sound_after : (s : Placed) (cut : Cut) (tree : Option Ast) → IsSound s → IsSound (place_cut s cut tree)
sound_after s cut tree p = place_cases (λ t. IsSound t) s cut tree (λ name. sound_set s name p) (sound_end s p) (sound_add s cut p)

sound_fold : (s : Placed) (cuts : List Cut) → IsSound s → IsSound (fold after_cut s cuts)
sound_fold s [] p = p
sound_fold s (cut ∷ cuts) p = sound_fold (after_cut s cut) cuts (sound_after s cut (tree_of cut.text) p)

-- it holds wherever texts were read
pub sound_by : (cuts : List Cut) → IsSound (placed_by cuts)
sound_by cuts = sound_fold placed_first cuts sound_first

sound_sessions : (s : Placed) → IsSound s → HasSessions (script_of s)
sound_sessions s p = record {
  main = p.main;
  distinct = p.distinct;
  named = (λ x stands. let at = p.named stands.0 x stands.1 in (at.place, at.stands));
  numbered = p.numbered;
}

-- a script that bytes are has sessions
pub script_sessions : (bytes : List ℕ) (s : Script) → IsScript bytes s → HasSessions s
script_sessions bytes s is = subst (λ (t : Script). HasSessions t) (sym is.is) (sound_sessions (placed_by is.front.cuts) (sound_by is.front.cuts))

-- a statement's text and its lines are short
record IsShort (x : Statement) : Type 0 where
  short_text : length x.text ≤ most_bytes
  few_lines : length (line_list x.lines) ≤ most_lines

abbrev AreShort : List Statement → Type 0
AreShort xs = (k : ℕ) (x : Statement) → slice_get xs k ≡ Some x → IsShort x

short_more : (xs : List Statement) (x : Statement) → AreShort xs → IsShort x → AreShort (xs ++ x ∷ [])
short_more xs x short own k y at =
    elim (slice_get-more xs x k y at) [
      | inl old ↦ short k y old.stands
      | inr last ↦ subst (λ (z : Statement). IsShort z) last.same own
    ]

short_cut : (bytes after : List ℕ) (s : Placed) (cut : Cut) → length bytes ≤ most_bytes → Takes bytes cut after → IsShort (next_statement s cut)
short_cut bytes after s cut h t =
    let wanted : length (line_list cut.lines) ≡ lines_wanted cut.text = t.data_lines.count in
    let few : lines_wanted cut.text ≤ most_lines = t.few in
    record { short_text = omega (arith, takes_length bytes after cut t); few_lines = omega arith }

short_after : (bytes after : List ℕ) (s : Placed) (cut : Cut) (tree : Option Ast) → length bytes ≤ most_bytes → Takes bytes cut after → AreShort (statements (script_of s))
    → AreShort (statements (script_of (place_cut s cut tree)))
short_after bytes after s cut tree h t short = place_cases (λ u. AreShort (statements (script_of u))) s cut tree
    (λ name. short)
    (subst (λ (xs : List Statement). AreShort xs) (sym (statements_ended s)) short)
    (subst (λ (xs : List Statement). AreShort xs) (sym (statements_added s cut)) (short_more (statements (script_of s)) (next_statement s cut) short (short_cut bytes after s cut h t)))

short_fold : (bytes : List ℕ) (s : Placed) (cuts : List Cut) (rest : List ℕ) → length bytes ≤ most_bytes → Cuts bytes cuts rest → AreShort (statements (script_of s))
    → AreShort (statements (script_of (fold after_cut s cuts)))
short_fold bytes s [] rest h read short = short
short_fold bytes s (cut ∷ cuts) rest h read short =
    short_fold read.0 (after_cut s cut) cuts rest (omega (arith, takes_length bytes read.0 cut read.1)) read.2
    (short_after bytes read.0 s cut (tree_of cut.text) h read.1 short)

placed_bounds : (s : Placed) → length s.sessions ≤ 64 → length (statements (script_of s)) ≤ 1000000 → AreShort (statements (script_of s)) → HasBounds (script_of s)
placed_bounds s sessions all short = record {
  some_phase = (let n : length (s.ended ++ s.phase ∷ []) ≡ length s.ended + 1 = length-append s.ended (s.phase ∷ []) in omega arith);
  few_sessions = sessions;
  few_statements = all;
  short_text = (λ x stands. (short stands.0 x stands.1).short_text);
  few_lines = (λ x stands. (short stands.0 x stands.1).few_lines);
}

-- a script that bytes are has the bounds of a script
pub script_bounds : (bytes : List ℕ) (s : Script) → IsScript bytes s → HasBounds s
script_bounds bytes s is =
    let front = is.front in
    let none : AreShort [] = (λ k x at. absurd cc) in
    subst (λ (t : Script). HasBounds t) (sym is.is)
    (placed_bounds (placed_by front.cuts) front.within.sessions front.within.all_statements (short_fold bytes placed_first front.cuts is.rest front.short front.read none))
