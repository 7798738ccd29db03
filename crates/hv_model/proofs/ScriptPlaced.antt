-- What one more text changes of what was read: the statements grow by one or stay, and so do the names of sessions.
use Rattle.std.proofs.Common.{◌≡◌, ◌⊎◌, ℕ, ◌+◌, ◌≤◌, Bool, true, false, cond, List, [], ◌∷◌, ◌++◌, length, Option, Some, None, inl, inr, refl, ap, sym, ◌∙◌, arith, append_assoc, length-append}
use Rattle.std.specs.List.{flat_map}
use Rattle.std.specs.Prelude.{fold}
use Rattle.std.proofs.lemmas.List.{append-nil}
use Rattle.std.proofs.lemmas.List.Concat.{flat_map-append}
use Rattle.hv_model.specs.declared.script.Statement.{Statement}
use Rattle.hv_model.specs.declared.tree.Ast.{Ast}
use Rattle.hv_model.specs.declared.tree.Ast.TheVariants as ast
use Rattle.hv_model.specs.Parsed.{tree_of}
use Rattle.hv_model.specs.Command.{statements}
use Rattle.hv_model.specs.Script.{Cut, Placed, script_of, is_session, with_session, set_session, end_phase, next_statement, add_statement, has_reply, place_cut, after_cut, IsWithin}

-- the statements of the phases that have ended, and those of the last one
parts : (ended : List (List Statement)) (phase : List Statement) → flat_map (λ (p : List Statement). p) (ended ++ phase ∷ []) ≡ flat_map (λ (p : List Statement). p) ended ++ phase
parts ended phase = flat_map-append (λ (p : List Statement). p) ended (phase ∷ []) ∙ ap (λ (xs : List Statement). flat_map (λ (p : List Statement). p) ended ++ xs) (append-nil phase)

-- the end of a phase adds none
pub statements_ended : (s : Placed) → statements (script_of (end_phase s)) ≡ statements (script_of s)
statements_ended s = parts (s.ended ++ s.phase ∷ []) [] ∙ append-nil (statements (script_of s))

-- a statement is added behind all others
pub statements_added : (s : Placed) (cut : Cut) → statements (script_of (add_statement s cut)) ≡ statements (script_of s) ++ next_statement s cut ∷ []
statements_added s cut =
    let x = next_statement s cut in
    parts s.ended (s.phase ++ x ∷ [])
    ∙ sym (append_assoc (flat_map (λ (p : List Statement). p) s.ended) s.phase (x ∷ []))
    ∙ ap (λ (xs : List Statement). xs ++ x ∷ []) (sym (parts s.ended s.phase))

pub count_added : (s : Placed) (cut : Cut) → length (statements (script_of (add_statement s cut))) ≡ length (statements (script_of s)) + 1
count_added s cut = ap (λ (xs : List Statement). length xs) (statements_added s cut) ∙ length-append (statements (script_of s)) (next_statement s cut ∷ [])

-- a text whose statement has a reply is added
pub replied_added : (s : Placed) (cut : Cut) (tree : Option Ast) → has_reply tree ≡ true → place_cut s cut tree ≡ add_statement s cut
replied_added s cut None h = refl
replied_added s cut (Some (ast.Create table columns)) h = refl
replied_added s cut (Some (ast.Import table wanted)) h = refl
replied_added s cut (Some (ast.Purge chunk table)) h = refl
replied_added s cut (Some (ast.Merge chunks table)) h = refl
replied_added s cut (Some (ast.Session name)) h = absurd cc
replied_added s cut (Some ast.Barrier) h = absurd cc
replied_added s cut (Some (ast.Select x)) h = refl

-- a text sets the session, ends the phase or is a statement
pub place_cases : (P : Placed → Type 0) (s : Placed) (cut : Cut) (tree : Option Ast) → ((name : List ℕ) → P (set_session s name)) → P (end_phase s) → P (add_statement s cut) → P (place_cut s cut tree)
place_cases P s cut None set end add = add
place_cases P s cut (Some (ast.Create table columns)) set end add = add
place_cases P s cut (Some (ast.Import table wanted)) set end add = add
place_cases P s cut (Some (ast.Purge chunk table)) set end add = add
place_cases P s cut (Some (ast.Merge chunks table)) set end add = add
place_cases P s cut (Some (ast.Session name)) set end add = set name.name
place_cases P s cut (Some ast.Barrier) set end add = end
place_cases P s cut (Some (ast.Select x)) set end add = add

-- no name is lost
pub sessions_grow : (names : List (List ℕ)) (name : List ℕ) → length names ≤ length (with_session names name)
sessions_grow names name = elim (is_session names name) as (λ v. length names ≤ length (cond v names (names ++ name ∷ []))) [
  | true ↦ omega arith
  | false ↦ let n : length (names ++ name ∷ []) ≡ length names + 1 = length-append names (name ∷ []) in omega arith
]

-- so one more text has no fewer sessions and statements
record Grows (s t : Placed) : Type 0 where
  sessions : length s.sessions ≤ length t.sessions
  all_statements : length (statements (script_of s)) ≤ length (statements (script_of t))

grows_after : (s : Placed) (cut : Cut) (tree : Option Ast) → Grows s (place_cut s cut tree)
grows_after s cut tree = place_cases (λ t. Grows s t) s cut tree
    (λ name. record { sessions = sessions_grow s.sessions name; all_statements = omega arith })
    (record { sessions = omega arith; all_statements = (let n : length (statements (script_of (end_phase s))) ≡ length (statements (script_of s)) = ap (λ (xs : List Statement). length xs) (statements_ended s) in omega arith) })
    (record { sessions = omega arith; all_statements = (let n : length (statements (script_of (add_statement s cut))) ≡ length (statements (script_of s)) + 1 = count_added s cut in omega arith) })

within_before : (s t : Placed) → Grows s t → IsWithin t → IsWithin s
within_before s t g w =
    let a : length s.sessions ≤ length t.sessions = g.sessions in
    let b : length (statements (script_of s)) ≤ length (statements (script_of t)) = g.all_statements in
    let c : length t.sessions ≤ 64 = w.sessions in
    let d : length (statements (script_of t)) ≤ 1000000 = w.all_statements in
    record { sessions = omega arith; all_statements = omega arith }

-- what is within the limits behind more texts was so before
pub within_one : (s : Placed) (cut : Cut) → IsWithin (after_cut s cut) → IsWithin s
within_one s cut w = within_before s (after_cut s cut) (grows_after s cut (tree_of cut.text)) w

pub within_earlier : (s : Placed) (cuts : List Cut) → IsWithin (fold after_cut s cuts) → IsWithin s
within_earlier s [] w = w
within_earlier s (cut ∷ cuts) w = within_one s cut (within_earlier (after_cut s cut) cuts w)
