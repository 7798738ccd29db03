-- The columns of a table that is created: the grammar asks for one, and the first repeated one is among them.
use Rattle.std.proofs.Common.{◌≡◌, ℕ, ◌+◌, ◌<◌, Bool, true, false, List, [], ◌∷◌, ◌++◌, length, Option, Some, None, inl, inr, refl, subst, arith, ltb-false}
use Rattle.std.specs.Prelude.{nat_lt, if◌then◌else◌}
use Rattle.std.specs.Bool.{then_some}
use Rattle.std.specs.Option.{option_map}
use Rattle.std.proofs.lemmas.Option.{same_Some}
use Rattle.hv_row.specs.Schema.{IsSchema, has_column, repeated_from, first_repeated}
use Rattle.hv_model.specs.declared.reply.Refusal.TheVariants.{TooManyColumns, DuplicateColumn}
use Rattle.hv_model.specs.Causes.{first_of}
use Rattle.hv_model.specs.Command.{column_causes}
use Rattle.hv_catalogue.proofs.Points.{first_none, fails}
use Rattle.hv_row.specs.declared.schema.Column.{Column}
use Rattle.hv_model.specs.declared.lexeme.Lexeme.{Lexeme}
use Rattle.hv_model.specs.declared.tree.Ast.TheVariants.{Create}
use Rattle.hv_model.specs.declared.tree.Word.{Word}
use Rattle.hv_model.specs.Sql.{create, import, purge, merge, session, barrier, select, statement}
use Rattle.hv_model.specs.Fault.{IsStatement}

of_create : (lexemes : List Lexeme) (table : Word) (columns : List Column) → create lexemes [] (Create table columns) → 0 < length columns
unfolding create
of_create lexemes table columns s =
    let listed = s.second.second.second.second in
    let first = listed.first in
    let read = listed.second.second.1 in
    let more = first.second.second.1 in
    let same : listed.value ≡ columns = cc in
    subst (λ (cs : List Column). 0 < length cs) same (subst (λ (cs : List Column). 0 < length cs) more (omega arith))

no_import : (lexemes : List Lexeme) (table : Word) (columns : List Column) → import lexemes [] (Create table columns) → ⊥
unfolding import
no_import lexemes table columns s = let e = s.second.second.second.second.second.1 in cc

no_purge : (lexemes : List Lexeme) (table : Word) (columns : List Column) → purge lexemes [] (Create table columns) → ⊥
unfolding purge
no_purge lexemes table columns s = let e = s.second.second.second.second.second.1 in cc

no_merge : (lexemes : List Lexeme) (table : Word) (columns : List Column) → merge lexemes [] (Create table columns) → ⊥
unfolding merge
no_merge lexemes table columns s = let e = s.second.second.second.second.second.second.second.1 in cc

no_session : (lexemes : List Lexeme) (table : Word) (columns : List Column) → session lexemes [] (Create table columns) → ⊥
unfolding session
no_session lexemes table columns s = let e = s.second.second.1 in cc

no_barrier : (lexemes : List Lexeme) (table : Word) (columns : List Column) → barrier lexemes [] (Create table columns) → ⊥
unfolding barrier
no_barrier lexemes table columns s = let e = s.second.1 in cc

no_select : (lexemes : List Lexeme) (table : Word) (columns : List Column) → select lexemes [] (Create table columns) → ⊥
unfolding select
no_select lexemes table columns s = let e = s.second.second.second.second.second.second.second.1 in cc

pub some_columns : (lexemes : List Lexeme) (table : Word) (columns : List Column) → IsStatement lexemes (Create table columns) → 0 < length columns
unfolding statement
some_columns lexemes table columns (inl s) = of_create lexemes table columns s
some_columns lexemes table columns (inr (inl s)) = absurd (no_import lexemes table columns s)
some_columns lexemes table columns (inr (inr (inl s))) = absurd (no_purge lexemes table columns s)
some_columns lexemes table columns (inr (inr (inr (inl s)))) = absurd (no_merge lexemes table columns s)
some_columns lexemes table columns (inr (inr (inr (inr (inl s))))) = absurd (no_session lexemes table columns s)
some_columns lexemes table columns (inr (inr (inr (inr (inr (inl s)))))) = absurd (no_barrier lexemes table columns s)
some_columns lexemes table columns (inr (inr (inr (inr (inr (inr s)))))) = absurd (no_select lexemes table columns s)

-- the place of the first repeated column is that of a column
repeated_below : (before columns : List Column) (at place : ℕ) → repeated_from before columns at ≡ Some place → place < at + length columns
repeated_below before [] at place found = absurd cc
repeated_below before (column ∷ columns) at place found = by (has_column before column.name) (repeated_below (before ++ column ∷ []) columns (at + 1) place) found where
  by : (b : Bool) → (repeated_from (before ++ column ∷ []) columns (at + 1) ≡ Some place → place < at + 1 + length columns)
      → (if b then Some at else repeated_from (before ++ column ∷ []) columns (at + 1)) ≡ Some place → place < at + length (column ∷ columns)
  by true rest e = let same : at ≡ place = same_Some at place e in omega arith
  by false rest e = let below : place < at + 1 + length columns = rest e in omega arith

pub repeated_within : (columns : List Column) (place : ℕ) → first_repeated columns ≡ Some place → place < length columns
repeated_within columns place found = let below : place < 0 + length columns = repeated_below [] columns 0 place found in omega arith

-- columns against which nothing stands are those of a table
pub are_schema : (columns : List Column) → 0 < length columns → first_of (column_causes columns) ≡ None → IsSchema columns
are_schema columns some free =
    let many = first_none (then_some (nat_lt 32 (length columns)) TooManyColumns) (option_map (λ place. DuplicateColumn (place + 1)) (first_repeated columns) ∷ []) free in
    let repeated = first_none (option_map (λ place. DuplicateColumn (place + 1)) (first_repeated columns)) [] many.1 in record {
      some = some;
      short = ltb-false 32 (length columns) (fails (nat_lt 32 (length columns)) TooManyColumns many.0);
      distinct = unmapped (first_repeated columns) repeated.0;
    }
  where
    unmapped : (o : Option ℕ) → option_map (λ place. DuplicateColumn (place + 1)) o ≡ None → o ≡ None
    unmapped None e = refl
    unmapped (Some place) e = absurd cc
