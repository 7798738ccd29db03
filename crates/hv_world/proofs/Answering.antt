-- Selects, answered over a database.
use Rattle.std.proofs.Common.{◌≡◌, ℕ, ◌&&◌, List, [], ◌∷◌, length, map, Option, Some, None, inr, refl, sym, ap, subst, ◌∙◌, Bool, true, false}
use Rattle.std.specs.Prelude.{Result, Ok, Err, if◌then◌else◌}
use Rattle.std.specs.List.{list_any}
use Rattle.std.specs.Option.{option_or}
use Rattle.hv_row.specs.declared.value.Value.{Value}
use Rattle.hv_model.specs.declared.lexeme.Lexeme.{Lexeme}
use Rattle.hv_model.specs.declared.tree.Ast.{Ast}
use Rattle.hv_model.specs.declared.tree.Ast.TheVariants as ast
use Rattle.hv_model.specs.declared.tree.SelectAst.{SelectAst}
use Rattle.hv_model.specs.declared.script.Statement.{Statement}
use Rattle.hv_model.specs.declared.catalogue.Entry.{Entry}
use Rattle.hv_model.specs.declared.query.BoundQuery.{BoundQuery}
use Rattle.hv_model.specs.declared.query.Cell.{Cell}
use Rattle.hv_model.specs.declared.reply.Reply.TheVariants.{Rows, Refused}
use Rattle.hv_model.specs.declared.reply.Failure.{Failure}
use Rattle.hv_model.specs.declared.reply.Failure.TheVariants.{Read, Write, Damaged, Memory}
use Rattle.hv_model.specs.declared.reply.Refusal.{Refusal}
use Rattle.hv_model.specs.declared.reply.Refusal.TheVariants.{EmptyAggregate}
use Rattle.hv_model.specs.Lexed.{lexemes}
use Rattle.hv_model.specs.SqlReading.{tree_at}
use Rattle.hv_model.specs.Parsed.{placed, some_tree, parsed, tree_of}
use Rattle.hv_model.specs.Database.{RowDatabase}
use Rattle.hv_model.specs.Answer.{AnswersFor, none_of, wants_members, is_empty_aggregate}
use Rattle.hv_model.specs.Query.{rows_of_number, loops_over, out}
use Rattle.hv_model.specs.Bound.{is_grouped}
use Rattle.hv_model.specs.Selected.{select_refusal, select_query, unless_refused}
use Rattle.hv_model.specs.Command.{query_of, bound, early_refusal, empty_refusal, refusal}
use Rattle.hv_model.specs.Legal.{may_fail}
use Rattle.hv_model.specs.Settled.{Settles}
use Rattle.hv_world.proofs.Refusing.{early_at}

-- the law that a grouped select has one place
abbrev pub GroupedHasOnePlace : Type 0
GroupedHasOnePlace = (lexemes : List Lexeme) (x : SelectAst) → tree_at lexemes ≡ Ok (ast.Select x) → is_grouped x ≡ true → length x.places ≡ 1

placed_ok : (end : ℕ) (read : Result Ast (List Lexeme)) (tree : Ast) → placed end read ≡ Ok tree → read ≡ Ok tree
placed_ok end (Ok other) tree is = let same : other ≡ tree = cc in ap (λ t. Ok t) same
placed_ok end (Err at) tree is = absurd cc

-- so a grouped select of a text has one
pub one_place_read : GroupedHasOnePlace → (text : List ℕ) (x : SelectAst) → parsed text ≡ Ok (ast.Select x) → is_grouped x ≡ true → length x.places ≡ 1
one_place_read law text x is grouped = law (lexemes text) x (placed_ok (length text) (tree_at (lexemes text)) (ast.Select x) is) grouped

-- a select that has a query isn't refused but for its rows
query_allowed : (r : Option Refusal) (q found : BoundQuery) → unless_refused r q ≡ Some found → r ≡ None
query_allowed None q found is = refl
query_allowed (Some cause) q found is = absurd cc

-- the query of a statement that is a select
query_bound : (x : Statement) (s : RowDatabase) (tree : SelectAst) (q : BoundQuery) → parsed x.text ≡ Ok (ast.Select tree) → select_query tree s ≡ Some q → bound x s ≡ Some q
query_bound x s tree q is bound = ap (λ r. query_of (some_tree r) s) is ∙ bound

query_early : (x : Statement) (s : RowDatabase) (tree : SelectAst) (q : BoundQuery) → parsed x.text ≡ Ok (ast.Select tree) → select_query tree s ≡ Some q → early_refusal x s ≡ None
query_early x s tree q is bound = early_at x s (Ok (ast.Select tree)) is ∙ query_allowed (select_refusal tree s) _ q bound

-- with its query, the refusal is one for want of combinations
query_refusal : (x : Statement) (s : RowDatabase) (max : ℕ) (tree : SelectAst) (q : BoundQuery) (tables : List (List (List Value))) (over_none : Bool) → parsed x.text ≡ Ok (ast.Select tree)
    → select_query tree s ≡ Some q → tables ≡ map (rows_of_number s) q.places → is_empty_aggregate q (loops_over q.cond tables) ≡ over_none
    → refusal x s max ≡ (if over_none then Some EmptyAggregate else None)
query_refusal x s max tree q tables over_none is bound are over =
    ap (λ o. option_or o (empty_refusal (query_of (tree_of x.text) s) s)) (query_early x s tree q is bound) ∙ ap (λ o. empty_refusal o s) (query_bound x s tree q is bound)
    ∙ ap (λ ts. if is_empty_aggregate q (loops_over q.cond ts) then Some EmptyAggregate else None) (sym are) ∙ ap (λ b. if b then Some EmptyAggregate else None) over

-- a select that is refused early
pub early_select : (x : Statement) (s : RowDatabase) (tree : SelectAst) (cause : Refusal) → parsed x.text ≡ Ok (ast.Select tree) → select_refusal tree s ≡ Some cause → early_refusal x s ≡ Some cause
early_select x s tree cause is refused = early_at x s (Ok (ast.Select tree)) is ∙ refused

-- the rows of a select answer it
pub settles_rows : (x : Statement) (max : ℕ) (known : Type 0) (s : RowDatabase) (history : List Entry) (at : ℕ) (tree : SelectAst) (q : BoundQuery) (tables : List (List (List Value))) (rows : List (List Cell))
    → at ≡ length history → parsed x.text ≡ Ok (ast.Select tree) → select_query tree s ≡ Some q → (known → tables ≡ map (rows_of_number s) q.places)
    → AnswersFor q.order q.limit (out q (loops_over q.cond tables)) rows → is_empty_aggregate q (loops_over q.cond tables) ≡ false
    → Settles x max known s history (Rows at rows) s history
settles_rows x max known s history at tree q tables rows counted is bound are answer some = (
  record { same_database = refl; same_history = refl; at_is = counted },
  record {
    query = q;
    is = query_bound x s tree q is bound;
    early = query_early x s tree q is bound;
    allowed = λ is_known. query_refusal x s max tree q tables false is bound (are is_known) some;
    answer = λ is_known. subst (λ ts. AnswersFor q.order q.limit (out q (loops_over q.cond ts)) rows) (are is_known) answer;
  },
)

-- what wants members over some combinations wants them over none
over_none : (q : BoundQuery) (combos : List (List (List Value))) → is_empty_aggregate q combos ≡ true → is_empty_aggregate q [] ≡ true
over_none q [] is = is
over_none q (combo ∷ combos) is = absurd (never (none_of q.groups) (list_any wants_members q.items) is) where
  never : (a b : Bool) → (a && false && b) ≡ true → ⊥
  never true b e = cc
  never false b e = cc

-- a select over no combinations that wants some is refused
pub settles_over_none : (x : Statement) (max : ℕ) (known : Type 0) (s : RowDatabase) (history : List Entry) (at : ℕ) (tree : SelectAst) (q : BoundQuery) (tables : List (List (List Value)))
    → at ≡ length history → parsed x.text ≡ Ok (ast.Select tree) → select_query tree s ≡ Some q → (known → tables ≡ map (rows_of_number s) q.places)
    → is_empty_aggregate q (loops_over q.cond tables) ≡ true → Settles x max known s history (Refused at EmptyAggregate) s history
settles_over_none x max known s history at tree q tables counted is bound are none = (
  record { same_database = refl; same_history = refl; at_is = counted },
  record {
    told = λ is_known. query_refusal x s max tree q tables true is bound (are is_known) none;
    cause_is = inr (record { is = refl; query = q; means = query_bound x s tree q is bound; over_none = over_none q (loops_over q.cond tables) none });
  },
)

-- a select fails for its reads or for want of memory
pub may_read : (text : List ℕ) (tree : SelectAst) (cause : Failure) → parsed text ≡ Ok (ast.Select tree) → ¬ (cause ≡ Write) → may_fail (tree_of text) cause ≡ true
may_read text tree Read is read = ap (λ r. may_fail (some_tree r) Read) is
may_read text tree Write is read = absurd (read refl)
may_read text tree (Damaged chunk page why) is read = ap (λ r. may_fail (some_tree r) (Damaged chunk page why)) is
may_read text tree Memory is read = refl
