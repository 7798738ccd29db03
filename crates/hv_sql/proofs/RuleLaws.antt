-- Each rule of the grammar and its reader keep their laws.
use Rattle.std.proofs.Common.{◌≡◌, ℕ, zero, suc, ◌^◌, Bool, true, false, ◌||◌, List, [], ◌∷◌, refl, ap}
use Rattle.std.specs.Prelude.{Some, None, nat_le, if◌then◌else◌}
use Rattle.std.specs.Option.{option_map}
use Rattle.hv_model.specs.declared.lexeme.Lexeme.{Lexeme}
use Rattle.hv_model.specs.declared.lexeme.What.{What}
use Rattle.hv_model.specs.declared.lexeme.What.TheVariants as what
use Rattle.hv_model.specs.declared.lexeme.Keyword.{Keyword}
use Rattle.hv_model.specs.declared.lexeme.Keyword.TheVariants as k
use Rattle.hv_model.specs.declared.lexeme.Symbol.{Symbol}
use Rattle.hv_model.specs.declared.lexeme.Symbol.TheVariants as s
use Rattle.hv_model.specs.declared.lexeme.Kind.{Kind}
use Rattle.hv_model.specs.declared.lexeme.Kind.TheVariants as kinds
use Rattle.hv_model.specs.declared.tree.Word.{Word}
use Rattle.hv_model.specs.declared.tree.Numeral.{Numeral}
use Rattle.hv_model.specs.declared.tree.Cmp.{Cmp}
use Rattle.hv_model.specs.declared.tree.Cmp.TheVariants as c
use Rattle.hv_model.specs.Terminals.{kind, kind_of, same_kind, of_kind, is_keyword, is_symbol, is_word, word_of, is_number, number_of, is_text, text_of, is_comparison, comparison_of, cmp_of}
use Rattle.hv_model.specs.Sql.{keyword, symbol, name, most_number, most_behind, number, number_up_to, text, cmp, ref, ref_behind, is_aggregate, list_or_one, column_type, column, create, import, purge, part, merge, session, barrier, counted, count, ref_in, item, star, items, alias, place, places, negative, operand, test, conj, cond, negated, nested, term, where_part, group_part, groups_of, key_by, direction, key, limit_part, order_part, select, statement}
use Rattle.hv_model.specs.SqlReading.{deeper_at, keyword_at, symbol_at, name_at, number_at, number_up_to_at, text_at, cmp_at, ref_at, ref_behind_at, column_type_at, column_at, create_at, import_at, purge_at, part_at, merge_at, session_at, barrier_at, counted_at, count_at, ref_in_at, item_at, star_at, items_at, alias_at, place_at, places_at, negative_at, operand_at, test_at, conj_at, cond_at, negated_at, nested_at, term_at, where_part_at, group_part_at, groups_of_at, key_by_at, direction_at, key_at, limit_part_at, order_part_at, select_at, statement_at}
use Rattle.hv_sql.proofs.Lawful.{Lawful, LawfulBy, gives_lawful, one_lawful}
use Rattle.hv_sql.proofs.KindLaws.{one_same}
use Rattle.hv_sql.proofs.KindSets.{member, joined}
use Rattle.hv_sql.proofs.Sequence.{seq, seq_}
use Rattle.hv_sql.proofs.Choice.{either, either_one}
use Rattle.hv_sql.proofs.Lists.{fits, optional_lawful, given_lawful, list_of_lawful, list_of_up_to_lawful}
use Rattle.hv_model.specs.Grammar.{Grammar}
use Rattle.hv_model.specs.Reading.{Reader}
use Rattle.std.specs.Prelude.{pos, neg_ℤ}
use Rattle.std.specs.List.{list_any}
use Rattle.hv_row.specs.declared.value.Value.TheVariants.{Int, Text}
use Rattle.hv_row.specs.declared.value.ColType.TheVariants as type
use Rattle.hv_model.specs.declared.tree.Ast.TheVariants as ast
use Rattle.hv_model.specs.declared.tree.ItemAst.TheVariants as it
use Rattle.hv_model.specs.declared.tree.PlaceAst.{PlaceAst}
use Rattle.hv_model.specs.declared.tree.KeyBy.TheVariants as by
use Rattle.hv_model.specs.declared.tree.OperandAst.TheVariants as operand_ast
use Rattle.hv_model.specs.declared.tree.CondAst.{CondAst}
use Rattle.hv_model.specs.declared.tree.CondAst.TheVariants as cond_ast

-- ---- terminals

-- the words by which what was read is completed: the name `a`, the number 0, symbols and keywords
abbrev pub nm : What
nm = what.Name (97 ∷ [])

abbrev pub num : What
num = what.Number 0

abbrev pub kw : Keyword → What
kw x = what.Keyword x

abbrev pub sy : Symbol → What
sy x = what.Symbol x

of_kind_kind : (n : Kind) (t : Lexeme) (a : ℕ) → of_kind n t ≡ Some a → member (kind t) (n ∷ []) ≡ true
of_kind_kind n t a e = go (same_kind (kind t) n) e
  where
    go : (b : Bool) → (if b then Some t.byte else None) ≡ Some a → (b || false) ≡ true
    go true e = refl
    go false e = absurd cc

of_kind_some : (n : Kind) (t : Lexeme) → kind t ≡ n → of_kind n t ≡ Some t.byte
of_kind_some n t e = ap (λ z. if z then Some t.byte else None) (one_same (kind t) n e)

pub symbol_lawful : (x : Symbol) → Lawful [] (kinds.Symbol x ∷ []) false (sy x ∷ []) (symbol x) (symbol_at x)
symbol_lawful x = one_lawful (kinds.Symbol x ∷ []) (is_symbol x) (sy x) (of_kind_kind (kinds.Symbol x)) (λ byte. (byte, of_kind_some (kinds.Symbol x) (record { what = sy x; byte = byte }) refl)) refl

pub keyword_lawful : (x : Keyword) → Lawful [] (kinds.Keyword x ∷ []) false (kw x ∷ []) (keyword x) (keyword_at x)
keyword_lawful x = one_lawful (kinds.Keyword x ∷ []) (is_keyword x) (kw x) (of_kind_kind (kinds.Keyword x)) (λ byte. (byte, of_kind_some (kinds.Keyword x) (record { what = kw x; byte = byte }) refl)) refl

word_kind : (w : What) (byte : ℕ) (a : Word) → word_of w byte ≡ Some a → member (kind_of w) (kinds.Name ∷ []) ≡ true
word_kind (what.Name x) byte a e = refl
word_kind _ byte a e = absurd cc

-- the name `a`
pub name_lawful : Lawful [] (kinds.Name ∷ []) false (nm ∷ []) name name_at
name_lawful = one_lawful (kinds.Name ∷ []) is_word nm (λ t a e. word_kind t.what t.byte a e) (λ byte. (record { name = 97 ∷ []; byte = byte }, refl)) refl

num_kind : (most : ℕ) (w : What) (byte : ℕ) (a : Numeral) → number_of most w byte ≡ Some a → member (kind_of w) (kinds.Number ∷ []) ≡ true
num_kind most (what.Number x) byte a e = refl
num_kind most _ byte a e = absurd cc

-- the number 0
abbrev zero_at : ℕ → Numeral
zero_at byte = record { value = 0; byte = byte }

pub number_up_to_lawful : (most : ℕ) → nat_le 0 most ≡ true → Lawful [] (kinds.Number ∷ []) false (num ∷ []) (number_up_to most) (number_up_to_at most)
number_up_to_lawful most e =
    one_lawful (kinds.Number ∷ []) (is_number most) num (λ t a f. num_kind most t.what t.byte a f) (λ byte. (zero_at byte, ap (λ z. if z then Some (zero_at byte) else None) e)) refl

pub number_lawful : Lawful [] (kinds.Number ∷ []) false (num ∷ []) number number_at
number_lawful = number_up_to_lawful most_number refl

of_text_kind : (w : What) (a : List ℕ) → text_of w ≡ Some a → member (kind_of w) (kinds.Text ∷ []) ≡ true
of_text_kind (what.Text x) a e = refl
of_text_kind _ a e = absurd cc

-- the empty text, which completes nothing
pub text_lawful : LawfulBy (λ _. true) [] (kinds.Text ∷ []) false (what.Text [] ∷ []) text text_at
text_lawful = one_lawful (kinds.Text ∷ []) is_text (what.Text []) (λ t a e. of_text_kind t.what a e) (λ byte. ([], refl)) refl

abbrev pub cmp_kinds : List Kind
cmp_kinds =
    kinds.Symbol s.Equal ∷ kinds.Symbol s.Unequal ∷ kinds.Symbol s.NotEqual ∷ kinds.Symbol s.Less ∷ kinds.Symbol s.AtMost ∷ kinds.Symbol s.Greater
    ∷ kinds.Symbol s.AtLeast ∷ []

cmp_symbol : (x : Symbol) (byte : ℕ) (a : Cmp × ℕ) → option_map (λ how. (how, byte)) (cmp_of x) ≡ Some a → member (kinds.Symbol x) cmp_kinds ≡ true
cmp_symbol s.Equal byte a e = refl
cmp_symbol s.Unequal byte a e = refl
cmp_symbol s.NotEqual byte a e = refl
cmp_symbol s.Less byte a e = refl
cmp_symbol s.AtMost byte a e = refl
cmp_symbol s.Greater byte a e = refl
cmp_symbol s.AtLeast byte a e = refl
cmp_symbol _ byte a e = absurd cc

comparison_kind : (w : What) (byte : ℕ) (a : Cmp × ℕ) → comparison_of w byte ≡ Some a → member (kind_of w) cmp_kinds ≡ true
comparison_kind (what.Symbol x) byte a e = cmp_symbol x byte a e
comparison_kind _ byte a e = absurd cc

pub cmp_lawful : Lawful [] cmp_kinds false (sy s.Equal ∷ []) cmp cmp_at
cmp_lawful = one_lawful cmp_kinds is_comparison (sy s.Equal) (λ t a e. comparison_kind t.what t.byte a e) (λ byte. ((c.Eq, byte), refl)) refl

-- ---- references

pub ref_behind_lawful : (w : Word) → Lawful (kinds.Symbol s.Dot ∷ []) (kinds.Symbol s.Dot ∷ []) true [] (ref_behind w) (ref_behind_at w)
unfolding ref_behind ref_behind_at
ref_behind_lawful w = either (seq_ (symbol_lawful s.Dot) (seq name_lawful (λ column. gives_lawful (record { alias = Some w.name; column = column.name; byte = w.byte })) refl) refl) (gives_lawful (record { alias = None; column = w.name; byte = w.byte })) refl

pub ref_lawful : Lawful (kinds.Symbol s.Dot ∷ []) (kinds.Name ∷ []) false (nm ∷ []) ref ref_at
unfolding ref ref_at
ref_lawful = seq name_lawful (λ w. ref_behind_lawful w) refl

-- ---- statements other than SELECT

comma : Lawful [] (kinds.Symbol s.Comma ∷ []) false (sy s.Comma ∷ []) (symbol s.Comma) (symbol_at s.Comma)
comma = symbol_lawful s.Comma

pub column_type_lawful : Lawful [] (kinds.Keyword k.Int ∷ kinds.Keyword k.Text ∷ []) false (kw k.Text ∷ []) column_type column_type_at
unfolding column_type column_type_at
column_type_lawful = either (seq_ (keyword_lawful k.Int) (gives_lawful type.Int) refl) (seq_ (keyword_lawful k.Text) (gives_lawful type.Text) refl) refl

pub column_lawful : Lawful (kinds.Keyword k.Index ∷ kinds.Keyword k.Range ∷ []) (kinds.Name ∷ []) false (nm ∷ kw k.Text ∷ []) column column_at
unfolding column column_at
column_lawful =
    seq name_lawful (λ w.
    seq column_type_lawful (λ t.
    seq (given_lawful (keyword_lawful k.Index)) (λ i.
    seq (given_lawful (keyword_lawful k.Range)) (λ r.
    gives_lawful (record { name = w.name; kind = t; index = i; range = r })) refl) refl) refl) refl

pub create_lawful : Lawful [] (kinds.Keyword k.Create ∷ []) false (kw k.Create ∷ kw k.Table ∷ nm ∷ sy s.Open ∷ nm ∷ kw k.Text ∷ sy s.Close ∷ []) create create_at
unfolding create create_at
create_lawful =
    seq_ (keyword_lawful k.Create)
    (seq_ (keyword_lawful k.Table)
    (seq name_lawful (λ table.
    seq_ (symbol_lawful s.Open)
    (seq (list_of_lawful comma column_lawful refl) (λ columns.
    seq_ (symbol_lawful s.Close) (gives_lawful (ast.Create table columns)) refl) refl) refl) refl) refl) refl

pub import_lawful : Lawful [] (kinds.Keyword k.Import ∷ []) false (kw k.Import ∷ kw k.Into ∷ nm ∷ kw k.Lines ∷ num ∷ []) import import_at
unfolding import import_at
import_lawful =
    seq_ (keyword_lawful k.Import)
    (seq_ (keyword_lawful k.Into)
    (seq name_lawful (λ table.
    seq_ (keyword_lawful k.Lines)
    (seq number_lawful (λ lines. gives_lawful (ast.Import table lines.value)) refl) refl) refl) refl) refl

pub purge_lawful : Lawful [] (kinds.Keyword k.Purge ∷ []) false (kw k.Purge ∷ kw k.Chunk ∷ num ∷ kw k.Of ∷ nm ∷ []) purge purge_at
unfolding purge purge_at
purge_lawful =
    seq_ (keyword_lawful k.Purge)
    (seq_ (keyword_lawful k.Chunk)
    (seq number_lawful (λ chunk.
    seq_ (keyword_lawful k.Of)
    (seq name_lawful (λ table. gives_lawful (ast.Purge chunk.value table)) refl) refl) refl) refl) refl

pub part_lawful : Lawful [] (kinds.Number ∷ []) false (num ∷ []) part part_at
unfolding part part_at
part_lawful = seq number_lawful (λ n. gives_lawful n.value) refl

pub merge_lawful : Lawful [] (kinds.Keyword k.Merge ∷ []) false (kw k.Merge ∷ kw k.Chunks ∷ num ∷ sy s.Comma ∷ num ∷ kw k.Of ∷ nm ∷ []) merge merge_at
unfolding merge merge_at
merge_lawful =
    seq_ (keyword_lawful k.Merge)
    (seq_ (keyword_lawful k.Chunks)
    (seq part_lawful (λ first.
    seq_ comma
    (seq (list_of_lawful comma part_lawful refl) (λ others.
    seq_ (keyword_lawful k.Of)
    (seq name_lawful (λ table. gives_lawful (ast.Merge (first ∷ others) table)) refl) refl) refl) refl) refl) refl) refl

pub session_lawful : Lawful [] (kinds.Keyword k.Session ∷ []) false (kw k.Session ∷ nm ∷ []) session session_at
unfolding session session_at
session_lawful = seq_ (keyword_lawful k.Session) (seq name_lawful (λ w. gives_lawful (ast.Session w)) refl) refl

pub barrier_lawful : Lawful [] (kinds.Keyword k.Barrier ∷ []) false (kw k.Barrier ∷ []) barrier barrier_at
unfolding barrier barrier_at
barrier_lawful = seq_ (keyword_lawful k.Barrier) (gives_lawful ast.Barrier) refl

-- ---- items and places

pub counted_lawful : Lawful (kinds.Symbol s.Dot ∷ []) (kinds.Symbol s.Star ∷ kinds.Name ∷ []) false (nm ∷ []) counted counted_at
unfolding counted counted_at
counted_lawful = either (seq_ (symbol_lawful s.Star) (gives_lawful it.Count) refl) (seq ref_lawful (λ r. gives_lawful (it.CountOf r)) refl) refl

pub count_lawful : Lawful [] (kinds.Keyword k.Count ∷ []) false (kw k.Count ∷ sy s.Open ∷ nm ∷ sy s.Close ∷ []) count count_at
unfolding count count_at
count_lawful =
    seq_ (keyword_lawful k.Count)
    (seq_ (symbol_lawful s.Open)
    (seq counted_lawful (λ x.
    seq_ (symbol_lawful s.Close) (gives_lawful x) refl) refl) refl) refl

pub ref_in_lawful : (word : Keyword) → Lawful [] (kinds.Keyword word ∷ []) false (kw word ∷ sy s.Open ∷ nm ∷ sy s.Close ∷ []) (ref_in word) (ref_in_at word)
unfolding ref_in ref_in_at
ref_in_lawful word =
    seq_ (keyword_lawful word)
    (seq_ (symbol_lawful s.Open)
    (seq ref_lawful (λ r.
    seq_ (symbol_lawful s.Close) (gives_lawful r) refl) refl) refl) refl

abbrev pub item_heads : List Kind
item_heads = kinds.Keyword k.Count ∷ kinds.Keyword k.Sum ∷ kinds.Keyword k.Min ∷ kinds.Keyword k.Max ∷ kinds.Name ∷ []

pub item_lawful : Lawful (kinds.Symbol s.Dot ∷ []) item_heads false (nm ∷ []) item item_at
unfolding item item_at
item_lawful =
    either count_lawful
    (either (seq (ref_in_lawful k.Sum) (λ r. gives_lawful (it.Sum r)) refl)
    (either (seq (ref_in_lawful k.Min) (λ r. gives_lawful (it.Least r)) refl)
    (either (seq (ref_in_lawful k.Max) (λ r. gives_lawful (it.Greatest r)) refl)
    (seq ref_lawful (λ r. gives_lawful (it.Col r)) refl) refl) refl) refl) refl

pub star_lawful : Lawful [] (kinds.Symbol s.Star ∷ []) false (sy s.Star ∷ []) star star_at
unfolding star star_at
star_lawful = seq (symbol_lawful s.Star) (λ byte. gives_lawful (it.Star byte ∷ [])) refl

pub items_lawful : Lawful (kinds.Symbol s.Comma ∷ kinds.Symbol s.Dot ∷ []) (kinds.Symbol s.Star ∷ item_heads) false (nm ∷ []) items items_at
unfolding items items_at
items_lawful = either star_lawful (list_of_up_to_lawful comma item_lawful refl most_behind) refl

pub alias_lawful : Lawful (kinds.Keyword k.As ∷ kinds.Name ∷ []) (kinds.Keyword k.As ∷ kinds.Name ∷ []) true [] alias alias_at
unfolding alias alias_at
alias_lawful = either (seq_ (keyword_lawful k.As) (seq name_lawful (λ w. gives_lawful (Some w)) refl) refl) (optional_lawful name_lawful) refl

pub place_lawful : Lawful (kinds.Keyword k.As ∷ kinds.Name ∷ []) (kinds.Name ∷ []) false (nm ∷ []) place place_at
unfolding place place_at
place_lawful = seq name_lawful (λ table. seq alias_lawful (λ a. gives_lawful (record { table = table; alias = a })) refl) refl

pub places_lawful : (alone : Bool) → Lawful (kinds.Symbol s.Comma ∷ kinds.Keyword k.As ∷ kinds.Name ∷ []) (kinds.Name ∷ []) false (nm ∷ []) (places alone) (places_at alone)
unfolding places places_at
places_lawful true = fits (seq place_lawful (λ p. gives_lawful (p ∷ [])) refl) refl refl refl
places_lawful false = list_of_lawful comma place_lawful refl

-- ---- conditions

pub negative_lawful : Lawful [] (kinds.Symbol s.Minus ∷ []) false (sy s.Minus ∷ num ∷ []) negative negative_at
unfolding negative negative_at
negative_lawful = seq_ (symbol_lawful s.Minus) (seq (number_up_to_lawful (2 ^ 63) refl) (λ n. gives_lawful (operand_ast.Lit (Int (neg_ℤ (pos n.value))))) refl) refl

abbrev pub operand_heads : List Kind
operand_heads = kinds.Name ∷ kinds.Number ∷ kinds.Symbol s.Minus ∷ kinds.Text ∷ []

pub operand_lawful : Lawful (kinds.Symbol s.Dot ∷ []) operand_heads false (sy s.Minus ∷ num ∷ []) operand operand_at
unfolding operand operand_at
operand_lawful =
    either (seq ref_lawful (λ r. gives_lawful (operand_ast.Col r)) refl)
    (either (seq number_lawful (λ n. gives_lawful (operand_ast.Lit (Int (pos n.value)))) refl)
    (either_one is_text (λ t. operand_ast.Lit (Text t)) negative_lawful
    (seq text_lawful (λ t. gives_lawful (operand_ast.Lit (Text t))) refl) refl) refl) refl

pub test_lawful : Lawful (kinds.Symbol s.Dot ∷ []) operand_heads false (sy s.Minus ∷ num ∷ sy s.Equal ∷ sy s.Minus ∷ num ∷ []) test test_at
unfolding test test_at
test_lawful = seq operand_lawful (λ left. seq cmp_lawful (λ how. seq operand_lawful (λ right. gives_lawful (cond_ast.Test left how.0 right how.1)) refl) refl) refl

abbrev pub term_heads : List Kind
term_heads = kinds.Keyword k.Not ∷ kinds.Symbol s.Open ∷ operand_heads

-- what is lawful as a term
abbrev pub TermLawful : Grammar CondAst → Reader CondAst → Type 0
TermLawful R p = Lawful (kinds.Symbol s.Dot ∷ []) term_heads false (sy s.Minus ∷ num ∷ sy s.Equal ∷ sy s.Minus ∷ num ∷ []) R p

pub conj_lawful : {R : Grammar CondAst} {p : Reader CondAst} → TermLawful R p → Lawful (kinds.Keyword k.And ∷ kinds.Symbol s.Dot ∷ []) term_heads false (sy s.Minus ∷ num ∷ sy s.Equal ∷ sy s.Minus ∷ num ∷ []) (conj R) (conj_at p)
unfolding conj conj_at
conj_lawful l = seq (list_of_lawful (keyword_lawful k.And) l refl) (λ xs. gives_lawful (list_or_one cond_ast.All xs)) refl

pub cond_lawful : {R : Grammar CondAst} {p : Reader CondAst} → TermLawful R p
    → Lawful (kinds.Keyword k.Or ∷ kinds.Keyword k.And ∷ kinds.Symbol s.Dot ∷ []) term_heads false (sy s.Minus ∷ num ∷ sy s.Equal ∷ sy s.Minus ∷ num ∷ []) (cond R) (cond_at p)
unfolding cond cond_at
cond_lawful l = seq (list_of_lawful (keyword_lawful k.Or) (conj_lawful l) refl) (λ xs. gives_lawful (list_or_one cond_ast.Any xs)) refl

pub negated_lawful : {R : Grammar CondAst} {p : Reader CondAst} → TermLawful R p → Lawful (kinds.Symbol s.Dot ∷ []) (kinds.Keyword k.Not ∷ []) false (kw k.Not ∷ sy s.Minus ∷ num ∷ sy s.Equal ∷ sy s.Minus ∷ num ∷ []) (negated R) (negated_at p)
unfolding negated negated_at
negated_lawful l = seq_ (keyword_lawful k.Not) (seq l (λ x. gives_lawful (cond_ast.Not x)) refl) refl

pub nested_lawful : {R : Grammar CondAst} {p : Reader CondAst} → TermLawful R p → Lawful [] (kinds.Symbol s.Open ∷ []) false (sy s.Open ∷ sy s.Minus ∷ num ∷ sy s.Equal ∷ sy s.Minus ∷ num ∷ sy s.Close ∷ []) (nested R) (nested_at p)
unfolding nested nested_at
nested_lawful l = seq_ (symbol_lawful s.Open) (seq (cond_lawful l) (λ x. seq_ (symbol_lawful s.Close) (gives_lawful x) refl) refl) refl

pub term_lawful : (depth : ℕ) → TermLawful (term depth) (term_at depth)
unfolding term term_at deeper_at
term_lawful zero = fits test_lawful refl refl refl
term_lawful (suc depth) = fits (either (negated_lawful (term_lawful depth)) (either (nested_lawful (term_lawful depth)) test_lawful refl) refl) refl refl refl

abbrev pub where_bars : List Kind
where_bars = kinds.Keyword k.Where ∷ kinds.Keyword k.Or ∷ kinds.Keyword k.And ∷ kinds.Symbol s.Dot ∷ []

pub where_lawful : Lawful where_bars (kinds.Keyword k.Where ∷ []) true [] where_part where_part_at
unfolding where_part where_part_at
where_lawful = either (seq_ (keyword_lawful k.Where) (seq (cond_lawful (term_lawful 64)) (λ x. gives_lawful x) refl) refl) (gives_lawful cond_ast.Always) refl

-- ---- groups and order

abbrev pub group_bars : List Kind
group_bars = kinds.Keyword k.Group ∷ kinds.Symbol s.Comma ∷ kinds.Symbol s.Dot ∷ []

pub group_lawful : Lawful group_bars (kinds.Keyword k.Group ∷ []) true [] group_part group_part_at
unfolding group_part group_part_at
group_lawful =
    either (seq_ (keyword_lawful k.Group) (seq_ (keyword_lawful k.By) (seq (list_of_up_to_lawful comma ref_lawful refl most_behind) (λ xs. gives_lawful xs) refl) refl) refl)
    (gives_lawful []) refl

pub groups_lawful : (ps : List PlaceAst) → Lawful group_bars (kinds.Keyword k.Group ∷ []) true [] (groups_of ps) (groups_of_at ps)
unfolding groups_of groups_of_at
groups_lawful [] = fits (gives_lawful []) refl refl refl
groups_lawful (p ∷ []) = group_lawful
groups_lawful (p ∷ q ∷ ps) = fits (gives_lawful []) refl refl refl

pub key_by_lawful : Lawful (kinds.Symbol s.Dot ∷ []) (kinds.Number ∷ kinds.Name ∷ []) false (nm ∷ []) key_by key_by_at
unfolding key_by key_by_at
key_by_lawful = either (seq number_lawful (λ n. gives_lawful (by.Number n.value, n.byte)) refl) (seq ref_lawful (λ r. gives_lawful (by.Col r, r.byte)) refl) refl

pub direction_lawful : Lawful (kinds.Keyword k.Asc ∷ kinds.Keyword k.Desc ∷ []) (kinds.Keyword k.Asc ∷ kinds.Keyword k.Desc ∷ []) true [] direction direction_at
unfolding direction direction_at
direction_lawful = either (seq_ (keyword_lawful k.Asc) (gives_lawful false) refl) (given_lawful (keyword_lawful k.Desc)) refl

pub key_lawful : Lawful (kinds.Symbol s.Dot ∷ kinds.Keyword k.Asc ∷ kinds.Keyword k.Desc ∷ []) (kinds.Number ∷ kinds.Name ∷ []) false (nm ∷ []) key key_at
unfolding key key_at
key_lawful = seq key_by_lawful (λ b. seq direction_lawful (λ d. gives_lawful (record { by = b.0; byte = b.1; down = d })) refl) refl

pub limit_lawful : Lawful (kinds.Keyword k.Limit ∷ []) (kinds.Keyword k.Limit ∷ []) true [] limit_part limit_part_at
unfolding limit_part limit_part_at
limit_lawful = optional_lawful (seq_ (keyword_lawful k.Limit) (seq number_lawful (λ n. gives_lawful n.value) refl) refl)

abbrev pub order_bars : List Kind
order_bars = kinds.Keyword k.Order ∷ kinds.Symbol s.Comma ∷ kinds.Symbol s.Dot ∷ kinds.Keyword k.Asc ∷ kinds.Keyword k.Desc ∷ kinds.Keyword k.Limit ∷ []

pub order_lawful : Lawful order_bars (kinds.Keyword k.Order ∷ []) true [] order_part order_part_at
unfolding order_part order_part_at
order_lawful =
    either
    (seq_ (keyword_lawful k.Order)
    (seq_ (keyword_lawful k.By)
    (seq (list_of_up_to_lawful comma key_lawful refl most_behind) (λ keys.
    seq limit_lawful (λ limit. gives_lawful (keys, limit)) refl) refl) refl) refl)
    (gives_lawful ([], None)) refl

-- ---- SELECT, and all statements

abbrev pub select_bars : List Kind
select_bars = kinds.Symbol s.Comma ∷ kinds.Keyword k.As ∷ kinds.Name ∷ joined where_bars (joined group_bars order_bars)

pub select_lawful : Lawful select_bars (kinds.Keyword k.Select ∷ []) false (kw k.Select ∷ nm ∷ kw k.From ∷ nm ∷ []) select select_at
unfolding select select_at
select_lawful =
    seq_ (keyword_lawful k.Select)
    (seq items_lawful (λ xs.
    seq_ (keyword_lawful k.From)
    (seq (places_lawful (list_any is_aggregate xs)) (λ ps.
    seq where_lawful (λ x.
    seq (groups_lawful ps) (λ gs.
    seq order_lawful (λ order.
    gives_lawful (ast.Select (record { items = xs; places = ps; cond = x; groups = gs; order = order.0; limit = order.1 }))) refl) refl) refl) refl) refl) refl) refl

abbrev pub statement_heads : List Kind
statement_heads =
    kinds.Keyword k.Create ∷ kinds.Keyword k.Import ∷ kinds.Keyword k.Purge ∷ kinds.Keyword k.Merge ∷ kinds.Keyword k.Session ∷ kinds.Keyword k.Barrier
    ∷ kinds.Keyword k.Select ∷ []

pub statement_lawful : Lawful select_bars statement_heads false (kw k.Select ∷ nm ∷ kw k.From ∷ nm ∷ []) statement statement_at
unfolding statement statement_at
statement_lawful =
    either create_lawful
    (either import_lawful
    (either purge_lawful
    (either merge_lawful
    (either session_lawful
    (either barrier_lawful
    select_lawful refl) refl) refl) refl) refl) refl
