-- The reader of each rule of the grammar: which tree it gives, and where it fails.
-- Each rule of `Sql` stands here a second time, on purpose: there it says which lexemes are which tree and names no way to find it, here how the
-- next lexeme decides. That both agree is a law of `hv_sql` (`grammar_laws`), so nobody has to trust this file.
use Rattle.std.specs.Prelude.{ℕ, zero, suc, ◌^◌, Bool, true, false, List, [], ◌∷◌, Option, Some, None, Result, pos, neg_ℤ}
use Rattle.std.specs.List.{list_any}
use Rattle.hv_row.specs.declared.value.Value.TheVariants.{Int, Text}
use Rattle.hv_row.specs.declared.value.ColType.{ColType}
use Rattle.hv_row.specs.declared.value.ColType.TheVariants as type
use Rattle.hv_row.specs.declared.schema.Column.{Column}
use Rattle.hv_model.specs.declared.lexeme.Lexeme.{Lexeme}
use Rattle.hv_model.specs.declared.lexeme.Keyword.{Keyword}
use Rattle.hv_model.specs.declared.lexeme.Keyword.TheVariants as k
use Rattle.hv_model.specs.declared.lexeme.Symbol.{Symbol}
use Rattle.hv_model.specs.declared.lexeme.Symbol.TheVariants as s
use Rattle.hv_model.specs.declared.lexeme.Kind.TheVariants as kinds
use Rattle.hv_model.specs.declared.tree.Word.{Word}
use Rattle.hv_model.specs.declared.tree.Numeral.{Numeral}
use Rattle.hv_model.specs.declared.tree.Ast.{Ast}
use Rattle.hv_model.specs.declared.tree.Ast.TheVariants as ast
use Rattle.hv_model.specs.declared.tree.RefAst.{RefAst}
use Rattle.hv_model.specs.declared.tree.ItemAst.{ItemAst}
use Rattle.hv_model.specs.declared.tree.ItemAst.TheVariants as it
use Rattle.hv_model.specs.declared.tree.PlaceAst.{PlaceAst}
use Rattle.hv_model.specs.declared.tree.KeyBy.{KeyBy}
use Rattle.hv_model.specs.declared.tree.KeyBy.TheVariants as by
use Rattle.hv_model.specs.declared.tree.KeyAst.{KeyAst}
use Rattle.hv_model.specs.declared.tree.Cmp.{Cmp}
use Rattle.hv_model.specs.declared.tree.OperandAst.{OperandAst}
use Rattle.hv_model.specs.declared.tree.OperandAst.TheVariants as operand_ast
use Rattle.hv_model.specs.declared.tree.CondAst.{CondAst}
use Rattle.hv_model.specs.declared.tree.CondAst.TheVariants as c
use Rattle.hv_model.specs.Terminals.{is_keyword, is_symbol, is_word, is_number, is_text, is_comparison}
use Rattle.hv_model.specs.Sql.{most_number, most_behind, is_aggregate, list_or_one}
use Rattle.hv_model.specs.Reading.{Reader, to_end, ◌>>=◌, ◌>>◌, gives_at, one_at, choose, optional_at, given_at, list_of_at, list_of_up_to_at}

-- ---- terminals

-- a keyword
abbrev pub keyword_at : Keyword → Reader ℕ
keyword_at k = one_at (is_keyword k)

-- a symbol
abbrev pub symbol_at : Symbol → Reader ℕ
symbol_at s = one_at (is_symbol s)

-- a name
abbrev pub name_at : Reader Word
name_at = one_at is_word

-- a number of at most this value
abbrev pub number_up_to_at : ℕ → Reader Numeral
number_up_to_at most = one_at (is_number most)

-- a number
abbrev pub number_at : Reader Numeral
number_at = number_up_to_at most_number

-- a text
abbrev pub text_at : Reader (List ℕ)
text_at = one_at is_text

-- a comparison
abbrev pub cmp_at : Reader (Cmp × ℕ)
cmp_at = one_at is_comparison

-- where the next lexeme is this keyword, the first reader, else the second
abbrev pub on_keyword : {A : Type 0} → Keyword → Reader A → Reader A → Reader A
on_keyword k = choose (kinds.Keyword k)

-- the same of a symbol
abbrev pub on_symbol : {A : Type 0} → Symbol → Reader A → Reader A → Reader A
on_symbol s = choose (kinds.Symbol s)

-- ---- rules

-- INT | TEXT
unfoldable pub column_type_at : Reader ColType
column_type_at = on_keyword k.Int (do keyword_at k.Int; gives_at type.Int) (do keyword_at k.Text; gives_at type.Text)

-- name ( INT | TEXT ) [ INDEX ] [ RANGE ]
unfoldable pub column_at : Reader Column
column_at = do
  w ← name_at
  t ← column_type_at
  i ← given_at (kinds.Keyword k.Index) (keyword_at k.Index)
  r ← given_at (kinds.Keyword k.Range) (keyword_at k.Range)
  gives_at (record { name = w.name; kind = t; index = i; range = r })

-- CREATE TABLE name ( column { , column } )
unfoldable pub create_at : Reader Ast
create_at = do
  keyword_at k.Create
  keyword_at k.Table
  table ← name_at
  symbol_at s.Open
  columns ← list_of_at (kinds.Symbol s.Comma) (symbol_at s.Comma) column_at
  symbol_at s.Close
  gives_at (ast.Create table columns)

-- IMPORT INTO name LINES number
unfoldable pub import_at : Reader Ast
import_at = do
  keyword_at k.Import
  keyword_at k.Into
  table ← name_at
  keyword_at k.Lines
  lines ← number_at
  gives_at (ast.Import table lines.value)

-- PURGE CHUNK number OF name
unfoldable pub purge_at : Reader Ast
purge_at = do
  keyword_at k.Purge
  keyword_at k.Chunk
  chunk ← number_at
  keyword_at k.Of
  table ← name_at
  gives_at (ast.Purge chunk.value table)

-- a number's value
unfoldable pub part_at : Reader ℕ
part_at = do
  n ← number_at
  gives_at n.value

-- MERGE CHUNKS number , number { , number } OF name
unfoldable pub merge_at : Reader Ast
merge_at = do
  keyword_at k.Merge
  keyword_at k.Chunks
  first ← part_at
  symbol_at s.Comma
  others ← list_of_at (kinds.Symbol s.Comma) (symbol_at s.Comma) part_at
  keyword_at k.Of
  table ← name_at
  gives_at (ast.Merge (first ∷ others) table)

-- SESSION name
unfoldable pub session_at : Reader Ast
session_at = do
  keyword_at k.Session
  w ← name_at
  gives_at (ast.Session w)

-- BARRIER
unfoldable pub barrier_at : Reader Ast
barrier_at = do
  keyword_at k.Barrier
  gives_at ast.Barrier

-- ---- SELECT

-- what may stand behind the first name of a reference: [ . name ]
unfoldable pub ref_behind_at : Word → Reader RefAst
ref_behind_at w =
    on_symbol s.Dot
    (do symbol_at s.Dot; column ← name_at; gives_at (record { alias = Some w.name; column = column.name; byte = w.byte }))
    (gives_at (record { alias = None; column = w.name; byte = w.byte }))

-- name [ . name ]
unfoldable pub ref_at : Reader RefAst
ref_at = do
  w ← name_at
  ref_behind_at w

-- * or a reference, within COUNT ( )
unfoldable pub counted_at : Reader ItemAst
counted_at = on_symbol s.Star (do symbol_at s.Star; gives_at it.Count) (do r ← ref_at; gives_at (it.CountOf r))

-- COUNT ( * ) | COUNT ( ref )
unfoldable pub count_at : Reader ItemAst
count_at = do
  keyword_at k.Count
  symbol_at s.Open
  x ← counted_at
  symbol_at s.Close
  gives_at x

-- this keyword, and a reference in parentheses
unfoldable pub ref_in_at : Keyword → Reader RefAst
ref_in_at word = do
  keyword_at word
  symbol_at s.Open
  r ← ref_at
  symbol_at s.Close
  gives_at r

-- ref | COUNT ( * ) | ( COUNT | SUM | MIN | MAX ) ( ref )
unfoldable pub item_at : Reader ItemAst
item_at =
    on_keyword k.Count count_at
    (on_keyword k.Sum (do r ← ref_in_at k.Sum; gives_at (it.Sum r))
    (on_keyword k.Min (do r ← ref_in_at k.Min; gives_at (it.Least r))
    (on_keyword k.Max (do r ← ref_in_at k.Max; gives_at (it.Greatest r))
    (do r ← ref_at; gives_at (it.Col r)))))

-- *, as the one item
unfoldable pub star_at : Reader (List ItemAst)
star_at = do
  byte ← symbol_at s.Star
  gives_at (it.Star byte ∷ [])

-- * | item { , item }, of at most 128 items
unfoldable pub items_at : Reader (List ItemAst)
items_at = on_symbol s.Star star_at (list_of_up_to_at most_behind (kinds.Symbol s.Comma) (symbol_at s.Comma) item_at)

-- [ [ AS ] name ]
unfoldable pub alias_at : Reader (Option Word)
alias_at = on_keyword k.As (do keyword_at k.As; w ← name_at; gives_at (Some w)) (optional_at kinds.Name name_at)

-- name [ [ AS ] name ]
unfoldable pub place_at : Reader PlaceAst
place_at = do
  table ← name_at
  a ← alias_at
  gives_at (record { table = table; alias = a })

-- place { , place }; with an aggregate among the items, one place
unfoldable pub places_at : Bool → Reader (List PlaceAst)
places_at true = do
  p ← place_at
  gives_at (p ∷ [])
places_at false = list_of_at (kinds.Symbol s.Comma) (symbol_at s.Comma) place_at

-- [ - ] number within the range of 64-bit numbers
unfoldable pub negative_at : Reader OperandAst
negative_at = do
  symbol_at s.Minus
  n ← number_up_to_at (2 ^ 63)
  gives_at (operand_ast.Lit (Int (neg_ℤ (pos n.value))))

-- ref | [ - ] number | text
unfoldable pub operand_at : Reader OperandAst
operand_at =
    choose kinds.Name (do r ← ref_at; gives_at (operand_ast.Col r))
    (choose kinds.Number (do n ← number_at; gives_at (operand_ast.Lit (Int (pos n.value))))
    (on_symbol s.Minus negative_at
    (do t ← text_at; gives_at (operand_ast.Lit (Text t)))))

-- operand cmp operand
unfoldable pub test_at : Reader CondAst
test_at = do
  left ← operand_at
  how ← cmp_at
  right ← operand_at
  gives_at (c.Test left how.0 right how.1)

-- term { AND term }, over these terms
unfoldable pub conj_at : Reader CondAst → Reader CondAst
conj_at term = do
  xs ← list_of_at (kinds.Keyword k.And) (keyword_at k.And) term
  gives_at (list_or_one c.All xs)

-- conj { OR conj }
unfoldable pub cond_at : Reader CondAst → Reader CondAst
cond_at term = do
  xs ← list_of_at (kinds.Keyword k.Or) (keyword_at k.Or) (conj_at term)
  gives_at (list_or_one c.Any xs)

-- NOT term
unfoldable pub negated_at : Reader CondAst → Reader CondAst
negated_at term = do
  keyword_at k.Not
  x ← term
  gives_at (c.Not x)

-- ( cond )
unfoldable pub nested_at : Reader CondAst → Reader CondAst
nested_at term = do
  symbol_at s.Open
  x ← cond_at term
  symbol_at s.Close
  gives_at x

-- NOT term | ( cond ) | operand cmp operand, over these terms
unfoldable pub deeper_at : Reader CondAst → Reader CondAst
deeper_at term = on_keyword k.Not (negated_at term) (on_symbol s.Open (nested_at term) test_at)

-- with at most this many NOT and open parentheses around each test
unfoldable pub term_at : ℕ → Reader CondAst
term_at zero = test_at
term_at (suc depth) = deeper_at (term_at depth)

-- [ WHERE cond ], with NOT and parentheses nested at most 64 deep
unfoldable pub where_part_at : Reader CondAst
where_part_at = on_keyword k.Where (do keyword_at k.Where; x ← cond_at (term_at 64); gives_at x) (gives_at c.Always)

-- [ GROUP BY ref { , ref } ], of at most 128
unfoldable pub group_part_at : Reader (List RefAst)
group_part_at = on_keyword k.Group (do keyword_at k.Group; keyword_at k.By; xs ← list_of_up_to_at most_behind (kinds.Symbol s.Comma) (symbol_at s.Comma) ref_at; gives_at xs) (gives_at [])

-- GROUP BY may stand behind one place alone
unfoldable pub groups_of_at : List PlaceAst → Reader (List RefAst)
groups_of_at (p ∷ []) = group_part_at
groups_of_at _ = gives_at []

-- the byte of a reference is its key's
unfoldable pub key_by_at : Reader (KeyBy × ℕ)
key_by_at = choose kinds.Number (do n ← number_at; gives_at (by.Number n.value, n.byte)) (do r ← ref_at; gives_at (by.Col r, r.byte))

-- [ ASC | DESC ], whether it is DESC
unfoldable pub direction_at : Reader Bool
direction_at = on_keyword k.Asc (do keyword_at k.Asc; gives_at false) (given_at (kinds.Keyword k.Desc) (keyword_at k.Desc))

-- ( number | ref ) [ ASC | DESC ]
unfoldable pub key_at : Reader KeyAst
key_at = do
  b ← key_by_at
  d ← direction_at
  gives_at (record { by = b.0; byte = b.1; down = d })

-- [ LIMIT number ]
unfoldable pub limit_part_at : Reader (Option ℕ)
limit_part_at = optional_at (kinds.Keyword k.Limit) (do keyword_at k.Limit; n ← number_at; gives_at n.value)

-- [ ORDER BY key { , key } [ LIMIT number ] ], of at most 128 keys
unfoldable pub order_part_at : Reader (List KeyAst × Option ℕ)
order_part_at =
    on_keyword k.Order
    (do keyword_at k.Order; keyword_at k.By; keys ← list_of_up_to_at most_behind (kinds.Symbol s.Comma) (symbol_at s.Comma) key_at; limit ← limit_part_at; gives_at (keys, limit))
    (gives_at ([], None))

-- SELECT ( * | item { , item } ) FROM place { , place } [ WHERE cond ] [ GROUP BY ref { , ref } ] [ ORDER BY key { , key } [ LIMIT number ] ]
unfoldable pub select_at : Reader Ast
select_at = do
  keyword_at k.Select
  xs ← items_at
  keyword_at k.From
  ps ← places_at (list_any is_aggregate xs)
  x ← where_part_at
  gs ← groups_of_at ps
  order ← order_part_at
  gives_at (ast.Select (record { items = xs; places = ps; cond = x; groups = gs; order = order.0; limit = order.1 }))

-- create | import | purge | merge | session | barrier | select
unfoldable pub statement_at : Reader Ast
statement_at =
    on_keyword k.Create create_at
    (on_keyword k.Import import_at
    (on_keyword k.Purge purge_at
    (on_keyword k.Merge merge_at
    (on_keyword k.Session session_at
    (on_keyword k.Barrier barrier_at
    select_at)))))

-- the tree of lexemes, or the lexemes from the one at fault on
abbrev pub tree_at : List Lexeme → Result Ast (List Lexeme)
tree_at lexemes = to_end (statement_at lexemes)
