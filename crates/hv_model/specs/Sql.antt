-- The grammar of the language. This project's own, after ISO/IEC 9075.
use Rattle.std.specs.Prelude.{ℕ, zero, suc, ◌^◌, Bool, true, false, List, [], ◌∷◌, Option, Some, None, pos, neg_ℤ}
use Rattle.std.specs.List.{list_any}
use Rattle.hv_row.specs.declared.value.Value.TheVariants.{Int, Text}
use Rattle.hv_row.specs.declared.value.ColType.{ColType}
use Rattle.hv_row.specs.declared.value.ColType.TheVariants as type
use Rattle.hv_row.specs.declared.schema.Column.{Column}
use Rattle.hv_model.specs.declared.lexeme.Keyword.{Keyword}
use Rattle.hv_model.specs.declared.lexeme.Keyword.TheVariants as k
use Rattle.hv_model.specs.declared.lexeme.Symbol.{Symbol}
use Rattle.hv_model.specs.declared.lexeme.Symbol.TheVariants as s
use Rattle.hv_model.specs.declared.tree.Word.{Word}
use Rattle.hv_model.specs.declared.tree.Numeral.{Numeral}
use Rattle.hv_model.specs.declared.tree.Ast.{Ast}
use Rattle.hv_model.specs.declared.tree.Ast.TheVariants as ast
use Rattle.hv_model.specs.declared.tree.RefAst.{RefAst}
use Rattle.hv_model.specs.declared.tree.ItemAst.{ItemAst}
use Rattle.hv_model.specs.declared.tree.ItemAst.TheVariants as it
use Rattle.hv_model.specs.declared.tree.PlaceAst.{PlaceAst}
use Rattle.hv_model.specs.declared.tree.KeyBy.{KeyBy}
use Rattle.hv_model.specs.declared.tree.KeyBy.TheVariants as by
use Rattle.hv_model.specs.declared.tree.KeyAst.{KeyAst}
use Rattle.hv_model.specs.declared.tree.Cmp.{Cmp}
use Rattle.hv_model.specs.declared.tree.OperandAst.{OperandAst}
use Rattle.hv_model.specs.declared.tree.OperandAst.TheVariants as operand_ast
use Rattle.hv_model.specs.declared.tree.CondAst.{CondAst}
use Rattle.hv_model.specs.declared.tree.CondAst.TheVariants as c
use Rattle.hv_model.specs.Terminals.{is_keyword, is_symbol, is_word, is_number, is_text, is_comparison}
use Rattle.hv_model.specs.Grammar.{Grammar, ◌>>=◌, ◌>>◌, gives, one, ◌or◌, optional, given, list_of, list_of_up_to}

-- ---- terminals

-- a keyword, and its byte
abbrev pub keyword : Keyword → Grammar ℕ
keyword k = one (is_keyword k)

-- a symbol, and its byte
abbrev pub symbol : Symbol → Grammar ℕ
symbol s = one (is_symbol s)

-- a name, as a word
abbrev pub name : Grammar Word
name = one is_word

-- a number of at most this value, and its byte
abbrev pub number_up_to : ℕ → Grammar Numeral
number_up_to most = one (is_number most)

-- the greatest number of 64 bits with a sign
abbrev pub most_number : ℕ
most_number = 9223372036854775807

-- a number, and its byte
abbrev pub number : Grammar Numeral
number = number_up_to most_number

-- a text's bytes
abbrev pub text : Grammar (List ℕ)
text = one is_text

-- = | <> | != | < | <= | > | >=, and the byte
abbrev pub cmp : Grammar (Cmp × ℕ)
cmp = one is_comparison

-- ---- CREATE, IMPORT, PURGE, MERGE, SESSION, BARRIER

-- INT | TEXT
unfoldable pub column_type : Grammar ColType
column_type = (do keyword k.Int; gives type.Int) or (do keyword k.Text; gives type.Text)

-- name ( INT | TEXT ) [ INDEX ] [ RANGE ]
unfoldable pub column : Grammar Column
column = do
  w ← name
  t ← column_type
  i ← given (keyword k.Index)
  r ← given (keyword k.Range)
  gives (record { name = w.name; kind = t; index = i; range = r })

-- CREATE TABLE name ( column { , column } )
unfoldable pub create : Grammar Ast
create = do
  keyword k.Create
  keyword k.Table
  table ← name
  symbol s.Open
  columns ← list_of (symbol s.Comma) column
  symbol s.Close
  gives (ast.Create table columns)

-- IMPORT INTO name LINES number
unfoldable pub import : Grammar Ast
import = do
  keyword k.Import
  keyword k.Into
  table ← name
  keyword k.Lines
  lines ← number
  gives (ast.Import table lines.value)

-- PURGE CHUNK number OF name
unfoldable pub purge : Grammar Ast
purge = do
  keyword k.Purge
  keyword k.Chunk
  chunk ← number
  keyword k.Of
  table ← name
  gives (ast.Purge chunk.value table)

-- a number's value
unfoldable pub part : Grammar ℕ
part = do
  n ← number
  gives n.value

-- MERGE CHUNKS number , number { , number } OF name
unfoldable pub merge : Grammar Ast
merge = do
  keyword k.Merge
  keyword k.Chunks
  first ← part
  symbol s.Comma
  others ← list_of (symbol s.Comma) part
  keyword k.Of
  table ← name
  gives (ast.Merge (first ∷ others) table)

-- SESSION name
unfoldable pub session : Grammar Ast
session = do
  keyword k.Session
  w ← name
  gives (ast.Session w)

-- BARRIER
unfoldable pub barrier : Grammar Ast
barrier = do
  keyword k.Barrier
  gives ast.Barrier

-- ---- SELECT

-- what may stand behind the first name of a reference: [ . name ]
unfoldable pub ref_behind : Word → Grammar RefAst
ref_behind w =
    (do symbol s.Dot; column ← name; gives (record { alias = Some w.name; column = column.name; byte = w.byte }))
    or gives (record { alias = None; column = w.name; byte = w.byte })

-- name [ . name ]
unfoldable pub ref : Grammar RefAst
ref = do
  w ← name
  ref_behind w

-- * or a reference, within COUNT ( )
unfoldable pub counted : Grammar ItemAst
counted = (do symbol s.Star; gives it.Count) or (do r ← ref; gives (it.CountOf r))

-- COUNT ( * ) | COUNT ( ref )
unfoldable pub count : Grammar ItemAst
count = do
  keyword k.Count
  symbol s.Open
  x ← counted
  symbol s.Close
  gives x

-- this keyword, and a reference in parentheses
unfoldable pub ref_in : Keyword → Grammar RefAst
ref_in word = do
  keyword word
  symbol s.Open
  r ← ref
  symbol s.Close
  gives r

-- ref | COUNT ( * ) | ( COUNT | SUM | MIN | MAX ) ( ref )
unfoldable pub item : Grammar ItemAst
item =
    count
    or (do r ← ref_in k.Sum; gives (it.Sum r))
    or (do r ← ref_in k.Min; gives (it.Least r))
    or (do r ← ref_in k.Max; gives (it.Greatest r))
    or (do r ← ref; gives (it.Col r))

-- *, as the one item
unfoldable pub star : Grammar (List ItemAst)
star = do
  byte ← symbol s.Star
  gives (it.Star byte ∷ [])

-- how many items, group columns or keys may stand behind the first
abbrev pub most_behind : ℕ
most_behind = 127

-- * | item { , item }, of at most 128 items
unfoldable pub items : Grammar (List ItemAst)
items = star or list_of_up_to most_behind (symbol s.Comma) item

-- whether an item is an aggregate
abbrev pub is_aggregate : ItemAst → Bool
is_aggregate (it.Star _) = false
is_aggregate (it.Col _) = false
is_aggregate _ = true

-- [ [ AS ] name ]
unfoldable pub alias : Grammar (Option Word)
alias = (do keyword k.As; w ← name; gives (Some w)) or optional name

-- name [ [ AS ] name ]
unfoldable pub place : Grammar PlaceAst
place = do
  table ← name
  a ← alias
  gives (record { table = table; alias = a })

-- place { , place }; with an aggregate among the items, one place
unfoldable pub places : Bool → Grammar (List PlaceAst)
places true = do
  p ← place
  gives (p ∷ [])
places false = list_of (symbol s.Comma) place

-- [ - ] number within the range of 64-bit numbers
unfoldable pub negative : Grammar OperandAst
negative = do
  symbol s.Minus
  n ← number_up_to (2 ^ 63)
  gives (operand_ast.Lit (Int (neg_ℤ (pos n.value))))

-- ref | [ - ] number | text
unfoldable pub operand : Grammar OperandAst
operand =
    (do r ← ref; gives (operand_ast.Col r))
    or (do n ← number; gives (operand_ast.Lit (Int (pos n.value))))
    or negative
    or (do t ← text; gives (operand_ast.Lit (Text t)))

-- operand cmp operand
unfoldable pub test : Grammar CondAst
test = do
  left ← operand
  how ← cmp
  right ← operand
  gives (c.Test left how.0 right how.1)

-- a list of one is that member
abbrev pub list_or_one : (List CondAst → CondAst) → List CondAst → CondAst
list_or_one of (x ∷ []) = x
list_or_one of xs = of xs

-- term { AND term }, over these terms
unfoldable pub conj : Grammar CondAst → Grammar CondAst
conj term = do
  xs ← list_of (keyword k.And) term
  gives (list_or_one c.All xs)

-- conj { OR conj }
unfoldable pub cond : Grammar CondAst → Grammar CondAst
cond term = do
  xs ← list_of (keyword k.Or) (conj term)
  gives (list_or_one c.Any xs)

-- NOT term
unfoldable pub negated : Grammar CondAst → Grammar CondAst
negated term = do
  keyword k.Not
  x ← term
  gives (c.Not x)

-- ( cond )
unfoldable pub nested : Grammar CondAst → Grammar CondAst
nested term = do
  symbol s.Open
  x ← cond term
  symbol s.Close
  gives x

-- NOT term | ( cond ) | operand cmp operand, with at most this many NOT and open parentheses around each test
unfoldable pub term : ℕ → Grammar CondAst
term zero = test
term (suc depth) = negated (term depth) or nested (term depth) or test

-- [ WHERE cond ], with NOT and parentheses nested at most 64 deep
unfoldable pub where_part : Grammar CondAst
where_part = (do keyword k.Where; x ← cond (term 64); gives x) or gives c.Always

-- [ GROUP BY ref { , ref } ], of at most 128
unfoldable pub group_part : Grammar (List RefAst)
group_part = (do keyword k.Group; keyword k.By; xs ← list_of_up_to most_behind (symbol s.Comma) ref; gives xs) or gives []

-- GROUP BY may stand behind one place alone
unfoldable pub groups_of : List PlaceAst → Grammar (List RefAst)
groups_of (p ∷ []) = group_part
groups_of _ = gives []

-- the byte of a reference is its key's
unfoldable pub key_by : Grammar (KeyBy × ℕ)
key_by = (do n ← number; gives (by.Number n.value, n.byte)) or (do r ← ref; gives (by.Col r, r.byte))

-- [ ASC | DESC ], whether it is DESC
unfoldable pub direction : Grammar Bool
direction = (do keyword k.Asc; gives false) or given (keyword k.Desc)

-- ( number | ref ) [ ASC | DESC ]
unfoldable pub key : Grammar KeyAst
key = do
  b ← key_by
  d ← direction
  gives (record { by = b.0; byte = b.1; down = d })

-- [ LIMIT number ]
unfoldable pub limit_part : Grammar (Option ℕ)
limit_part = optional (do keyword k.Limit; n ← number; gives n.value)

-- [ ORDER BY key { , key } [ LIMIT number ] ], of at most 128 keys
unfoldable pub order_part : Grammar (List KeyAst × Option ℕ)
order_part =
    (do keyword k.Order; keyword k.By; keys ← list_of_up_to most_behind (symbol s.Comma) key; limit ← limit_part; gives (keys, limit))
    or gives ([], None)

-- SELECT ( * | item { , item } ) FROM place { , place } [ WHERE cond ] [ GROUP BY ref { , ref } ] [ ORDER BY key { , key } [ LIMIT number ] ]
unfoldable pub select : Grammar Ast
select = do
  keyword k.Select
  xs ← items
  keyword k.From
  ps ← places (list_any is_aggregate xs)
  x ← where_part
  gs ← groups_of ps
  order ← order_part
  gives (ast.Select (record { items = xs; places = ps; cond = x; groups = gs; order = order.0; limit = order.1 }))

-- create | import | purge | merge | session | barrier | select
unfoldable pub statement : Grammar Ast
statement = create or import or purge or merge or session or barrier or select
