-- What the statements of the first script say: their lexemes and their trees.
use Rattle.std.proofs.Common.{◌≡◌, ℕ, List, [], ◌∷◌, None, Ok, codes, refl}
use Rattle.hv_model.specs.declared.lexeme.Lexeme.{Lexeme}
use Rattle.hv_model.specs.declared.lexeme.What.{What}
use Rattle.hv_model.specs.declared.lexeme.What.TheVariants as what
use Rattle.hv_model.specs.declared.lexeme.Keyword.TheVariants as k
use Rattle.hv_model.specs.declared.lexeme.Symbol.TheVariants as s
use Rattle.hv_model.specs.declared.tree.Word.{Word}
use Rattle.hv_model.specs.declared.tree.Ast.{Ast}
use Rattle.hv_model.specs.declared.tree.Ast.TheVariants as ast
use Rattle.hv_model.specs.declared.tree.SelectAst.{SelectAst}
use Rattle.hv_model.specs.declared.tree.ItemAst.TheVariants as it
use Rattle.hv_model.specs.declared.tree.CondAst.TheVariants as cond_ast
use Rattle.hv_model.specs.Lexemes.{is_symbol, is_run, is_lexeme, token_length, sort_of}
use Rattle.hv_model.specs.Lexed.{lexemes}
use Rattle.hv_model.specs.SqlReading.{column_type_at, column_at, create_at, import_at, star_at, items_at, alias_at, place_at, places_at, where_part_at, group_part_at, groups_of_at, order_part_at, select_at, statement_at, tree_at}
use Rattle.hv_model.specs.Parsed.{parsed}
use Rattle.oodb.specs.FirstScript as first

-- a lexeme at a byte
abbrev lexeme : What → ℕ → Lexeme
lexeme what byte = record { what = what; byte = byte }

-- the table's name at a byte
abbrev table : ℕ → Word
table byte = record { name = codes "t"; byte = byte }

-- CREATE TABLE t (a INT, b TEXT)
abbrev create_lexemes : List Lexeme
create_lexemes =
    lexeme (what.Keyword k.Create) 0 ∷ lexeme (what.Keyword k.Table) 7 ∷ lexeme (what.Name (codes "t")) 13 ∷ lexeme (what.Symbol s.Open) 15
    ∷ lexeme (what.Name (codes "a")) 16 ∷ lexeme (what.Keyword k.Int) 18 ∷ lexeme (what.Symbol s.Comma) 21
    ∷ lexeme (what.Name (codes "b")) 23 ∷ lexeme (what.Keyword k.Text) 25 ∷ lexeme (what.Symbol s.Close) 29 ∷ []

create_lexed : lexemes first.create.text ≡ create_lexemes
unfolding token_length is_lexeme is_run is_symbol sort_of
create_lexed = refl

abbrev pub create_tree : Ast
create_tree = ast.Create (table 13) first.schema

create_read : tree_at create_lexemes ≡ Ok create_tree
unfolding statement_at create_at column_at column_type_at
create_read = refl

pub create_parsed : parsed first.create.text ≡ Ok create_tree
create_parsed = rw create_lexed (rw create_read refl)

-- IMPORT INTO t LINES 1
abbrev import_lexemes : List Lexeme
import_lexemes =
    lexeme (what.Keyword k.Import) 0 ∷ lexeme (what.Keyword k.Into) 7 ∷ lexeme (what.Name (codes "t")) 12 ∷ lexeme (what.Keyword k.Lines) 14
    ∷ lexeme (what.Number 1) 20 ∷ []

import_lexed : lexemes first.import.text ≡ import_lexemes
unfolding token_length is_lexeme is_run is_symbol sort_of
import_lexed = refl

abbrev pub import_tree : Ast
import_tree = ast.Import (table 12) 1

import_read : tree_at import_lexemes ≡ Ok import_tree
unfolding statement_at import_at
import_read = refl

pub import_parsed : parsed first.import.text ≡ Ok import_tree
import_parsed = rw import_lexed (rw import_read refl)

-- SELECT * FROM t
abbrev select_lexemes : List Lexeme
select_lexemes =
    lexeme (what.Keyword k.Select) 0 ∷ lexeme (what.Symbol s.Star) 7 ∷ lexeme (what.Keyword k.From) 9 ∷ lexeme (what.Name (codes "t")) 14 ∷ []

select_lexed : lexemes first.select.text ≡ select_lexemes
unfolding token_length is_lexeme is_run is_symbol sort_of
select_lexed = refl

abbrev pub selected : SelectAst
selected = record {
  items = it.Star 7 ∷ [];
  places = (record { table = table 14; alias = None }) ∷ [];
  cond = cond_ast.Always;
  groups = [];
  order = [];
  limit = None;
}

select_read : tree_at select_lexemes ≡ Ok (ast.Select selected)
unfolding statement_at select_at items_at star_at places_at place_at alias_at where_part_at groups_of_at group_part_at order_part_at
select_read = refl

pub select_parsed : parsed first.select.text ≡ Ok (ast.Select selected)
select_parsed = rw select_lexed (rw select_read refl)
