-- A first script with its history and its replies, told rightly and wrongly, and a read of its one page as it was written.
use Rattle.std.specs.Prelude.{ℕ, false, List, [], ◌∷◌, codes, pos}
use Rattle.hv_row.specs.declared.schema.Column.{Column}
use Rattle.hv_row.specs.declared.value.ColType.TheVariants as kind
use Rattle.hv_row.specs.declared.value.Value.{Value}
use Rattle.hv_row.specs.declared.value.Value.TheVariants.{Int, Text}
use Rattle.hv_row.specs.Row.{row_bytes}
use Rattle.hv_page.specs.Layout.{page_of, written_version}
use Rattle.hv_page.specs.Heap.{heap_kind}
use Rattle.hv_dev.specs.Reading.{Landing}
use Rattle.hv_model.specs.declared.script.Statement.{Statement}
use Rattle.hv_model.specs.declared.script.Script.{Script}
use Rattle.hv_model.specs.declared.catalogue.Detail.TheVariants as detail
use Rattle.hv_model.specs.declared.catalogue.Entry.{Entry}
use Rattle.hv_model.specs.declared.query.Cell.{Cell}
use Rattle.hv_model.specs.declared.query.Cell.TheVariants.{Num, Txt}
use Rattle.hv_model.specs.declared.reply.Reply.{Reply}
use Rattle.hv_model.specs.declared.reply.Reply.TheVariants.{Done, Rows}

abbrev pub create : Statement
create = record { session = codes "main"; number = 1; text = codes "CREATE TABLE t (a INT, b TEXT)"; lines = [] }

abbrev pub import : Statement
import = record { session = codes "main"; number = 2; text = codes "IMPORT INTO t LINES 1"; lines = codes "1,a\n" }

abbrev pub select : Statement
select = record { session = codes "main"; number = 3; text = codes "SELECT * FROM t"; lines = [] }

-- a table is made, a row imported, and the table selected
abbrev pub statements : List Statement
statements = create ∷ import ∷ select ∷ []

abbrev pub script : Script
script = record { sessions = codes "main" ∷ []; phases = statements ∷ [] }

abbrev pub made : Entry
made = record { session = codes "main"; number = 1; what = detail.Create (codes "t") }

abbrev pub imported : Entry
imported = record { session = codes "main"; number = 2; what = detail.Import (codes "t") 1 1 }

abbrev pub history : List Entry
history = made ∷ imported ∷ []

abbrev pub rows : List (List Cell)
rows = (Num (pos 1) ∷ Txt (codes "a") ∷ []) ∷ []

-- the same with another number in the row
abbrev pub other_rows : List (List Cell)
other_rows = (Num (pos 2) ∷ Txt (codes "a") ∷ []) ∷ []

-- the replies of its one session, the last with its number and its rows
abbrev pub main_with : ℕ → List (List Cell) → List Reply
main_with n of_query = Done 1 (detail.Create (codes "t")) ∷ Done 2 (detail.Import (codes "t") 1 1) ∷ Rows n of_query ∷ []

abbrev pub replies_with : ℕ → List (List Cell) → List (List Reply)
replies_with n of_query = main_with n of_query ∷ []

abbrev pub replies_at : ℕ → List (List Reply)
replies_at n = replies_with n rows

-- the table's columns, and the row that is imported
abbrev pub schema : List Column
schema =
    (record { name = codes "a"; kind = kind.Int; index = false; range = false })
    ∷ (record { name = codes "b"; kind = kind.Text; index = false; range = false }) ∷ []

abbrev pub row : List Value
row = Int (pos 1) ∷ Text (codes "a") ∷ []

-- the one page of the chunk, and a read of it that landed: its file is the number 1
abbrev pub page : List ℕ
page = page_of heap_kind written_version 0 (row_bytes schema row ∷ [])

abbrev pub page_read : List (Landing ℕ)
page_read = (record { tag = 0; file = 1; page = 0; bytes = page }) ∷ []
