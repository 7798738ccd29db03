-- Rows that an import may have, and why its data, or one of its records, spells none. This project's own.
use Rattle.std.specs.Prelude.{◌≡◌, ◌≤◌, List, length, Result, Err}
use Rattle.std.specs.List.{All}
use Rattle.hv_row.specs.declared.value.Value.{Value}
use Rattle.hv_row.specs.declared.schema.Column.{Column}
use Rattle.hv_row.specs.Row.{row_bytes}
use Rattle.hv_model.specs.declared.reply.Refusal.{Refusal}
use Rattle.hv_model.specs.declared.reply.Refusal.TheVariants as refusal
use Rattle.hv_import.specs.declared.rows.RowsFault.{RowsFault}
use Rattle.hv_import.specs.declared.rows.RowsFault.TheVariants as fault

-- each row takes at most 2,000 bytes
abbrev pub AreShort : List Column → List (List Value) → Type 0
AreShort schema rows = All (λ row. length (row_bytes schema row) ≤ 2000) rows

-- a fault is the refusal for the first record that is no row; want of memory stands for itself
abbrev pub IsRowsFault : {T : Type 0} → Result T Refusal → RowsFault → Type 0
IsRowsFault rows (fault.BadRow row column) = rows ≡ Err (refusal.BadRow row column)
IsRowsFault rows (fault.LongRow row) = rows ≡ Err (refusal.LongRow row)
IsRowsFault rows fault.Memory = Unit {0}
