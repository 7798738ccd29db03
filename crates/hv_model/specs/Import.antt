-- The rows that the data of an import spells. Comma-separated data is read as the library csv reads it (RFC 4180, and what it reads beyond);
-- which records are rows is this project's own.
use Rattle.std.specs.Prelude.{ℕ, ◌+◌, Bool, ◌&&◌, ◌==◌, nat_le, nat_lt, List, [], ◌∷◌, length, Option, Some, None, Result, Ok, Err, ◌^◌, if◌then◌else◌}
use Rattle.std.specs.Str.{is_utf8}
use Rattle.std.specs.Str.Parse.{digits_value, without_leading_sign, signed_digits_value, starts_with_minus}
use Rattle.csv.specs.Reading.{records, default_config, strip_bom}
use Rattle.hv_row.specs.declared.value.Value.{Value}
use Rattle.hv_row.specs.declared.value.Value.TheVariants.{Int, Text}
use Rattle.hv_row.specs.declared.value.ColType.{ColType}
use Rattle.hv_row.specs.declared.value.ColType.TheVariants as kind
use Rattle.hv_row.specs.declared.schema.Column.{Column}
use Rattle.hv_row.specs.Row.{row_bytes}
use Rattle.hv_model.specs.declared.reply.Refusal.{Refusal}
use Rattle.hv_model.specs.declared.reply.Refusal.TheVariants.{BadRow, LongRow}
use Rattle.hv_model.specs.Token.{is_number}

-- the most records of an import, and the most bytes that a row takes
abbrev pub most_records : ℕ
most_records = 1000000

abbrev pub most_row_bytes : ℕ
most_row_bytes = 2000

-- the records of comma-separated data, each as its fields: no header, as many fields as there are, nothing trimmed; a byte order mark at the
-- start is no part of them
abbrev pub records_of : List ℕ → List (List (List ℕ))
records_of bytes = records default_config (strip_bom bytes)

-- whether the amount of a number with this sign lies in the range of 64-bit numbers
abbrev pub amount_fits : Bool → ℕ → Bool
amount_fits minus amount = if minus then nat_le amount (2 ^ 63) else nat_lt amount (2 ^ 63)

-- whether a field is a number: an optional sign and digits, with a value in the range of 64-bit numbers
abbrev pub is_integer : List ℕ → Bool
is_integer field = is_number (without_leading_sign field) && amount_fits (starts_with_minus field) (digits_value 10 (without_leading_sign field))

-- whether a field is a text: UTF-8 of at most 255 bytes
abbrev pub is_text : List ℕ → Bool
is_text field = nat_le (length field) 255 && is_utf8 field

-- the value of a field under a column's type
abbrev pub field_value : ColType → List ℕ → Option Value
field_value kind.Int field = if is_integer field then Some (Int (signed_digits_value 10 field)) else None
field_value kind.Text field = if is_text field then Some (Text field) else None

-- a value before the others; else the first column that has none
abbrev pub value_before : ℕ → Option Value → Result (List Value) ℕ → Result (List Value) ℕ
value_before column None values = Err column
value_before column (Some value) (Ok values) = Ok (value ∷ values)
value_before column (Some value) (Err later) = Err later

-- the values that fields spell under as many columns, or the number, counted on from `column`, of the first whose field is no value of it
abbrev pub values_from : ℕ → List Column → List (List ℕ) → Result (List Value) ℕ
values_from column [] fields = Ok []
values_from column (c ∷ cs) [] = Err column
values_from column (c ∷ cs) (field ∷ fields) = value_before column (field_value c.kind field) (values_from (column + 1) cs fields)

-- the row of the record of this number, if its bytes are few enough
abbrev pub short_row : List Column → ℕ → Result (List Value) ℕ → Result (List Value) Refusal
short_row schema number (Err column) = Err (BadRow number column)
short_row schema number (Ok row) = if nat_le (length (row_bytes schema row)) most_row_bytes then Ok row else Err (LongRow number)

-- whether the record of this number may be a row: there are not too many records, and it has as many fields as the schema has columns
abbrev pub has_place : List Column → ℕ → List (List ℕ) → Bool
has_place schema number fields = nat_le number most_records && (length fields == length schema)

-- the row that the record of this number spells, or why it is none
abbrev pub row_of : List Column → ℕ → List (List ℕ) → Result (List Value) Refusal
row_of schema number fields = if has_place schema number fields then short_row schema number (values_from 1 schema fields) else Err (BadRow number 0)

-- a row before those of the other records; else the first record that is none
abbrev pub row_before : Result (List Value) Refusal → Result (List (List Value)) Refusal → Result (List (List Value)) Refusal
row_before (Err cause) rows = Err cause
row_before (Ok row) (Ok rows) = Ok (row ∷ rows)
row_before (Ok row) (Err cause) = Err cause

-- the rows that records spell, numbered on from k, or why the first that is none is none
abbrev pub rows_from : ℕ → List Column → List (List (List ℕ)) → Result (List (List Value)) Refusal
rows_from k schema [] = Ok []
rows_from k schema (fields ∷ more) = row_before (row_of schema k fields) (rows_from (k + 1) schema more)

-- the rows that an import's data spells under a schema, or the refusal for its first record that is no row
abbrev pub rows_of : List Column → List ℕ → Result (List (List Value)) Refusal
rows_of schema bytes = rows_from 1 schema (records_of bytes)
