-- The records that a reader gives one by one are all those of the data.
use Rattle.std.proofs.Common.{◌≡◌, ℕ, zero, suc, ◌+◌, ◌<◌, ◌≤◌, Bool, true, false, cond, eqb, List, [], ◌∷◌, ◌++◌, length, Option, Some, None, Result, Ok, Err, Bor, refl, sym, ap, subst, ◌∙◌, ◌≤◌, append_assoc, arith, inl}
use Rattle.std.proofs.lemmas.List.{append-nil}
use Rattle.std.proofs.lemmas.List.Elements.{All-push}
use Rattle.csv.specs.Machine.{Read, step, in_field, start_field, start_record, after_end, ends_with, ends_at_end, is_end, fields_after, field_after, next_record}
use Rattle.csv.specs.Reading.{Ready, Reached, ReadRecord, default_config, records_from, records_next, source_of, strip_bom}
use Rattle.csv.specs.declared.parser.Action.{Action}
use Rattle.csv.specs.declared.parser.Action.TheVariants as act
use Rattle.csv.specs.declared.parser.State.{State}
use Rattle.csv.specs.declared.parser.State.TheVariants as st
use Rattle.csv.specs.declared.parser.Terminator.TheVariants as term
use Rattle.csv.specs.declared.reader.Reader.{Reader}
use Rattle.csv.specs.declared.reader.Trim.TheVariants as trim
use Rattle.csv.proofs.ReadFacts.{rows-more, rows-end}
use Rattle.hv_row.specs.declared.value.Value.{Value}
use Rattle.hv_row.specs.declared.schema.Column.{Column}
use Rattle.hv_model.specs.declared.reply.Refusal.{Refusal}
use Rattle.hv_model.specs.declared.reply.Refusal.TheVariants as refusal
use Rattle.hv_import.specs.declared.rows.RowsFault.{RowsFault}
use Rattle.hv_import.specs.declared.rows.RowsFault.TheVariants as fault
use Rattle.hv_import.specs.Rows.{AreShort, IsRowsFault}
use Rattle.hv_row.specs.Row.{row_bytes}
use Rattle.hv_row.specs.Spelling.{IsSpelling}
use Rattle.hv_row.specs.Packed.{row_spelled}
use Rattle.hv_row.proofs.Spelled.{spelling_bytes}
use Rattle.hv_model.specs.Import.{row_of, row_before, rows_from, rows_of}

-- ---- a record is followed by less

-- a step that ends a record leaves none open
abbrev ClosesRight : State × Action → Type 0
ClosesRight p = is_end p.1 ≡ true → ends_at_end p.0 ≡ false

either : (b : Bool) (p q : State × Action) → ClosesRight p → ClosesRight q → ClosesRight (cond b p q)
either true p q one other = one
either false p q one other = other

goes_on : (s : State) (a : Action) → is_end a ≡ false → ClosesRight (s, a)
goes_on s a other = λ e. absurd cc

after_closed : (c : ℕ) → ends_at_end (after_end term.CRLF c) ≡ false
after_closed c = elim (eqb c 13) as (λ b. ends_at_end (cond b st.AfterCr st.StartRecord) ≡ false) [ true ↦ refl | false ↦ refl ]

field_closes : (c : ℕ) → ClosesRight (in_field default_config c)
field_closes c =
    either (eqb c 44) _ _ (goes_on st.StartField act.EndField refl)
    (either (ends_with term.CRLF c) _ _ (λ _. after_closed c) (goes_on st.InField act.Copy refl))

start_closes : (c : ℕ) → ClosesRight (start_field default_config c)
start_closes c = either (eqb c 34) _ _ (goes_on st.InQuoted act.Skip refl) (field_closes c)

record_closes : (c : ℕ) → ClosesRight (start_record default_config c)
record_closes c = either (ends_with term.CRLF c) _ _ (goes_on st.StartRecord act.Skip refl) (start_closes c)

step_closes : (s : State) (c : ℕ) → ClosesRight (step default_config s c)
step_closes st.StartRecord c = record_closes c
step_closes st.StartField c = start_closes c
step_closes st.InField c = field_closes c
step_closes st.InQuoted c = either (eqb c 34) _ _ (goes_on st.AfterQuote act.Skip refl) (goes_on st.InQuoted act.Copy refl)
step_closes st.InEscape c = goes_on st.InQuoted act.Copy refl
step_closes st.AfterQuote c = either (eqb c 34) _ _ (goes_on st.InQuoted act.Copy refl) (field_closes c)
step_closes st.InComment c = either (eqb c 10) _ _ (goes_on st.StartRecord act.Skip refl) (goes_on st.InComment act.Skip refl)
step_closes st.AfterCr c = either (eqb c 10) _ _ (goes_on st.StartRecord act.Skip refl) (record_closes c)

-- behind a record none is open, and no more bytes are left than before
abbrev Leaves : ℕ → Option Read → Type 0
Leaves most None = Unit {0}
Leaves most (Some p) = (ends_at_end p.1 ≡ false) × (length p.2 ≤ most)

leaves_within : (fewer most : ℕ) (o : Option Read) → fewer ≤ most → Leaves fewer o → Leaves most o
leaves_within fewer most None le leaves = tt
leaves_within fewer most (Some p) le leaves = (leaves.0, omega (arith, leaves.1))

leaves_fewer : (s : State) (fields : List (List ℕ)) (field : List ℕ) (c : ℕ) (rest : List ℕ) → ((s2 : State) (fields2 : List (List ℕ)) (field2 : List ℕ) → Leaves (length rest) (next_record default_config s2 fields2 field2 rest))
    → Leaves (length rest) (next_record default_config s fields field (c ∷ rest))
unfolding next_record
leaves_fewer s fields field c rest others =
    let p = step default_config s c in
    elim (is_end p.1) as (λ b. is_end p.1 ≡ b → Leaves (length rest) (cond b (Some (fields_after p.1 fields field, p.0, rest)) (next_record default_config p.0 (fields_after p.1 fields field) (field_after p.1 c field) rest))) [
      | true ↦ λ is. (step_closes s c is, omega arith)
      | false ↦ λ _. others p.0 (fields_after p.1 fields field) (field_after p.1 c field)
    ] refl

leaves_all : (xs : List ℕ) (s : State) (fields : List (List ℕ)) (field : List ℕ) → Leaves (length xs) (next_record default_config s fields field xs)
unfolding next_record
leaves_all [] s fields field = elim (ends_at_end s) as (λ b. Leaves 0 (cond b (Some (fields ++ (field ∷ []), st.StartRecord, [])) None)) [ true ↦ (refl, omega arith) | false ↦ tt ]
leaves_all (c ∷ rest) s fields field =
    leaves_within (length rest) (length (c ∷ rest)) (next_record default_config s fields field (c ∷ rest)) (omega arith) (leaves_fewer s fields field c rest (leaves_all rest))

next_leaves : (s : State) (xs : List ℕ) (p : Read) → ends_at_end s ≡ false → next_record default_config s [] [] xs ≡ Some p → (ends_at_end p.1 ≡ false) × (length p.2 < length xs)
unfolding next_record
next_leaves s [] p closed is = let none : next_record default_config s [] [] [] ≡ None = rw closed refl in absurd cc
next_leaves s (c ∷ rest) p closed is = let leaves = subst (Leaves (length rest)) is (leaves_fewer s [] [] c rest (leaves_all rest)) in (leaves.0, omega (arith, leaves.1))

-- ---- the rows so far

-- rows before those of the records that are left; the first that is none stays
abbrev pub behind : List (List Value) → Result (List (List Value)) Refusal → Result (List (List Value)) Refusal
behind rows (Ok more) = Ok (rows ++ more)
behind rows (Err cause) = Err cause

behind_none : (r : Result (List (List Value)) Refusal) → r ≡ behind [] r
behind_none (Ok more) = refl
behind_none (Err cause) = refl

behind_more : (rows : List (List Value)) (row : List Value) (r : Result (List (List Value)) Refusal) → behind rows (row_before (Ok row) r) ≡ behind (rows ++ row ∷ []) r
behind_more rows row (Ok more) = ap Ok (sym (append_assoc rows (row ∷ []) more))
behind_more rows row (Err cause) = refl

-- the bytes that a slice has for a reader
abbrev pub of_slice : Bor (List ℕ) → Option (List ℕ)
of_slice bytes = Some bytes.now

-- the rows of the data are these rows and those of the records that the reader has yet to give
pub record IsReading (schema : List Column) (text : List ℕ) (rows : List (List Value)) (number : ℕ) (reader : Reader (Bor (List ℕ))) : Type 0 where
  pub trim_is : reader.trim ≡ trim.None
  pub ready : Ready reader
  pub config_is : reader.config ≡ default_config
  pub closed : ends_at_end reader.state ≡ false
  pub left : List ℕ
  pub source : source_of of_slice reader ≡ Some left
  pub turns : ℕ
  pub enough : length left < turns
  pub rows_are : rows_of schema text ≡ behind rows (rows_from number schema (records_from default_config turns reader.state left))

pub reading_begins : (schema : List Column) (text : List ℕ) (reader : Reader (Bor (List ℕ))) → reader.trim ≡ trim.None → Ready reader → reader.config ≡ default_config → reader.state ≡ st.StartRecord → source_of of_slice reader ≡ Some (strip_bom text)
    → IsReading schema text [] 1 reader
reading_begins schema text reader trim_is ready config_is state source = record {
  trim_is = trim_is;
  ready = ready;
  config_is = config_is;
  closed = ap ends_at_end state;
  left = strip_bom text;
  source = source;
  turns = length (strip_bom text) + 1;
  enough = omega arith;
  rows_are = behind_none (rows_of schema text) ∙ ap (λ (s : State). behind [] (rows_from 1 schema (records_from default_config (length (strip_bom text) + 1) s (strip_bom text)))) (sym state);
}

-- one record more, and what is left behind it
record IsRead (text : List ℕ) (turns : ℕ) (state : State) (left : List ℕ) (fields : List (List ℕ)) (after : Reader (Bor (List ℕ))) : Type 0 where
  turns_left : ℕ
  rest : List ℕ
  source : source_of of_slice after ≡ Some rest
  closed : ends_at_end after.state ≡ false
  enough : length rest < turns_left
  records_are : records_from default_config turns state left ≡ fields ∷ records_from default_config turns_left after.state rest

read_one : (text : List ℕ) (turns : ℕ) (before after : Reader (Bor (List ℕ))) (left : List ℕ) (fields : List (List ℕ)) → before.config ≡ default_config → source_of of_slice before ≡ Some left → ends_at_end before.state ≡ false → length left < turns
    → ReadRecord of_slice before after true fields → IsRead text turns before.state left fields after
unfolding records_from Reached
read_one text zero before after left fields config source closed enough read = absurd (omega arith)
read_one text (suc turns) before after left fields config source closed enough read =
    let more = rows-more of_slice before after fields default_config before.state left left [] config source (refl, refl) read in
    let p : Read = more.2.0 in
    let is : next_record default_config before.state [] [] left ≡ Some p = more.2.1 in
    let leaves = next_leaves before.state left p closed is in
    let rest : p.2 ≡ more.0 = more.2.3.1 in
    let state : p.1 ≡ after.state = more.2.3.0 in
    record {
      turns_left = turns;
      rest = more.0;
      source = more.1;
      closed = ap ends_at_end (sym state) ∙ leaves.0;
      enough = omega (arith, leaves.1, ap length rest);
      records_are = ap (records_next (records_from default_config turns)) is
          ∙ ap (λ (f : List (List ℕ)). f ∷ records_from default_config turns p.1 p.2) (sym more.2.2)
          ∙ ap (λ (s : State). fields ∷ records_from default_config turns s p.2) state
          ∙ ap (λ (xs : List ℕ). fields ∷ records_from default_config turns after.state xs) rest;
    }

-- the rows, with the record that was read at the front of those that are left
record IsReadRow (schema : List Column) (text : List ℕ) (rows : List (List Value)) (number : ℕ) (fields : List (List ℕ)) (after : Reader (Bor (List ℕ))) : Type 0 where
  read : (turns : ℕ) × (state : State) × (left : List ℕ) × IsRead text turns state left fields after
  rows_are : rows_of schema text ≡ behind rows (row_before (row_of schema number fields) (rows_from (number + 1) schema (records_from default_config read.3.turns_left after.state read.3.rest)))

read_row : (schema : List Column) (text : List ℕ) (rows : List (List Value)) (number : ℕ) (before after : Reader (Bor (List ℕ))) (fields : List (List ℕ)) → IsReading schema text rows number before → ReadRecord of_slice before after true fields → IsReadRow schema text rows number fields after
read_row schema text rows number before after fields reading read =
    let one = read_one text reading.turns before after reading.left fields reading.config_is reading.source reading.closed reading.enough read in
    record {
      read = (reading.turns, before.state, reading.left, one);
      rows_are = reading.rows_are ∙ ap (λ (rs : List (List (List ℕ))). behind rows (rows_from number schema rs)) one.records_are;
    }

-- a record that is a row
pub reading_next : (schema : List Column) (text : List ℕ) (rows more : List (List Value)) (number : ℕ) (before after : Reader (Bor (List ℕ))) (fields : List (List ℕ)) (row : List Value) → IsReading schema text rows number before
    → ReadRecord of_slice before after true fields → after.first ≡ true → row_of schema number fields ≡ Ok row → more ≡ rows ++ row ∷ [] → IsReading schema text more (number + 1) after
reading_next schema text rows more number before after fields row reading read first is same =
    let one = read_row schema text rows number before after fields reading read in
    let left = one.read.3 in
    let others = rows_from (number + 1) schema (records_from default_config left.turns_left after.state left.rest) in
    record {
      trim_is = read.3 ∙ reading.trim_is;
      ready = inl first;
      config_is = read.2 ∙ reading.config_is;
      closed = left.closed;
      left = left.rest;
      source = left.source;
      turns = left.turns_left;
      enough = left.enough;
      rows_are = one.rows_are ∙ ap (λ (r : Result (List Value) Refusal). behind rows (row_before r others)) is ∙ behind_more rows row others ∙ ap (λ (x : List (List Value)). behind x others) (sym same);
    }

-- a record that is none
pub reading_stops : (schema : List Column) (text : List ℕ) (rows : List (List Value)) (number : ℕ) (before after : Reader (Bor (List ℕ))) (fields : List (List ℕ)) (cause : Refusal) → IsReading schema text rows number before
    → ReadRecord of_slice before after true fields → row_of schema number fields ≡ Err cause → rows_of schema text ≡ Err cause
reading_stops schema text rows number before after fields cause reading read is =
    let one = read_row schema text rows number before after fields reading read in
    let left = one.read.3 in
    one.rows_are ∙ ap (λ (r : Result (List Value) Refusal). behind rows (row_before r (rows_from (number + 1) schema (records_from default_config left.turns_left after.state left.rest)))) is

-- no record is left
no_records : (turns : ℕ) (state : State) (left : List ℕ) → next_record default_config state [] [] left ≡ None → records_from default_config turns state left ≡ []
unfolding records_from
no_records zero state left is = refl
no_records (suc turns) state left is = ap (records_next (records_from default_config turns)) is

pub reading_ends : (schema : List Column) (text : List ℕ) (rows : List (List Value)) (number : ℕ) (before after : Reader (Bor (List ℕ))) (fields : List (List ℕ)) → IsReading schema text rows number before
    → ReadRecord of_slice before after false fields → rows_of schema text ≡ Ok rows
reading_ends schema text rows number before after fields reading read =
    let none = no_records reading.turns before.state reading.left (rows-end of_slice before after fields default_config reading.left reading.config_is reading.source read) in
    reading.rows_are ∙ ap (λ (rs : List (List (List ℕ))). behind rows (rows_from number schema rs)) none ∙ ap Ok (append-nil rows)

-- why it is none is why the data spells no rows
pub reading_fault : (schema : List Column) (text : List ℕ) (rows : List (List Value)) (number : ℕ) (before after : Reader (Bor (List ℕ))) (fields : List (List ℕ)) (cause : RowsFault) → IsReading schema text rows number before
    → ReadRecord of_slice before after true fields → IsRowsFault (row_of schema number fields) cause → IsRowsFault (rows_of schema text) cause
reading_fault schema text rows number before after fields (fault.BadRow row column) reading read is = reading_stops schema text rows number before after fields (refusal.BadRow row column) reading read is
reading_fault schema text rows number before after fields (fault.LongRow row) reading read is = reading_stops schema text rows number before after fields (refusal.LongRow row) reading read is
reading_fault schema text rows number before after fields fault.Memory reading read is = tt

-- the record past the most
pub past_most : (schema : List Column) (number : ℕ) (fields : List (List ℕ)) → number ≡ 1000001 → row_of schema number fields ≡ Err (refusal.BadRow 1000001 0)
past_most schema number fields is = rw is refl

-- ---- rows that are short

pub short_more : (schema : List Column) (rows more : List (List Value)) (bytes : List ℕ) → AreShort schema rows → IsSpelling schema bytes → length bytes ≤ 2000 → more ≡ rows ++ row_spelled schema bytes ∷ [] → AreShort schema more
short_more schema rows more bytes short spelling within same =
    let row = row_spelled schema bytes in
    let one : length (row_bytes schema row) ≤ 2000 = omega (arith, within, ap length (spelling_bytes schema bytes spelling)) in
    subst (AreShort schema) (sym same) (All-push (λ r. length (row_bytes schema r) ≤ 2000) rows row short one)
