-- The values of a record's fields, and their bytes one behind another.
use Rattle.std.proofs.Common.{◌≡◌, ℕ, zero, suc, ◌+◌, ◌<◌, ◌≤◌, Bool, true, false, cond, leb, eqb, List, [], ◌∷◌, ◌++◌, length, get_or, take, drop, Option, Some, None, Result, Ok, Err, refl, sym, ap, subst, ◌∙◌, append_assoc, arith, leb-true, le-leb, eqb-true, MatchOption, Bor, is_some}
use Rattle.std.specs.Prelude.{◌↔◌, IsTrue}
use Rattle.std.specs.Option.{option_map}
use Rattle.std.specs.Str.{is_utf8}
use Rattle.std.specs.Str.Parse.{signed_digits_value}
use Rattle.std.proofs.lemmas.Bool.{and_parts, and_from, false_from_ne_true, eq-eqb}
use Rattle.std.proofs.lemmas.List.{drop_all, drop_more, take_more, take_all, append-nil}
use Rattle.std.proofs.lemmas.Str.{IsUtf8-from_is_utf8, is_utf8-from_IsUtf8}
use Rattle.csv.specs.Records.{field_at}
use Rattle.hv_row.specs.declared.value.Value.{Value}
use Rattle.hv_row.specs.declared.value.Value.TheVariants.{Int, Text}
use Rattle.hv_row.specs.declared.value.ColType.{ColType}
use Rattle.hv_row.specs.declared.value.ColType.TheVariants as kind
use Rattle.hv_row.specs.declared.schema.Column.{Column}
use Rattle.hv_row.specs.Value.{FitsType, IsTextValue, value_bytes}
use Rattle.hv_row.specs.Row.{RowFits, row_bytes}
use Rattle.hv_row.specs.Spelling.{IsSpelling}
use Rattle.hv_row.specs.Packed.{row_spelled}
use Rattle.hv_row.proofs.Spelled.{row_again}
use Rattle.hv_model.specs.declared.reply.Refusal.TheVariants as refusal
use Rattle.hv_model.specs.Import.{is_integer, is_text, field_value, value_before, values_from, short_row, has_place, row_of}
use Rattle.hv_import.proofs.Numbers.{integer_reads}

-- ---- a field

text_value : (field : List ℕ) → is_text field ≡ true → IsTextValue field
text_value field e = record {
  short = leb-true (length field) 255 (and_parts (leb (length field) 255) (is_utf8 field) e).0;
  utf8 = IsUtf8-from_is_utf8 field (and_parts (leb (length field) 255) (is_utf8 field) e).1;
}

text_test : (field : List ℕ) → IsTextValue field → is_text field ≡ true
text_test field t = and_from (leb (length field) 255) (is_utf8 field) (le-leb (length field) 255 t.short) (is_utf8-from_IsUtf8 field t.utf8)

text_told : (field : List ℕ) (told : Bool) → IsTrue told ↔ IsTextValue field → is_text field ≡ told
text_told field true iff = text_test field (iff.0 refl)
text_told field false iff = false_from_ne_true (is_text field) (λ is. let h : false ≡ true = iff.1 (text_value field is) in cc)

-- the text of a field of a column of texts, by what the test tells
text_of : (k : ColType) (field : List ℕ) (told : Bool) → k ≡ kind.Text → IsTrue told ↔ IsTextValue field → field_value k field ≡ cond told (Some (Text field)) None
text_of k field told is iff = rw (is, text_told field told iff) refl

-- what spelling a field tells
abbrev pub Told : ColType → List ℕ → Bool → List ℕ → List ℕ → Type 0
Told k field spelled before after = MatchOption (field_value k field) (spelled ≡ false) (λ value. (spelled ≡ true) × (after ≡ before ++ value_bytes k value))

pub told_none : (k : ColType) (field : List ℕ) (told : Bool) (before : List ℕ) → k ≡ kind.Text → IsTrue told ↔ IsTextValue field → told ≡ false → Told k field false before before
told_none k field told before is iff never = rw (text_of k field told is iff, never) refl

pub told_text : (k : ColType) (field : List ℕ) (told : Bool) (before sized after : List ℕ) → k ≡ kind.Text → IsTrue told ↔ IsTextValue field → told ≡ true → sized ≡ before ++ length field ∷ [] → after ≡ sized ++ field → Told k field true before after
told_text k field told before sized after is iff holds size text =
    rw (text_of k field told is iff, holds) (refl, text ∙ ap (λ (x : List ℕ). x ++ field) size ∙ append_assoc before (length field ∷ []) field)

-- the value of a field fits its column
value_fits : (k : ColType) (field : List ℕ) (v : Value) → field_value k field ≡ Some v → FitsType k v
value_fits kind.Int field v e =
    elim (is_integer field) as (λ t. is_integer field ≡ t → cond t (Some (Int (signed_digits_value 10 field))) None ≡ Some v → FitsType kind.Int v) [
      | true ↦ λ is h. let same : Int (signed_digits_value 10 field) ≡ v = cc in subst (FitsType kind.Int) same (integer_reads field is).1
      | false ↦ λ _ h. absurd (cc)
    ] refl e
value_fits kind.Text field v e =
    elim (is_text field) as (λ t. is_text field ≡ t → cond t (Some (Text field)) None ≡ Some v → FitsType kind.Text v) [
      | true ↦ λ is h. let same : Text field ≡ v = cc in subst (FitsType kind.Text) same (text_value field is)
      | false ↦ λ _ h. absurd (cc)
    ] refl e

-- ---- rows with a value more

fits_more : (cs : List Column) (vs : List Value) (c : Column) (v : Value) → RowFits cs vs → FitsType c.kind v → RowFits (cs ++ c ∷ []) (vs ++ v ∷ [])
fits_more [] [] c v fits fit = (fit, tt)
fits_more [] (_ ∷ _) c v fits fit = absurd fits
fits_more (_ ∷ _) [] c v fits fit = absurd fits
fits_more (d ∷ cs) (w ∷ vs) c v fits fit = (fits.0, fits_more cs vs c v fits.1 fit)

bytes_more : (cs : List Column) (vs : List Value) (c : Column) (v : Value) → RowFits cs vs → row_bytes (cs ++ c ∷ []) (vs ++ v ∷ []) ≡ row_bytes cs vs ++ value_bytes c.kind v
bytes_more [] [] c v fits = append-nil (value_bytes c.kind v)
bytes_more [] (_ ∷ _) c v fits = absurd fits
bytes_more (_ ∷ _) [] c v fits = absurd fits
bytes_more (d ∷ cs) (w ∷ vs) c v fits =
    ap (λ (x : List ℕ). value_bytes d.kind w ++ x) (bytes_more cs vs c v fits.1) ∙ sym (append_assoc (value_bytes d.kind w) (row_bytes cs vs) (value_bytes c.kind v))

-- values before the others; the first column that has none stays
abbrev pub behind : List Value → Result (List Value) ℕ → Result (List Value) ℕ
behind vs (Ok ws) = Ok (vs ++ ws)
behind vs (Err column) = Err column

behind_none : (r : Result (List Value) ℕ) → r ≡ behind [] r
behind_none (Ok ws) = refl
behind_none (Err column) = refl

behind_more : (vs : List Value) (v : Value) (column : ℕ) (r : Result (List Value) ℕ) → behind vs (value_before column (Some v) r) ≡ behind (vs ++ v ∷ []) r
behind_more vs v column (Ok ws) = ap Ok (sym (append_assoc vs (v ∷ []) ws))
behind_more vs v column (Err later) = refl

-- ---- the fields so far

-- the first `at` columns have their values, and these are the bytes
pub record IsSpelt (columns : List Column) (fields : List (List ℕ)) (at : ℕ) (bytes : List ℕ) : Type 0 where
  pub values : List Value
  pub fits : RowFits (take at columns) values
  pub spelt : bytes ≡ row_bytes (take at columns) values
  pub left : values_from 1 columns fields ≡ behind values (values_from (at + 1) (drop at columns) (drop at fields))

pub spelt_none : (columns : List Column) (fields : List (List ℕ)) → IsSpelt columns fields 0 []
spelt_none columns fields = record { values = []; fits = tt; spelt = refl; left = behind_none (values_from 1 columns fields) }

fields_from : (fields : List (List ℕ)) (at : ℕ) (field : List ℕ) → field_at fields at ≡ Some field → drop at fields ≡ field ∷ drop (suc at) fields
unfolding field_at
fields_from [] at field e = absurd cc
fields_from (f ∷ fs) zero field e = let same : f ≡ field = cc in ap (λ (x : List ℕ). x ∷ fs) same
fields_from (f ∷ fs) (suc at) field e = fields_from fs at field e

field_here : (fields : List (List ℕ)) (at : ℕ) (field : List ℕ) → field_at fields at ≡ Some field → drop at fields ≡ field ∷ drop (at + 1) fields
field_here fields at field e = let next : suc at ≡ at + 1 = omega arith in fields_from fields at field e ∙ ap (λ (n : ℕ). field ∷ drop n fields) next

within : (fields : List (List ℕ)) (at : ℕ) → at < length fields → is_some (field_at fields at) ≡ true
unfolding field_at
within [] at lt = absurd (omega arith)
within (f ∷ fs) zero lt = refl
within (f ∷ fs) (suc at) lt = within fs at (omega arith)

-- as many fields as columns: each column has one
pub found_here : (fields : List (List ℕ)) (at : ℕ) (found : Option (Bor (List ℕ))) → at < length fields → option_map (λ s. s.now) found ≡ field_at fields at → is_some found ≡ true
found_here fields at None lt is = let no : is_some (field_at fields at) ≡ false = ap is_some (sym is) in let some = within fields at lt in absurd cc
found_here fields at (Some field) lt is = refl

pub field_found : (fields : List (List ℕ)) (at : ℕ) (found : Option (Bor (List ℕ))) (field : Bor (List ℕ)) → found ≡ Some field → option_map (λ s. s.now) found ≡ field_at fields at → field_at fields at ≡ Some field.now
field_found fields at found field is value = sym value ∙ ap (option_map (λ s. s.now)) is

-- what is left, with the next field and its column at the front
left_here : (columns : List Column) (fields : List (List ℕ)) (at : ℕ) (bytes field : List ℕ) (c : Column) → at < length columns → c ≡ get_or columns at c → field_at fields at ≡ Some field → (so_far : IsSpelt columns fields at bytes)
    → values_from 1 columns fields ≡ behind so_far.values (value_before (at + 1) (field_value c.kind field) (values_from (at + 1 + 1) (drop (at + 1) columns) (drop (at + 1) fields)))
left_here columns fields at bytes field c lt is found so_far =
    let here : drop at columns ≡ c ∷ drop (at + 1) columns = drop_more columns at c lt ∙ ap (λ (x : Column). x ∷ drop (at + 1) columns) (sym is) in
    so_far.left
    ∙ ap (λ (cs : List Column). behind so_far.values (values_from (at + 1) cs (drop at fields))) here
    ∙ ap (λ (fs : List (List ℕ)). behind so_far.values (values_from (at + 1) (c ∷ drop (at + 1) columns) fs)) (field_here fields at field found)

spelt_next : (columns : List Column) (fields : List (List ℕ)) (at : ℕ) (bytes field : List ℕ) (c : Column) (v : Value) → at < length columns → c ≡ get_or columns at c → field_at fields at ≡ Some field → field_value c.kind field ≡ Some v
    → IsSpelt columns fields at bytes → IsSpelt columns fields (at + 1) (bytes ++ value_bytes c.kind v)
spelt_next columns fields at bytes field c v lt is found value so_far =
    let more : take (at + 1) columns ≡ take at columns ++ c ∷ [] = take_more columns at c lt ∙ ap (λ (x : Column). take at columns ++ x ∷ []) (sym is) in
    record {
      values = so_far.values ++ v ∷ [];
      fits = subst (λ (cs : List Column). RowFits cs (so_far.values ++ v ∷ [])) (sym more) (fits_more (take at columns) so_far.values c v so_far.fits (value_fits c.kind field v value));
      spelt = ap (λ (x : List ℕ). x ++ value_bytes c.kind v) so_far.spelt ∙ sym (bytes_more (take at columns) so_far.values c v so_far.fits)
          ∙ ap (λ (cs : List Column). row_bytes cs (so_far.values ++ v ∷ [])) (sym more);
      left = left_here columns fields at bytes field c lt is found so_far
          ∙ ap (λ (o : Option Value). behind so_far.values (value_before (at + 1) o (values_from (at + 1 + 1) (drop (at + 1) columns) (drop (at + 1) fields)))) value
          ∙ behind_more so_far.values v (at + 1) (values_from (at + 1 + 1) (drop (at + 1) columns) (drop (at + 1) fields));
    }

pub spelt_more : (columns : List Column) (fields : List (List ℕ)) (at : ℕ) (bytes field more : List ℕ) (c : Column) → at < length columns → c ≡ get_or columns at c → field_at fields at ≡ Some field → Told c.kind field true bytes more
    → IsSpelt columns fields at bytes → IsSpelt columns fields (at + 1) more
spelt_more columns fields at bytes field more c lt is found told so_far =
    elim (field_value c.kind field) as (λ o. field_value c.kind field ≡ o → MatchOption o (true ≡ false) (λ value. (true ≡ true) × (more ≡ bytes ++ value_bytes c.kind value)) → IsSpelt columns fields (at + 1) more) [
      | None ↦ λ _ t. absurd cc
      | Some v ↦ λ value t. subst (IsSpelt columns fields (at + 1)) (sym t.1) (spelt_next columns fields at bytes field c v lt is found value so_far)
    ] refl told

-- a field that is no value
pub spelt_stop : (columns : List Column) (fields : List (List ℕ)) (at : ℕ) (bytes field more : List ℕ) (c : Column) → at < length columns → c ≡ get_or columns at c → field_at fields at ≡ Some field → Told c.kind field false bytes more
    → IsSpelt columns fields at bytes → values_from 1 columns fields ≡ Err (at + 1)
spelt_stop columns fields at bytes field more c lt is found told so_far =
    elim (field_value c.kind field) as (λ o. field_value c.kind field ≡ o → MatchOption o (false ≡ false) (λ value. (false ≡ true) × (more ≡ bytes ++ value_bytes c.kind value)) → values_from 1 columns fields ≡ Err (at + 1)) [
      | None ↦ λ none _. left_here columns fields at bytes field c lt is found so_far
          ∙ ap (λ (o : Option Value). behind so_far.values (value_before (at + 1) o (values_from (at + 1 + 1) (drop (at + 1) columns) (drop (at + 1) fields)))) none
      | Some v ↦ λ _ t. absurd (let no = t.0 in cc)
    ] refl told

-- all columns have their values
pub record IsWhole (columns : List Column) (fields : List (List ℕ)) (bytes : List ℕ) : Type 0 where
  pub spelling : IsSpelling columns bytes
  pub values : values_from 1 columns fields ≡ Ok (row_spelled columns bytes)
  pub same : bytes ≡ row_bytes columns (row_spelled columns bytes)

pub spelt_whole : (columns : List Column) (fields : List (List ℕ)) (at : ℕ) (bytes : List ℕ) → length columns ≤ at → IsSpelt columns fields at bytes → IsWhole columns fields bytes
spelt_whole columns fields at bytes all so_far =
    let whole : take at columns ≡ columns = take_all at columns all in
    let fits : RowFits columns so_far.values = subst (λ (cs : List Column). RowFits cs so_far.values) whole so_far.fits in
    let spelt : bytes ≡ row_bytes columns so_far.values = so_far.spelt ∙ ap (λ (cs : List Column). row_bytes cs so_far.values) whole in
    let again : row_spelled columns bytes ≡ so_far.values = ap (row_spelled columns) spelt ∙ row_again columns so_far.values fits in
    record {
      spelling = record { row = so_far.values; fits = fits; spelt = spelt };
      values = so_far.left ∙ ap (λ (cs : List Column). behind so_far.values (values_from (at + 1) cs (drop at fields))) (drop_all at columns all) ∙ ap Ok (append-nil so_far.values ∙ sym again);
      same = spelt ∙ ap (row_bytes columns) (sym again);
    }

-- ---- the row of a record

placed : (columns : List Column) (number : ℕ) (fields : List (List ℕ)) → number ≤ 1000000 → length fields ≡ length columns → has_place columns number fields ≡ true
placed columns number fields few same = and_from (leb number 1000000) (eqb (length fields) (length columns)) (le-leb number 1000000 few) (eq-eqb (length fields) (length columns) same)

row_here : (columns : List Column) (number : ℕ) (fields : List (List ℕ)) → number ≤ 1000000 → length fields ≡ length columns → row_of columns number fields ≡ short_row columns number (values_from 1 columns fields)
row_here columns number fields few same = rw (placed columns number fields few same) refl

-- another number of fields than columns
pub row_fields : (columns : List Column) (number : ℕ) (fields : List (List ℕ)) → (length fields ≡ length columns → ⊥) → row_of columns number fields ≡ Err (refusal.BadRow number 0)
row_fields columns number fields other =
    let never : has_place columns number fields ≡ false = false_from_ne_true (has_place columns number fields) (λ is. other (eqb-true (length fields) (length columns) (and_parts (leb number 1000000) (eqb (length fields) (length columns)) is).1)) in
    rw never refl

pub row_stop : (columns : List Column) (number : ℕ) (fields : List (List ℕ)) (column : ℕ) → number ≤ 1000000 → length fields ≡ length columns → values_from 1 columns fields ≡ Err column → row_of columns number fields ≡ Err (refusal.BadRow number column)
row_stop columns number fields column few same stop = row_here columns number fields few same ∙ ap (short_row columns number) stop

short_rows : (columns : List Column) (number : ℕ) (fields : List (List ℕ)) (bytes : List ℕ) (long : Bool) → number ≤ 1000000 → length fields ≡ length columns → IsWhole columns fields bytes → leb (length bytes) 2000 ≡ long
    → row_of columns number fields ≡ cond long (Ok (row_spelled columns bytes)) (Err (refusal.LongRow number))
short_rows columns number fields bytes long few same whole is =
    row_here columns number fields few same ∙ ap (short_row columns number) whole.values
    ∙ ap (λ (x : List ℕ). cond (leb (length x) 2000) (Ok (row_spelled columns bytes)) (Err (refusal.LongRow number))) (sym whole.same)
    ∙ ap (λ (b : Bool). cond b (Ok (row_spelled columns bytes)) (Err (refusal.LongRow number))) is

pub row_long : (columns : List Column) (number : ℕ) (fields : List (List ℕ)) (bytes : List ℕ) → number ≤ 1000000 → length fields ≡ length columns → IsWhole columns fields bytes → 2000 < length bytes → row_of columns number fields ≡ Err (refusal.LongRow number)
row_long columns number fields bytes few same whole long =
    short_rows columns number fields bytes false few same whole (false_from_ne_true (leb (length bytes) 2000) (λ is. let short = leb-true (length bytes) 2000 is in absurd (omega arith)))

pub row_whole : (columns : List Column) (number : ℕ) (fields : List (List ℕ)) (bytes : List ℕ) → number ≤ 1000000 → length fields ≡ length columns → IsWhole columns fields bytes → length bytes ≤ 2000 → row_of columns number fields ≡ Ok (row_spelled columns bytes)
row_whole columns number fields bytes few same whole short = short_rows columns number fields bytes true few same whole (le-leb (length bytes) 2000 short)
