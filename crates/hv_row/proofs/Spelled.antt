-- The row that bytes spell: what was spelled is read again, value by value.
use Rattle.std.proofs.Common.{◌≡◌, ℕ, ◌+◌, ◌-◌, ◌<◌, ◌≤◌, List, [], ◌∷◌, ◌++◌, length, get_or, take, drop, Some, refl, sym, ap, subst, ◌∙◌, arith}
use Rattle.std.specs.Prelude.{slice_get}
use Rattle.std.proofs.lemmas.List.{drop_at, drop-drop, drop_more, length-drop, length-append, get_or-drop, take_all, take_more}
use Rattle.std.proofs.lemmas.Option.{slice_get-get_or, slice_get_within, get_or_from_slice_get}
use Rattle.hv_row.specs.declared.value.Value.{Value}
use Rattle.hv_row.specs.declared.value.Value.TheVariants.{Int, Text}
use Rattle.hv_row.specs.declared.value.ColType.{ColType}
use Rattle.hv_row.specs.declared.value.ColType.TheVariants as kind
use Rattle.hv_row.specs.declared.schema.Column.{Column}
use Rattle.hv_row.specs.declared.value_ref.ValueRef.{ValueRef}
use Rattle.hv_row.specs.Value.{FitsType, type_of, value_bytes}
use Rattle.hv_row.specs.Row.{RowFits, row_bytes}
use Rattle.hv_row.specs.Spelling.{IsSpelling}
use Rattle.hv_row.specs.Packed.{value_lent, value_size, value_spelled, row_spelled}
use Rattle.hv_row.proofs.Reading.{rest_of, value_again}
use Rattle.hv_row.proofs.Steps.{fits_own}

-- ---- a value

size_again : (k : ColType) (v : Value) (rest : List ℕ) → FitsType k v → value_size k (value_bytes k v ++ rest) ≡ length (value_bytes k v)
size_again kind.Int (Int x) rest fits = refl
size_again kind.Int (Text _) rest fits = absurd fits
size_again kind.Text (Int _) rest fits = absurd fits
size_again kind.Text (Text bytes) rest fits = omega arith

behind_again : (k : ColType) (v : Value) (rest : List ℕ) → FitsType k v → drop (value_size k (value_bytes k v ++ rest)) (value_bytes k v ++ rest) ≡ rest
behind_again k v rest fits = drop_at (value_bytes k v) rest _ (sym (size_again k v rest fits))

-- ---- a row

-- the row that a row's bytes spell is that row
pub row_again : (cs : List Column) (vs : List Value) → RowFits cs vs → row_spelled cs (row_bytes cs vs) ≡ vs
row_again [] [] fits = refl
row_again [] (_ ∷ _) fits = absurd fits
row_again (_ ∷ _) [] fits = absurd fits
row_again (c ∷ cs) (v ∷ vs) fits =
    let rest = row_bytes cs vs in
    ap (λ (x : Value). x ∷ row_spelled cs (drop (value_size c.kind (value_bytes c.kind v ++ rest)) (value_bytes c.kind v ++ rest))) (value_again c.kind v rest fits.0)
    ∙ ap (λ (x : List ℕ). v ∷ row_spelled cs x) (behind_again c.kind v rest fits.0)
    ∙ ap (λ (x : List Value). v ∷ x) (row_again cs vs fits.1)

-- a spelling spells the row of which it is the bytes
pub spelling_row : (cs : List Column) (bytes : List ℕ) (is : IsSpelling cs bytes) → row_spelled cs bytes ≡ is.row
spelling_row cs bytes is = ap (row_spelled cs) is.spelt ∙ row_again cs is.row is.fits

pub spelling_fits : (cs : List Column) (bytes : List ℕ) → IsSpelling cs bytes → RowFits cs (row_spelled cs bytes)
spelling_fits cs bytes is = subst (RowFits cs) (sym (spelling_row cs bytes is)) is.fits

pub spelling_bytes : (cs : List Column) (bytes : List ℕ) → IsSpelling cs bytes → bytes ≡ row_bytes cs (row_spelled cs bytes)
spelling_bytes cs bytes is = is.spelt ∙ ap (row_bytes cs) (sym (spelling_row cs bytes is))

pub row_is_spelling : (cs : List Column) (row : List Value) → RowFits cs row → IsSpelling cs (row_bytes cs row)
row_is_spelling cs row fits = record { row = row; fits = fits; spelt = refl }

pub length_spelled : (cs : List Column) (bytes : List ℕ) → length (row_spelled cs bytes) ≡ length cs
length_spelled [] bytes = refl
length_spelled (c ∷ cs) bytes = omega (arith, length_spelled cs (drop (value_size c.kind bytes) bytes))

-- the first value of a spelling
record IsFirst (c : Column) (cs : List Column) (bytes : List ℕ) : Type 0 where
  within : value_size c.kind bytes ≤ length bytes
  fits : FitsType c.kind (value_spelled c.kind bytes)
  others : IsSpelling cs (drop (value_size c.kind bytes) bytes)

first_of : (c : Column) (cs : List Column) (v : Value) (vs : List Value) → FitsType c.kind v → RowFits cs vs → IsFirst c cs (value_bytes c.kind v ++ row_bytes cs vs)
first_of c cs v vs fit fits =
    let rest = row_bytes cs vs in
    record {
      within = omega (arith, size_again c.kind v rest fit, length-append (value_bytes c.kind v) rest);
      fits = subst (FitsType c.kind) (sym (value_again c.kind v rest fit)) fit;
      others = subst (IsSpelling cs) (sym (behind_again c.kind v rest fit)) (row_is_spelling cs vs fits);
    }

first_of_row : (c : Column) (cs : List Column) (row : List Value) → RowFits (c ∷ cs) row → IsFirst c cs (row_bytes (c ∷ cs) row)
first_of_row c cs [] fits = absurd fits
first_of_row c cs (v ∷ vs) fits = first_of c cs v vs fits.0 fits.1

first : (c : Column) (cs : List Column) (bytes : List ℕ) → IsSpelling (c ∷ cs) bytes → IsFirst c cs bytes
first c cs bytes is = subst (IsFirst c cs) (sym is.spelt) (first_of_row c cs is.row is.fits)

-- ---- in the loops that read a spelling: i columns and `at` bytes are behind them

pub record IsBehind (cs : List Column) (bytes : List ℕ) (i at : ℕ) : Type 0 where
  pub within : at ≤ length bytes
  pub spelling : IsSpelling (drop i cs) (drop at bytes)
  pub values : drop i (row_spelled cs bytes) ≡ row_spelled (drop i cs) (drop at bytes)

pub behind_none : (cs : List Column) (bytes : List ℕ) → IsSpelling cs bytes → IsBehind cs bytes 0 0
behind_none cs bytes is = record { within = omega arith; spelling = is; values = refl }

-- what is left of the bytes, `&bytes[at..]`
abbrev pub left : List ℕ → ℕ → List ℕ
left bytes at = take (length bytes - at) (drop at bytes)

-- the value of the i-th column stands at the front of the rest
pub record IsNextValue (cs : List Column) (bytes : List ℕ) (i at : ℕ) (k : ColType) (rest : List ℕ) : Type 0 where
  pub within : value_size k rest ≤ length rest
  pub fits : FitsType k (value_spelled k rest)
  pub is : slice_get (row_spelled cs bytes) i ≡ Some (value_spelled k rest)
  pub next : IsBehind cs bytes (i + 1) (at + value_size k rest)

tail_of : {X : Type 0} (xs : List X) (i : ℕ) (x : X) (ys : List X) → drop i xs ≡ x ∷ ys → (slice_get xs i ≡ Some x) × (drop (i + 1) xs ≡ ys)
tail_of {X} xs i x ys e =
    let some : i < length xs = omega (arith, ap length e, length-drop i xs) in
    let here : get_or xs i x ≡ x = ap (λ (n : ℕ). get_or xs n x) (omega arith) ∙ sym (get_or-drop i xs 0 x) ∙ ap (λ (l : List X). get_or l 0 x) e in
    (slice_get-get_or xs i x some ∙ ap Some here, sym (drop-drop 1 i xs) ∙ ap (drop 1) e)

next_first : (cs : List Column) (bytes : List ℕ) (i at : ℕ) (c : Column) → drop i cs ≡ c ∷ drop (i + 1) cs → IsBehind cs bytes i at → IsNextValue cs bytes i at c.kind (left bytes at)
next_first cs bytes i at c now behind =
    let rest = drop at bytes in
    let size = value_size c.kind rest in
    let of_rest : IsSpelling (c ∷ drop (i + 1) cs) rest = subst (λ (x : List Column). IsSpelling x rest) now behind.spelling in
    let one = first c (drop (i + 1) cs) rest of_rest in
    let values : drop i (row_spelled cs bytes) ≡ value_spelled c.kind rest ∷ row_spelled (drop (i + 1) cs) (drop size rest) = behind.values ∙ ap (λ (x : List Column). row_spelled x rest) now in
    let tail = tail_of (row_spelled cs bytes) i _ _ values in
    let far : drop size rest ≡ drop (at + size) bytes = drop-drop size at bytes in
    let within : size ≤ length rest = one.within in
    subst (IsNextValue cs bytes i at c.kind) (sym (rest_of at bytes)) (record {
      within = within;
      fits = one.fits;
      is = tail.0;
      next = record {
        within = omega (arith, within, length-drop at bytes, behind.within);
        spelling = subst (IsSpelling (drop (i + 1) cs)) far one.others;
        values = tail.1 ∙ ap (row_spelled (drop (i + 1) cs)) far;
      };
    })

pub next_value_at : (cs : List Column) (bytes : List ℕ) (i at : ℕ) (c : Column) → i < length cs → c ≡ get_or cs i c → IsBehind cs bytes i at → IsNextValue cs bytes i at c.kind (left bytes at)
next_value_at cs bytes i at c lt is behind =
    next_first cs bytes i at c (drop_more cs i c lt ∙ ap (λ (x : Column). x ∷ drop (i + 1) cs) (sym is)) behind

-- a value of a column is lent
pub lent_at : (cs : List Column) (bytes : List ℕ) (i at : ℕ) (k : ColType) (rest : List ℕ) (v : ValueRef) → IsNextValue cs bytes i at k rest → value_lent v ≡ value_spelled k rest → Some (value_lent v) ≡ slice_get (row_spelled cs bytes) i
lent_at cs bytes i at k rest v next is = ap Some is ∙ sym next.is

pub lent_fits : (cs : List Column) (bytes : List ℕ) (i at : ℕ) (k : ColType) (rest : List ℕ) (v : ValueRef) → IsNextValue cs bytes i at k rest → value_lent v ≡ value_spelled k rest → FitsType (type_of (value_lent v)) (value_lent v)
lent_fits cs bytes i at k rest v next is = (fits_own k (value_lent v) (subst (FitsType k) (sym is) next.fits)).1

-- ---- reading all of it

-- the values of the first i columns are read
pub record IsReadAt (cs : List Column) (bytes : List ℕ) (i at : ℕ) (row : List Value) : Type 0 where
  pub behind : IsBehind cs bytes i at
  pub values : row ≡ take i (row_spelled cs bytes)

pub read_none : (cs : List Column) (bytes : List ℕ) → IsSpelling cs bytes → IsReadAt cs bytes 0 0 []
read_none cs bytes is = record { behind = behind_none cs bytes is; values = refl }

pub read_next : (cs : List Column) (bytes : List ℕ) (i at : ℕ) (k : ColType) (rest : List ℕ) (row : List Value) → IsNextValue cs bytes i at k rest → IsReadAt cs bytes i at row → IsReadAt cs bytes (i + 1) (at + value_size k rest) (row ++ value_spelled k rest ∷ [])
read_next cs bytes i at k rest row next read =
    let all = row_spelled cs bytes in
    let v = value_spelled k rest in
    let front : row ++ v ∷ [] ≡ take i all ++ v ∷ [] = ap (λ (x : List Value). x ++ v ∷ []) read.values in
    let here : get_or all i v ≡ v = get_or_from_slice_get all i v v next.is in
    let more : take (i + 1) all ≡ take i all ++ v ∷ [] = take_more all i v (slice_get_within all i v next.is) ∙ ap (λ (x : Value). take i all ++ x ∷ []) here in
    record { behind = next.next; values = front ∙ sym more }

pub read_whole : (cs : List Column) (bytes : List ℕ) (i at : ℕ) (row : List Value) → length cs ≤ i → IsReadAt cs bytes i at row → row ≡ row_spelled cs bytes
read_whole cs bytes i at row all read = read.values ∙ take_all i (row_spelled cs bytes) (omega (arith, all, length_spelled cs bytes))
