-- One value on, in the loops that read and write rows: i columns and `at` bytes are behind it.
use Rattle.std.proofs.Common.{◌≡◌, ℕ, ◌+◌, ◌-◌, ◌<◌, ◌≤◌, List, [], ◌∷◌, ◌++◌, length, get_or, take, drop, Option, Some, None, refl, sym, ap, subst, ◌∙◌, arith}
use Rattle.std.proofs.lemmas.List.{length-take, drop-drop, drop_more, drop_all, take-append-le}
use Rattle.hv_row.specs.declared.value.Value.{Value}
use Rattle.hv_row.specs.declared.value.Value.TheVariants.{Int, Text}
use Rattle.hv_row.specs.declared.value.ColType.{ColType}
use Rattle.hv_row.specs.declared.value.ColType.TheVariants as kind
use Rattle.hv_row.specs.declared.schema.Column.{Column}
use Rattle.hv_row.specs.Value.{FitsType, type_of, value_bytes}
use Rattle.hv_row.specs.Row.{RowFits, row_bytes}
use Rattle.hv_row.specs.Spelling.{value_length, behind, fault_from}
use Rattle.hv_row.proofs.Reading.{rest_of}

-- ---- reading

-- the column of a loop's turn, among those of the schema that the loop goes through
pub column_at : (items cs : List Column) (i : ℕ) (c : Column) → items ≡ cs → i < length items → c ≡ get_or items i c → (i < length cs) × (c ≡ get_or cs i c)
column_at items cs i c same lt is = subst (λ (x : List Column). (i < length x) × (c ≡ get_or x i c)) same (lt, is)

-- what a loop was told of the bytes that are left, `&bytes[at..]`, tells of the row
pub fault_here : (cs : List Column) (i at : ℕ) (c : Column) (bytes : List ℕ) → i < length cs → c ≡ get_or cs i c → None ≡ value_length c.kind (take (length bytes - at) (drop at bytes)) → fault_from at (drop i cs) (drop at bytes) ≡ Some at
unfolding fault_from
fault_here cs i at c bytes lt is given =
    let e : value_length c.kind (drop at bytes) ≡ None = rw (rest_of at bytes) at (sym given) in
    let next : drop i cs ≡ c ∷ drop (i + 1) cs = drop_more cs i c lt ∙ ap (λ (x : Column). x ∷ drop (i + 1) cs) (sym is) in
    ap (λ (x : List Column). fault_from at x (drop at bytes)) next ∙ ap (λ (o : Option ℕ). behind at o (λ m. fault_from (at + m) (drop (i + 1) cs) (drop m (drop at bytes)))) e

pub fault_on : (cs : List Column) (i at : ℕ) (c : Column) (bytes : List ℕ) (n : ℕ) → i < length cs → c ≡ get_or cs i c → Some n ≡ value_length c.kind (take (length bytes - at) (drop at bytes)) → fault_from at (drop i cs) (drop at bytes) ≡ fault_from (at + n) (drop (i + 1) cs) (drop (at + n) bytes)
unfolding fault_from
fault_on cs i at c bytes n lt is given =
    let e : value_length c.kind (drop at bytes) ≡ Some n = rw (rest_of at bytes) at (sym given) in
    let next : drop i cs ≡ c ∷ drop (i + 1) cs = drop_more cs i c lt ∙ ap (λ (x : Column). x ∷ drop (i + 1) cs) (sym is) in
    ap (λ (x : List Column). fault_from at x (drop at bytes)) next
    ∙ ap (λ (o : Option ℕ). behind at o (λ m. fault_from (at + m) (drop (i + 1) cs) (drop m (drop at bytes)))) e
    ∙ ap (fault_from (at + n) (drop (i + 1) cs)) (drop-drop n at bytes)

-- behind the last column
pub fault_left : (cs : List Column) (i at : ℕ) (bytes : List ℕ) → length cs ≤ i → at < length bytes → fault_from at (drop i cs) (drop at bytes) ≡ Some at
unfolding fault_from
fault_left cs i at bytes all lt = rw (drop_all i cs all, drop_more bytes at 0 lt) refl

pub fault_none : (cs : List Column) (i at : ℕ) (bytes : List ℕ) → length cs ≤ i → length bytes ≤ at → fault_from at (drop i cs) (drop at bytes) ≡ None
unfolding fault_from
fault_none cs i at bytes all end = rw (drop_all i cs all, drop_all at bytes end) refl

-- ---- writing: the values from the i-th on

-- a value that fits a column fits one of its own type
pub fits_own : (k : ColType) (v : Value) → FitsType k v → (k ≡ type_of v) × FitsType (type_of v) v
fits_own kind.Int (Int x) fits = (refl, fits)
fits_own kind.Int (Text _) fits = absurd fits
fits_own kind.Text (Int _) fits = absurd fits
fits_own kind.Text (Text bytes) fits = (refl, fits)

-- the first of the values that are left, and the others
pub record IsNext (cs : List Column) (vs : List Value) (i : ℕ) (v : Value) : Type 0 where
  pub fits : FitsType (type_of v) v
  pub others : RowFits (drop (i + 1) cs) (drop (i + 1) vs)
  pub bytes : row_bytes (drop i cs) (drop i vs) ≡ value_bytes (type_of v) v ++ row_bytes (drop (i + 1) cs) (drop (i + 1) vs)

next_of : (cs : List Column) (v : Value) (ws : List Value) → RowFits cs (v ∷ ws) → FitsType (type_of v) v × RowFits (drop 1 cs) ws × (row_bytes cs (v ∷ ws) ≡ value_bytes (type_of v) v ++ row_bytes (drop 1 cs) ws)
next_of [] v ws fits = absurd fits
next_of (c ∷ cs) v ws fits =
    let own = fits_own c.kind v fits.0 in
    (own.1, fits.1, ap (λ (k : ColType). value_bytes k v ++ row_bytes cs ws) own.0)

pub next_value : (cs : List Column) (vs : List Value) (i : ℕ) (v : Value) → i < length vs → v ≡ get_or vs i v → RowFits (drop i cs) (drop i vs) → IsNext cs vs i v
next_value cs vs i v lt is fits =
    let others = drop (i + 1) vs in
    let now : drop i vs ≡ v ∷ others = drop_more vs i v lt ∙ ap (λ (x : Value). x ∷ others) (sym is) in
    let later : drop 1 (drop i cs) ≡ drop (i + 1) cs = drop-drop 1 i cs in
    let next = next_of (drop i cs) v others (subst (λ (x : List Value). RowFits (drop i cs) x) now fits) in
    record {
      fits = next.0;
      others = subst (λ (x : List Column). RowFits x others) later next.1;
      bytes = ap (row_bytes (drop i cs)) now ∙ next.2 ∙ ap (λ (x : List Column). value_bytes (type_of v) v ++ row_bytes x others) later;
    }

-- what is put behind a list leaves its front
pub take_kept : (xs ys front : List ℕ) (n : ℕ) → n ≡ length front → take n xs ≡ front → take n (xs ++ ys) ≡ front
take_kept xs ys front n len kept =
    let within : n ≤ length xs = omega (arith, len, ap length kept, length-take n xs) in
    take-append-le n xs ys within ∙ kept

no_values : (cs : List Column) → row_bytes cs [] ≡ []
no_values [] = refl
no_values (_ ∷ _) = refl

-- behind the last value there is nothing
pub row_done : (cs : List Column) (vs : List Value) (i : ℕ) → length vs ≤ i → row_bytes (drop i cs) (drop i vs) ≡ []
row_done cs vs i all = rw (drop_all i vs all) (no_values (drop i cs))
