-- Cells and rows.
use Rattle.std.proofs.Common.{◌≡◌, ◌⊎◌, inl, inr, ℕ, ◌+◌, Bool, true, false, List, [], ◌∷◌, ◌++◌, length, refl, sym, ap, ◌∙◌, append_assoc, arith, nat_eq}
use Rattle.std.specs.Prelude.{◌||◌, ◌==◌, codes}
use Rattle.std.specs.List.{All, flat_map}
use Rattle.std.specs.Fmt.{signed_decimal}
use Rattle.std.proofs.lemmas.Bool.{eqb-true, eqb-false, or_left, or_right}
use Rattle.std.proofs.lemmas.List.Elements.{All-head, All-tail}
use Rattle.hv_model.specs.Token.{is_digit}
use Rattle.hv_model.specs.Report.{cell_text, quoted_byte, row_line}
use Rattle.hv_model.specs.declared.query.Cell.{Cell}
use Rattle.hv_model.specs.declared.query.Cell.TheVariants.{Num, Txt}
use Rattle.hv_report.specs.Law.{CellInRange, RowInRange}
use Rattle.hv_report.proofs.Decoding.{Anything, Decodes, IsMany, Starts, Stops, by_count, starts_append, starts_or_stops, stops_weaker, until_end, zip_equal}
use Rattle.hv_report.proofs.Quotes.{is_quote}
use Rattle.hv_report.proofs.Numbers.{begins_number, signed_starts, signed_told}

-- a quote is written twice, and any other byte once
abbrev QuoteOrPlain : ℕ → Type 0
QuoteOrPlain c = ((c ≡ 39) × (quoted_byte c ≡ 39 ∷ 39 ∷ [])) ⊎ ((nat_eq c 39 ≡ false) × (quoted_byte c ≡ c ∷ []))

-- by what the test of the byte says
by_test : (c : ℕ) (t : Bool) → nat_eq c 39 ≡ t → QuoteOrPlain c
by_test c true e = inl (eqb-true c 39 e, rw e refl)
by_test c false e = inr (e, rw e refl)

quote_or_plain : (c : ℕ) → QuoteOrPlain c
quote_or_plain c = by_test c (nat_eq c 39) refl

-- a byte of a text tells itself, by the four cases
bytes_told : (a b : ℕ) (x y : List ℕ) → QuoteOrPlain a → QuoteOrPlain b → quoted_byte a ++ x ≡ quoted_byte b ++ y → (a ≡ b) × (x ≡ y)
bytes_told a b x y (inl p) (inl q) e =
    let spelt : 39 ∷ 39 ∷ x ≡ 39 ∷ 39 ∷ y = rw (p.1, q.1) at e in
    (p.0 ∙ sym q.0, cc)
bytes_told a b x y (inl p) (inr q) e =
    let spelt : 39 ∷ 39 ∷ x ≡ b ∷ y = rw (p.1, q.1) at e in
    let same : b ≡ 39 = cc in
    absurd (eqb-false b 39 q.0 same)
bytes_told a b x y (inr p) (inl q) e =
    let spelt : a ∷ x ≡ 39 ∷ 39 ∷ y = rw (p.1, q.1) at e in
    let same : a ≡ 39 = cc in
    absurd (eqb-false a 39 p.0 same)
bytes_told a b x y (inr p) (inr q) e =
    let spelt : a ∷ x ≡ b ∷ y = rw (p.1, q.1) at e in
    ((cc), (cc))

-- a byte of a text tells itself
byte_told : Decodes (λ _. Unit {0}) quoted_byte Anything (λ a b. a ≡ b)
byte_told a b x y good good' any any' e = bytes_told a b x y (quote_or_plain a) (quote_or_plain b) e

-- a quote alone begins no byte of a text
ends_here : (c : ℕ) (x y : List ℕ) → QuoteOrPlain c → Stops is_quote x → 39 ∷ x ≡ quoted_byte c ++ y → ⊥
ends_here c x y (inl p) stops e =
    let spelt : 39 ∷ x ≡ 39 ∷ 39 ∷ y = rw p.1 at e in
    let next : 39 ∷ y ≡ x = cc in
    starts_or_stops is_quote (39 ∷ y) x refl stops next
ends_here c x y (inr p) stops e =
    let spelt : 39 ∷ x ≡ c ∷ y = rw p.1 at e in
    let same : c ≡ 39 = cc in
    eqb-false c 39 p.0 same

-- the end of a text is the first quote that no quote follows
no_end : (c : ℕ) (x y : List ℕ) → Stops is_quote x → 39 ∷ x ≡ quoted_byte c ++ y → ⊥
no_end c x y stops e = ends_here c x y (quote_or_plain c) stops e

-- a text before its last quote, which no quote follows
pub quoted_told : (a b x y : List ℕ) → Stops is_quote x → Stops is_quote y → flat_map quoted_byte a ++ (39 ∷ x) ≡ flat_map quoted_byte b ++ (39 ∷ y) → (a ≡ b) × (x ≡ y)
quoted_told [] [] x y stops stops' e = (refl, cc)
quoted_told [] (d ∷ b) x y stops stops' e =
    absurd (no_end d x (flat_map quoted_byte b ++ (39 ∷ y)) stops (e ∙ append_assoc (quoted_byte d) (flat_map quoted_byte b) (39 ∷ y)))
quoted_told (c ∷ a) [] x y stops stops' e =
    absurd (no_end c y (flat_map quoted_byte a ++ (39 ∷ x)) stops' (sym e ∙ append_assoc (quoted_byte c) (flat_map quoted_byte a) (39 ∷ x)))
quoted_told (c ∷ a) (d ∷ b) x y stops stops' e =
    let first = byte_told c d (flat_map quoted_byte a ++ (39 ∷ x)) (flat_map quoted_byte b ++ (39 ∷ y)) tt tt tt tt
    (sym (append_assoc (quoted_byte c) (flat_map quoted_byte a) (39 ∷ x)) ∙ e ∙ append_assoc (quoted_byte d) (flat_map quoted_byte b) (39 ∷ y)) in
    let rest = quoted_told a b x y stops stops' first.1 in
    let here : c ≡ d = first.0 in
    let more : a ≡ b = rest.0 in
    ((cc), rest.1)

-- what a cell goes on with, and what a row does
abbrev pub in_cell : ℕ → Bool
in_cell c = is_digit c || c == 39

abbrev pub in_row : ℕ → Bool
in_row c = in_cell c || c == 124

-- what follows a cell begins with no digit
ends_number : (x : List ℕ) → Stops in_cell x → Stops is_digit x
ends_number x stops = stops_weaker in_cell is_digit (λ c. or_left (is_digit c) (c == 39)) x stops

-- and with no quote
ends_quote : (x : List ℕ) → Stops in_cell x → Stops is_quote x
ends_quote x stops = stops_weaker in_cell is_quote (λ c. or_right (is_digit c) (c == 39)) x stops

-- a text in a cell ends with a quote
text_after : (bytes x : List ℕ) → cell_text (Txt bytes) ++ x ≡ 39 ∷ (flat_map quoted_byte bytes ++ (39 ∷ x))
text_after bytes x = ap (λ z. 39 ∷ z) (append_assoc (flat_map quoted_byte bytes) (39 ∷ []) x)

-- a cell before what is in no cell
pub cell_told : Decodes CellInRange cell_text (Stops in_cell) (λ a b. a ≡ b)
cell_told (Num a) (Num b) x y good good' stops stops' e =
    let told = signed_told a b x y good good' (ends_number x stops) (ends_number y stops') e in
    (ap Num told.0, told.1)
cell_told (Num a) (Txt b) x y good good' stops stops' e =
    let first = starts_append begins_number (signed_decimal a) x (signed_starts a good) in
    absurd (starts_or_stops begins_number (signed_decimal a ++ x) (39 ∷ (flat_map quoted_byte b ++ (39 ∷ y))) first refl (e ∙ text_after b y))
cell_told (Txt a) (Num b) x y good good' stops stops' e =
    let first = starts_append begins_number (signed_decimal b) y (signed_starts b good') in
    absurd (starts_or_stops begins_number (signed_decimal b ++ y) (39 ∷ (flat_map quoted_byte a ++ (39 ∷ x))) first refl (sym e ∙ text_after a x))
cell_told (Txt a) (Txt b) x y good good' stops stops' e =
    let both : 39 ∷ (flat_map quoted_byte a ++ (39 ∷ x)) ≡ 39 ∷ (flat_map quoted_byte b ++ (39 ∷ y)) = sym (text_after a x) ∙ e ∙ text_after b y in
    let told = quoted_told a b x y (ends_quote x stops) (ends_quote y stops') (cc) in
    (ap Txt told.0, told.1)

-- what a cell begins with
abbrev begins_cell : ℕ → Bool
begins_cell c = begins_number c || c == 39

-- a number begins a cell
wider_start : (x : List ℕ) → Starts begins_number x → Starts begins_cell x
wider_start [] h = h
wider_start (c ∷ x) h = or_left (begins_number c) (c == 39) h

-- so does what is written of it
cell_starts : (cell : Cell) → CellInRange cell → Starts begins_cell (cell_text cell)
cell_starts (Num n) good = wider_start (signed_decimal n) (signed_starts n good)
cell_starts (Txt bytes) good = refl

-- a cell behind the first
abbrev next_cell : ℕ → Cell → List ℕ
next_cell _ cell = codes "|" ++ cell_text cell

-- the cells behind the first
abbrev next_cells : ℕ → List Cell → List ℕ
next_cells _ cells = flat_map (λ cell. codes "|" ++ cell_text cell) cells

-- these are one after another
next_cells_many : IsMany next_cell next_cells
next_cells_many = record { none = λ k. refl; more = λ k a xs. refl }

-- the bar is the same before each
next_told : (k : ℕ) → Decodes CellInRange (next_cell k) (Stops in_cell) (λ a b. a ≡ b)
next_told k a b x y good good' stops stops' e = cell_told a b x y good good' stops stops' (cc)

-- what follows a cell is a bar or the end of the row
cells_behind : (cells : List Cell) (x : List ℕ) → Stops in_row x → Stops in_cell (next_cells 0 cells ++ x)
cells_behind [] x end = stops_weaker in_row in_cell (λ c. or_left (in_cell c) (c == 124)) x end
cells_behind (c ∷ cells) x end = refl

-- the cells behind the first, up to the end of the row
cells_told : (xs ys : List Cell) (x y : List ℕ) → All CellInRange xs → All CellInRange ys → Stops in_row x → Stops in_row y
    → next_cells 0 xs ++ x ≡ next_cells 0 ys ++ y → (xs ≡ ys) × (x ≡ y)
cells_told xs ys x y good good' end end' e =
    let told = until_end CellInRange next_cell next_cells (Stops in_cell) (Stops in_row) (λ a b. a ≡ b) (λ c. c == 124) (length xs + length ys)
    next_cells_many next_told (λ k a within here. refl) (λ z stops. stops_weaker in_row (λ c. c == 124) (λ c. or_right (in_cell c) (c == 124)) z stops)
    (λ k cells z stops. cells_behind cells z stops) 0 xs ys x y (omega arith) (omega arith) good good' end end' e in
    (zip_equal xs ys told.0, told.1)

-- a row by its first cell
row_after : (cell : Cell) (cells : List Cell) (x : List ℕ) → row_line (cell ∷ cells) ++ x ≡ cell_text cell ++ (next_cells 0 cells ++ (10 ∷ x))
row_after cell cells x = simp append_assoc

-- a row, whatever follows it
pub row_told : Decodes RowInRange row_line Anything (λ a b. a ≡ b)
row_told [] [] x y good good' any any' e = (refl, cc)
row_told [] (d ∷ ds) x y good good' any any' e =
    let first = starts_append begins_cell (cell_text d) (next_cells 0 ds ++ (10 ∷ y)) (cell_starts d (All-head CellInRange d ds good')) in
    absurd (starts_or_stops begins_cell _ (10 ∷ x) first refl (sym (row_after d ds y) ∙ sym e))
row_told (c ∷ cs) [] x y good good' any any' e =
    let first = starts_append begins_cell (cell_text c) (next_cells 0 cs ++ (10 ∷ x)) (cell_starts c (All-head CellInRange c cs good)) in
    absurd (starts_or_stops begins_cell _ (10 ∷ y) first refl (sym (row_after c cs x) ∙ e))
row_told (c ∷ cs) (d ∷ ds) x y good good' any any' e =
    let first = cell_told c d (next_cells 0 cs ++ (10 ∷ x)) (next_cells 0 ds ++ (10 ∷ y)) (All-head CellInRange c cs good) (All-head CellInRange d ds good')
    (cells_behind cs (10 ∷ x) refl) (cells_behind ds (10 ∷ y) refl) (sym (row_after c cs x) ∙ e ∙ row_after d ds y) in
    let rest = cells_told cs ds (10 ∷ x) (10 ∷ y) (All-tail CellInRange c cs good) (All-tail CellInRange d ds good') refl refl first.1 in
    let cell : c ≡ d = first.0 in
    let cells : cs ≡ ds = rest.0 in
    let behind : 10 ∷ x ≡ 10 ∷ y = rest.1 in
    ((cc), (cc))

-- a row as the k-th item
abbrev line_of : ℕ → List Cell → List ℕ
line_of _ cells = row_line cells

-- and the rows
abbrev lines_of : ℕ → List (List Cell) → List ℕ
lines_of _ rows = flat_map row_line rows

-- these are one after another
lines_many : IsMany line_of lines_of
lines_many = record { none = λ k. refl; more = λ k a xs. refl }

-- as many rows
pub rows_told : (xs ys : List (List Cell)) (x y : List ℕ) → length xs ≡ length ys → All RowInRange xs → All RowInRange ys
    → flat_map row_line xs ++ x ≡ flat_map row_line ys ++ y → (xs ≡ ys) × (x ≡ y)
rows_told xs ys x y count good good' e =
    let told = by_count RowInRange line_of lines_of (λ a b. a ≡ b) lines_many (λ k. row_told) 0 xs ys x y count good good' e in
    (zip_equal xs ys told.0, told.1)
