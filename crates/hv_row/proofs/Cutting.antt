-- Bytes cut at the ends of their rows.
use Rattle.std.proofs.Common.{◌≡◌, ℕ, zero, suc, ◌-◌, ◌<◌, ◌≤◌, List, [], ◌∷◌, ◌++◌, length, get_or, take, drop, map, refl, sym, ap, subst, ◌∙◌, arith}
use Rattle.std.specs.List.{AllByRecursion}
use Rattle.std.proofs.lemmas.List.{take-append-le, drop-append-le, drop_at, take_all, length-append, length-drop, length-map, map-append, get_or-map}
use Rattle.hv_row.specs.declared.value.Value.{Value}
use Rattle.hv_row.specs.declared.schema.Column.{Column}
use Rattle.hv_row.specs.Row.{RowFits, row_bytes}
use Rattle.hv_row.specs.Spelling.{IsSpelling}
use Rattle.hv_row.specs.Packed.{Packed, row_spelled, with_row, cut, start_of, AreEnds, ArePacked}
use Rattle.hv_row.proofs.Spelled.{row_again, spelling_fits, spelling_bytes, row_is_spelling}

pub length_cut : (from : ℕ) (bytes ends : List ℕ) → length (cut from bytes ends) ≡ length ends
length_cut from bytes [] = refl
length_cut from bytes (to ∷ ends) = omega (arith, length_cut to bytes ends)

ends_within : (from : ℕ) (ends : List ℕ) (last : ℕ) → AreEnds from ends last → from ≤ last
ends_within from [] last are = omega (arith, are)
ends_within from (to ∷ ends) last are = omega (arith, are.0, ends_within to ends last are.1)

-- ---- one piece more

ends_more : (from : ℕ) (ends : List ℕ) (last more : ℕ) → AreEnds from ends last → last ≤ more → AreEnds from (ends ++ more ∷ []) more
ends_more from [] last more are le = (omega (arith, are), refl)
ends_more from (to ∷ ends) last more are le = (are.0, ends_more to ends last more are.1 le)

last_piece : (from : ℕ) (bytes entry : List ℕ) → from ≡ length bytes → take (length (bytes ++ entry) - from) (drop from (bytes ++ entry)) ≡ entry
last_piece from bytes entry same =
    let behind : drop from (bytes ++ entry) ≡ entry = drop_at bytes entry from (sym same) in
    ap (take (length (bytes ++ entry) - from)) behind ∙ take_all (length (bytes ++ entry) - from) entry (omega (arith, same, length-append bytes entry))

cut_more : (from : ℕ) (bytes ends entry : List ℕ) → AreEnds from ends (length bytes) → cut from (bytes ++ entry) (ends ++ length (bytes ++ entry) ∷ []) ≡ cut from bytes ends ++ entry ∷ []
cut_more from bytes [] entry are = ap (λ (x : List ℕ). x ∷ []) (last_piece from bytes entry are)
cut_more from bytes (to ∷ ends) entry are =
    let within : to ≤ length bytes = ends_within to ends (length bytes) are.1 in
    let front : drop from (bytes ++ entry) ≡ drop from bytes ++ entry = drop-append-le from bytes entry (omega (arith, within, are.0)) in
    let same : take (to - from) (drop from (bytes ++ entry)) ≡ take (to - from) (drop from bytes) =
    ap (take (to - from)) front ∙ take-append-le (to - from) (drop from bytes) entry (omega (arith, within, are.0, length-drop from bytes)) in
    ap (λ (x : List ℕ). x ∷ cut to (bytes ++ entry) (ends ++ length (bytes ++ entry) ∷ [])) same
    ∙ ap (λ (x : List (List ℕ)). take (to - from) (drop from bytes) ∷ x) (cut_more to bytes ends entry are.1)

all_more : (schema : List Column) (pieces : List (List ℕ)) (piece : List ℕ) → AllByRecursion (IsSpelling schema) pieces → IsSpelling schema piece → AllByRecursion (IsSpelling schema) (pieces ++ piece ∷ [])
all_more schema [] piece all one = (one, tt)
all_more schema (_ ∷ pieces) piece all one = (all.0, all_more schema pieces piece all.1 one)

-- bytes behind the others, and their end
pub packed_more : (schema : List Column) (bytes ends entry more more_ends : List ℕ) → ArePacked schema bytes ends → IsSpelling schema entry → more ≡ bytes ++ entry → more_ends ≡ ends ++ length more ∷ [] → ArePacked schema more more_ends
packed_more schema bytes ends entry more more_ends packed spelling same same_ends =
    let all = bytes ++ entry in
    let same_all : more_ends ≡ ends ++ length all ∷ [] = same_ends ∙ ap (λ (x : List ℕ). ends ++ length x ∷ []) same in
    let whole : AreEnds 0 (ends ++ length all ∷ []) (length all) = ends_more 0 ends (length bytes) (length all) packed.whole (omega (arith, length-append bytes entry)) in
    let each : AllByRecursion (IsSpelling schema) (cut 0 all (ends ++ length all ∷ [])) = subst (AllByRecursion (IsSpelling schema)) (sym (cut_more 0 bytes ends entry packed.whole)) (all_more schema (cut 0 bytes ends) entry packed.each spelling) in
    let of_all : ArePacked schema all (ends ++ length all ∷ []) = record { whole = whole; each = each } in
    rw (same, same_all) of_all

-- so there is one row more
pub rows_more : (schema : List Column) (bytes ends entry more more_ends : List ℕ) → ArePacked schema bytes ends → more ≡ bytes ++ entry → more_ends ≡ ends ++ length more ∷ []
    → map (row_spelled schema) (cut 0 more more_ends) ≡ map (row_spelled schema) (cut 0 bytes ends) ++ row_spelled schema entry ∷ []
rows_more schema bytes ends entry more more_ends packed same same_ends =
    let all = bytes ++ entry in
    let same_all : more_ends ≡ ends ++ length all ∷ [] = same_ends ∙ ap (λ (x : List ℕ). ends ++ length x ∷ []) same in
    ap (λ (x : List ℕ). map (row_spelled schema) (cut 0 x more_ends)) same
    ∙ ap (λ (x : List ℕ). map (row_spelled schema) (cut 0 all x)) same_all
    ∙ ap (map (row_spelled schema)) (cut_more 0 bytes ends entry packed.whole)
    ∙ map-append (row_spelled schema) (cut 0 bytes ends) (entry ∷ [])

-- what packed rows show
abbrev pub shown : List Column → List ℕ → List ℕ → Packed
shown schema bytes ends = record { schema = schema; rows = map (row_spelled schema) (cut 0 bytes ends) }

pub shown_more : (schema : List Column) (bytes ends entry more more_ends : List ℕ) (packed : Packed) → ArePacked schema bytes ends → shown schema bytes ends ≡ packed → more ≡ bytes ++ entry → more_ends ≡ ends ++ length more ∷ []
    → shown schema more more_ends ≡ with_row packed (row_spelled packed.schema entry)
shown_more schema bytes ends entry more more_ends packed are view same same_ends =
    subst (λ (p : Packed). shown schema more more_ends ≡ with_row p (row_spelled p.schema entry)) view
    (ap (λ (rows : List (List Value)). record { schema = schema; rows = rows }) (rows_more schema bytes ends entry more more_ends are same same_ends))

-- a row that fits, by its bytes
pub shown_row : (schema : List Column) (bytes ends : List ℕ) (row : List Value) (more more_ends : List ℕ) (packed : Packed) → ArePacked schema bytes ends → shown schema bytes ends ≡ packed → RowFits packed.schema row → more ≡ bytes ++ row_bytes schema row → more_ends ≡ ends ++ length more ∷ []
    → shown schema more more_ends ≡ with_row packed row
shown_row schema bytes ends row more more_ends packed are view fits same same_ends =
    let own : row_bytes schema row ≡ row_bytes packed.schema row = ap (λ (p : Packed). row_bytes p.schema row) view in
    shown_more schema bytes ends (row_bytes schema row) more more_ends packed are view same same_ends
    ∙ ap (λ (entry : List ℕ). with_row packed (row_spelled packed.schema entry)) own
    ∙ ap (with_row packed) (row_again packed.schema row fits)

pub fits_shown : (schema : List Column) (bytes ends : List ℕ) (row : List Value) (packed : Packed) → shown schema bytes ends ≡ packed → RowFits packed.schema row → IsSpelling schema (row_bytes schema row)
fits_shown schema bytes ends row packed view fits = row_is_spelling schema row (subst (λ (p : Packed). RowFits p.schema row) (sym view) fits)

pub spelling_shown : (schema : List Column) (bytes ends entry : List ℕ) (packed : Packed) → shown schema bytes ends ≡ packed → IsSpelling packed.schema entry → IsSpelling schema entry
spelling_shown schema bytes ends entry packed view is = subst (λ (p : Packed). IsSpelling p.schema entry) (sym view) is

-- ---- the piece at a place

pub record IsPiece (schema : List Column) (bytes ends : List ℕ) (from place : ℕ) (piece : List ℕ) : Type 0 where
  pub starts : start_of from ends place ≤ get_or ends place 0
  pub stops : get_or ends place 0 ≤ length bytes
  pub spelling : IsSpelling schema piece
  pub is : get_or (cut from bytes ends) place [] ≡ piece

-- the bytes from where it starts to where it ends
abbrev pub piece_of : ℕ → List ℕ → List ℕ → ℕ → List ℕ
piece_of from bytes ends place = take (get_or ends place 0 - start_of from ends place) (drop (start_of from ends place) bytes)

start_next : (from to : ℕ) (ends : List ℕ) (place : ℕ) → start_of to ends place ≡ start_of from (to ∷ ends) (suc place)
start_next from to ends zero = refl
start_next from to ends (suc place) = refl

piece_at : (schema : List Column) (bytes ends : List ℕ) (from place : ℕ) → AreEnds from ends (length bytes) → AllByRecursion (IsSpelling schema) (cut from bytes ends) → place < length ends → IsPiece schema bytes ends from place (piece_of from bytes ends place)
piece_at schema bytes [] from place are all lt = absurd (omega arith)
piece_at schema bytes (to ∷ ends) from zero are all lt = record { starts = are.0; stops = ends_within to ends (length bytes) are.1; spelling = all.0; is = refl }
piece_at schema bytes (to ∷ ends) from (suc place) are all lt =
    let later = piece_at schema bytes ends to place are.1 all.1 (omega arith) in
    let start = start_next from to ends place in
    let same : piece_of to bytes ends place ≡ piece_of from bytes (to ∷ ends) (suc place) = ap (λ (n : ℕ). take (get_or ends place 0 - n) (drop n bytes)) start in
    record { starts = omega (arith, later.starts, start); stops = later.stops; spelling = subst (IsSpelling schema) same later.spelling; is = later.is ∙ same }

-- these bytes are a row's
pub record IsOfRow (schema : List Column) (row : List Value) (bytes : List ℕ) : Type 0 where
  pub same : bytes ≡ row_bytes schema row
  pub fits : RowFits schema row
  pub spelling : IsSpelling schema bytes
  pub spelled : row_spelled schema bytes ≡ row

of_row : (schema : List Column) (bytes : List ℕ) (row : List Value) → IsSpelling schema bytes → row_spelled schema bytes ≡ row → IsOfRow schema row bytes
of_row schema bytes row spelling spelled = record {
  same = spelling_bytes schema bytes spelling ∙ ap (row_bytes schema) spelled;
  fits = subst (RowFits schema) spelled (spelling_fits schema bytes spelling);
  spelling = spelling;
  spelled = spelled;
}

-- where the bytes of a row stand
pub record IsFound (packed : Packed) (bytes ends : List ℕ) (place : ℕ) : Type 0 where
  pub starts : start_of 0 ends place ≤ get_or ends place 0
  pub stops : get_or ends place 0 ≤ length bytes
  pub row : IsOfRow packed.schema (get_or packed.rows place []) (piece_of 0 bytes ends place)

-- as many rows as ends
pub count_rows : (schema : List Column) (bytes ends : List ℕ) (packed : Packed) → shown schema bytes ends ≡ packed → length packed.rows ≡ length ends
count_rows schema bytes ends packed view = ap (λ (p : Packed). length p.rows) (sym view) ∙ length-map (cut 0 bytes ends) (row_spelled schema) ∙ length_cut 0 bytes ends

pub found_row : (schema : List Column) (bytes ends : List ℕ) (packed : Packed) (place : ℕ) → ArePacked schema bytes ends → shown schema bytes ends ≡ packed → place < length packed.rows → IsFound packed bytes ends place
found_row schema bytes ends packed place are view lt =
    let short : place < length ends = omega (arith, count_rows schema bytes ends packed view) in
    let piece = piece_at schema bytes ends 0 place are.whole are.each short in
    let within : place < length (cut 0 bytes ends) = omega (arith, length_cut 0 bytes ends) in
    let row = get_or-map (row_spelled schema) (cut 0 bytes ends) place [] [] within ∙ ap (row_spelled schema) piece.is in
    subst (λ (p : Packed). IsFound p bytes ends place) view (record { starts = piece.starts; stops = piece.stops; row = of_row schema (piece_of 0 bytes ends place) _ piece.spelling (sym row) })

-- the bytes of the row at a place
pub row_here : (schema : List Column) (bytes ends : List ℕ) (packed : Packed) (place : ℕ) (part : List ℕ) → ArePacked schema bytes ends → shown schema bytes ends ≡ packed → place < length packed.rows → part ≡ piece_of 0 bytes ends place
    → IsOfRow packed.schema (get_or packed.rows place []) part
row_here schema bytes ends packed place part are view lt is =
    subst (IsOfRow packed.schema (get_or packed.rows place [])) (sym is) (found_row schema bytes ends packed place are view lt).row
