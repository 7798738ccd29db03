-- A text that is printed part by part.
use Rattle.std.proofs.Common.{◌≡◌, ℕ, ◌+◌, ◌<◌, ◌≤◌, List, [], ◌∷◌, ◌++◌, length, get_or, take, drop, refl, sym, ap, subst, ◌∙◌, append_assoc}
use Rattle.std.specs.List.{All}
use Rattle.std.proofs.lemmas.List.{append-nil, take_all, drop_all, drop_more}
use Rattle.std.proofs.lemmas.List.Elements.{All-nil, All-more}
use Rattle.hv_io.specs.Bytes.{Seen}
use Rattle.hv_io.specs.Printing.{Printing, Prints}
use Rattle.hv_report.proofs.Decoding.{IsMany}

-- of the whole text all but the rest was printed
pub record PrintsBut (whole rest : List ℕ) (before : Seen) (old : Printing) (now : Seen) (printer : Printing) : Type 0 where
  pub front : List ℕ
  pub is_whole : front ++ rest ≡ whole
  pub prints : Prints front before old now printer

-- nothing was printed
pub prints_nothing : (before : Seen) (old : Printing) → Prints [] before old before old
prints_nothing before old start text h = rw append-nil h

pub printed_none : (whole : List ℕ) (before : Seen) (old : Printing) → PrintsBut whole whole before old before old
printed_none whole before old = record { front = []; is_whole = refl; prints = prints_nothing before old }

-- the next part was printed
pub printed_next : (whole rest part more : List ℕ) (before now after : Seen) (old printer new : Printing)
    → PrintsBut whole rest before old now printer → rest ≡ part ++ more → Prints part now printer after new → PrintsBut whole more before old after new
printed_next whole rest part more before now after old printer new s cut next = record {
  front = s.front ++ part;
  is_whole = append_assoc s.front part more ∙ ap (λ xs. s.front ++ xs) (sym cut) ∙ s.is_whole;
  prints = λ start text h. rw (← append_assoc text s.front part) (next start (text ++ s.front) (s.prints start text h));
}

-- nothing is left to print
pub printed_all : (whole rest : List ℕ) (before now : Seen) (old printer : Printing)
    → PrintsBut whole rest before old now printer → rest ≡ [] → Prints whole before old now printer
printed_all whole rest before now old printer s none =
    let all : s.front ≡ whole = sym (append-nil s.front) ∙ ap (λ xs. s.front ++ xs) (sym none) ∙ s.is_whole in
    rw all at s.prints

-- what was left was printed
pub printed_last : (whole rest last : List ℕ) (before now after : Seen) (old printer new : Printing)
    → PrintsBut whole rest before old now printer → rest ≡ last → Prints last now printer after new → Prints whole before old after new
printed_last whole rest last before now after old printer new s is next =
    printed_all whole [] before after old new (printed_next whole rest last [] before now after old printer new s (is ∙ sym (append-nil last)) next) refl

-- two parts one after the other
pub prints_two : (first second : List ℕ) (before now after : Seen) (old printer new : Printing)
    → Prints first before old now printer → Prints second now printer after new → Prints (first ++ second) before old after new
prints_two first second before now after old printer new one two start text h =
    rw (← append_assoc text first second) (two start (text ++ first) (one start text h))

-- the item at an index stands before those behind it
pub item_next : {X : Type 0} (xs : List X) (i : ℕ) (x : X) → i < length xs → x ≡ get_or xs i x → drop i xs ≡ x ∷ drop (i + 1) xs
item_next xs i x within is = drop_more xs i x within ∙ ap (λ y. y ∷ drop (i + 1) xs) (sym is)

-- items that are numbered from 1: those from an index on are left to print, and the numbers of those before it are in range
pub record ItemsPrinted {X : Type 0} (many : ℕ → List X → List ℕ) (Ranged : X → Type 0) (xs : List X) (i : ℕ) (before : Seen) (old : Printing) (now : Seen) (printer : Printing) : Type 0 where
  pub printed : PrintsBut (many 1 xs) (many (i + 1) (drop i xs)) before old now printer
  pub in_range : All Ranged (take i xs)

-- before the first one
pub none_printed : {X : Type 0} (many : ℕ → List X → List ℕ) (Ranged : X → Type 0) (xs : List X) (before : Seen) (old : Printing) → ItemsPrinted many Ranged xs 0 before old before old
none_printed many Ranged xs before old = record { printed = printed_none (many 1 xs) before old; in_range = All-nil Ranged }

-- the one at the index was printed
pub item_printed : {X : Type 0} (text : ℕ → X → List ℕ) (many : ℕ → List X → List ℕ) (Ranged : X → Type 0) (xs : List X) (i : ℕ) (x : X) (before now after : Seen) (old printer new : Printing)
    → IsMany text many → i < length xs → x ≡ get_or xs i x → ItemsPrinted many Ranged xs i before old now printer → Prints (text (i + 1) x) now printer after new → Ranged x
    → ItemsPrinted many Ranged xs (i + 1) before old after new
item_printed text many Ranged xs i x before now after old printer new is within at so_far next ranged = record {
  printed = printed_next (many 1 xs) (many (i + 1) (drop i xs)) (text (i + 1) x) (many (i + 1 + 1) (drop (i + 1) xs)) before now after old printer new so_far.printed
      (ap (many (i + 1)) (item_next xs i x within at) ∙ is.more (i + 1) x (drop (i + 1) xs)) next;
  in_range = All-more Ranged xs i x within so_far.in_range (subst Ranged at ranged);
}

-- behind the last one all are printed
pub items_printed : {X : Type 0} (text : ℕ → X → List ℕ) (many : ℕ → List X → List ℕ) (Ranged : X → Type 0) (xs : List X) (i : ℕ) (before now : Seen) (old printer : Printing)
    → IsMany text many → length xs ≤ i → ItemsPrinted many Ranged xs i before old now printer → Prints (many 1 xs) before old now printer
items_printed text many Ranged xs i before now old printer is past so_far =
    printed_all (many 1 xs) (many (i + 1) (drop i xs)) before now old printer so_far.printed (ap (many (i + 1)) (drop_all i xs past) ∙ is.none (i + 1))

-- and the numbers of all are in range
pub items_ranged : {X : Type 0} (many : ℕ → List X → List ℕ) (Ranged : X → Type 0) (xs : List X) (i : ℕ) (before now : Seen) (old printer : Printing)
    → length xs ≤ i → ItemsPrinted many Ranged xs i before old now printer → All Ranged xs
items_ranged many Ranged xs i before now old printer past so_far = subst (All Ranged) (take_all i xs past) so_far.in_range
