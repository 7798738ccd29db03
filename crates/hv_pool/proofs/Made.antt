-- The places of a pool that is made, and of one that ends.
use Rattle.std.proofs.Common.{◌≡◌, ℕ, zero, suc, ◌+◌, ◌-◌, ◌<◌, ◌≤◌, ◌^◌, ◌⊎◌, inl, inr, ap₂, Bool, true, false, cond, ◌||◌, ◌&&◌, nat_eq, List, [], ◌∷◌, ◌++◌, map, length, get_or, set, refl, sym, ap, ◌∙◌, subst, arith, IsPermutation, Some, None, true≢false, option_to_list, ◌*◌, ◌%◌}
use Rattle.std.specs.Prelude.{All, IfSome}
use Rattle.std.specs.declared.option.Option.{Option}
use Rattle.std.specs.List.{count_by, range_with_len}
use Rattle.std.proofs.lemmas.Bool.{cases_eq, cases_lt, eqb-true, eqb-false, eq-eqb, ne_eqb}
use Rattle.std.proofs.lemmas.Nat.{and_le_l}
use Rattle.std.proofs.lemmas.Nat.Bits.{bit_at_clear_same, bit_at_clear_other, bit_at_and, bit_at_above, bit_at-lt, same_from_bits}
use Rattle.std.proofs.Math.Seq.{map-set_same}
use Rattle.std.proofs.lemmas.List.{append_assoc, append-nil, length-map, get_or-map, get_or-set_same}
use Rattle.std.specs.Int.{w64, bit_not, bit_at}
use lib.Bits.{and_zero_l}
use Rattle.std.proofs.lemmas.List.FromFn.{length-range_with_len, get_or-range_with_len}
use Rattle.std.proofs.lemmas.List.Elements.{All-cons, All-head, All-tail, All-map, All-set}
use Rattle.std.proofs.lemmas.List.Sums.{sum_by-append, sum_by-cons, sum_by-set}
use Rattle.std.proofs.lemmas.List.Sorted.{sum_by-IsPermutation, length_permutation, All-permutation, IsPermutation-refl, IsPermutation-sym, IsPermutation-trans, IsPermutation-middle, IsPermutation-append_right, IsPermutation-map, IsPermutation-to_front}
use Rattle.hv_frames.specs.Frames.{Framed, AreAll}
use Rattle.hv_pool.specs.declared.slot.Slot.{Slot}
use Rattle.hv_pool.specs.declared.slot.Held.{Held}
use Rattle.hv_pool.specs.declared.slot.Held.TheVariants as held
use Rattle.hv_pool.specs.Key.{same_key}
use Rattle.hv_pool.specs.Slots.{is_free, is_cached, is_reading, is_in_hand, is_open, is_gone, is_numbered, stands, under, waits_bit, without_wait, IsWithSession, Holds}
use Rattle.hv_pool.specs.Shape.{IsInOrder}
use Rattle.hv_pool.specs.Made.{here, AreOfOne, IsFresh, IsFilled, empty_slot, owner_of}
use Rattle.hv_pool.proofs.Places.{less_narrow, get_or_any, number_at, every_number, split_at, weighed}
use Rattle.std.proofs.lemmas.List.Concat.{flat_map-append}
use denote.RawPtr.{Ptr}
use Rattle.hv_pool.specs.Moves.{moved, forgotten}

-- a frame put into an empty place is one more
pub here_set : (slots : List Slot) (n : ℕ) (d v : Slot) (frame : Framed) → n < length slots → (get_or slots n d).frame ≡ None → v.frame ≡ Some frame → IsPermutation (frame ∷ here slots) (here (set slots n v))
here_set [] n d v frame within none is = absurd (omega (arith, within))
here_set (y ∷ ys) zero d v frame within none is =
    subst (λ z. IsPermutation (frame ∷ (option_to_list z ++ here ys)) (option_to_list v.frame ++ here ys)) (sym none)
    (subst (λ z. IsPermutation (frame ∷ here ys) (option_to_list z ++ here ys)) (sym is) (IsPermutation-refl (frame ∷ here ys)))
here_set (y ∷ ys) (suc n) d v frame within none is =
    let p = option_to_list y.frame in
    IsPermutation-trans (frame ∷ (p ++ here ys)) (p ++ frame ∷ here ys) (p ++ here (set ys n v))
    (IsPermutation-sym (p ++ frame ∷ here ys) (frame ∷ (p ++ here ys)) (IsPermutation-middle p frame (here ys)))
    (IsPermutation-append_right p (frame ∷ here ys) (here (set ys n v)) (here_set ys n d v frame (omega (arith, within)) none is))

-- what stands in a place is here
pub here_counts : (test : Framed → Bool) (slots : List Slot) (n : ℕ) (d : Slot) (frame : Framed) → n < length slots → (get_or slots n d).frame ≡ Some frame → test frame ≡ true → 0 < count_by test (here slots)
here_counts test [] n d frame within is pass = absurd (omega (arith, within))
here_counts test (y ∷ ys) zero d frame within is pass =
    subst (λ z. 0 < count_by test (option_to_list z ++ here ys)) (sym is) (omega (arith, sum_by-cons (λ f. cond (test f) 1 0) frame (here ys), ap {B = ℕ} (λ z. cond z 1 0) pass))
here_counts test (y ∷ ys) (suc n) d frame within is pass =
    omega (arith, here_counts test ys n d frame (omega (arith, within)) is pass, sum_by-append (λ f. cond (test f) 1 0) (option_to_list y.frame) (here ys))

-- a number stands once among those counted up
none_below : (m a n : ℕ) → m < a → count_by (λ k. nat_eq k m) (range_with_len a n) ≡ 0
none_below m a zero below = refl
none_below m a (suc n) below = go (nat_eq a m) refl (none_below m (a + 1) n (omega (arith, below)))
  where
    go : (b : Bool) → nat_eq a m ≡ b → count_by (λ k. nat_eq k m) (range_with_len (a + 1) n) ≡ 0 → count_by (λ k. nat_eq k m) (a ∷ range_with_len (a + 1) n) ≡ 0
    go true e rest = absurd (omega (arith, below, eqb-true a m e))
    go false e rest = omega (arith, sum_by-cons (λ k. cond (nat_eq k m) 1 0) a (range_with_len (a + 1) n), ap {B = ℕ} (λ z. cond z 1 0) e, rest)

once : (m a n : ℕ) → count_by (λ k. nat_eq k m) (range_with_len a n) ≤ 1
once m a zero = omega arith
once m a (suc n) = go (nat_eq a m) refl (once m (a + 1) n)
  where
    go : (b : Bool) → nat_eq a m ≡ b → count_by (λ k. nat_eq k m) (range_with_len (a + 1) n) ≤ 1 → count_by (λ k. nat_eq k m) (a ∷ range_with_len (a + 1) n) ≤ 1
    go true e rest = omega (arith, sum_by-cons (λ k. cond (nat_eq k m) 1 0) a (range_with_len (a + 1) n), ap {B = ℕ} (λ z. cond z 1 0) e, none_below m (a + 1) n (omega (arith, eqb-true a m e)))
    go false e rest = omega (arith, sum_by-cons (λ k. cond (nat_eq k m) 1 0) a (range_with_len (a + 1) n), ap {B = ℕ} (λ z. cond z 1 0) e, rest)

count_map : {X : Type 0} (of : X → ℕ) (m : ℕ) (xs : List X) → count_by (λ x. nat_eq (of x) m) xs ≡ count_by (λ k. nat_eq k m) (map of xs)
count_map of m [] = refl
count_map of m (x ∷ xs) = omega (arith, count_map of m xs, sum_by-cons (λ y. cond (nat_eq (of y) m) 1 0) x xs, sum_by-cons (λ k. cond (nat_eq k m) 1 0) (of x) (map of xs))

-- places numbered in order have each number once
pub numbers_once : (slots : List Slot) (n m : ℕ) → map (λ s. s.number) slots ≡ range_with_len 0 n → count_by (λ s. nat_eq s.number m) slots ≤ 1
numbers_once slots n m numbers = omega (arith, count_map (λ s. s.number) m slots, ap (count_by (λ k. nat_eq k m)) numbers, once m 0 n)

pub length_numbers : (slots : List Slot) (n : ℕ) → map (λ s. s.number) slots ≡ range_with_len 0 n → length slots ≡ n
length_numbers slots n numbers = sym (length-map slots (λ s. s.number)) ∙ ap length numbers ∙ length-range_with_len 0 n

-- the frame that is taken off, before the others
moved_out : (orig gs hs : List Framed) (frame : Framed) → IsPermutation orig ((gs ++ frame ∷ []) ++ hs) → IsPermutation orig (frame ∷ (gs ++ hs))
moved_out orig gs hs frame p = IsPermutation-trans orig (gs ++ frame ∷ hs) (frame ∷ (gs ++ hs)) (subst (λ z. IsPermutation orig z) (append_assoc gs (frame ∷ []) hs) p) (IsPermutation-middle gs frame hs)

numbers_below : (a n : ℕ) → All (λ k. k < a + n) (range_with_len a n)
numbers_below a n = λ k d within. omega (arith, get_or-range_with_len a n k d (omega (arith, within, length-range_with_len a n)), within, length-range_with_len a n)

pub count_is : (frames : List Framed) (o : AreOfOne frames) → o.owned.count ≡ length frames
count_is frames o = sym (length-range_with_len 0 o.owned.count) ∙ sym (length_permutation _ _ o.all.numbered) ∙ length-map frames (λ f. f.number)

below : (frames : List Framed) → AreOfOne frames → All (λ f. f.number < length frames) frames
below frames o = λ k d within.
    let all = All-permutation (λ m. m < 0 + o.owned.count) (range_with_len 0 o.owned.count) (map (λ f. f.number) frames) o.all.numbered (numbers_below 0 o.owned.count) in
    omega (arith, all k 0 (omega (arith, within, length-map frames (λ f. f.number))), get_or-map (λ (f : Framed). f.number) frames k d 0 within, count_is frames o)

frames_once : (frames : List Framed) (m : ℕ) → AreOfOne frames → count_by (λ f. nat_eq f.number m) frames ≤ 1
frames_once frames m o = omega (arith, count_map (λ f. f.number) m frames, sum_by-IsPermutation (λ k. cond (nat_eq k m) 1 0) _ _ o.all.numbered, once m 0 o.owned.count)

-- the frame that is taken off has a place
pub place_fits : (frames gs : List Framed) (slots : List Slot) (frame : Framed) (n : ℕ) → AreOfOne frames → map (λ s. s.number) slots ≡ range_with_len 0 (length frames) → IsPermutation frames ((gs ++ frame ∷ []) ++ here slots) → n ≡ frame.number → n < length slots
place_fits frames gs slots frame n o numbers among is =
    let b = All-head (λ (f : Framed). f.number < length frames) frame (gs ++ here slots) (All-permutation (λ (f : Framed). f.number < length frames) frames (frame ∷ (gs ++ here slots)) (moved_out frames gs (here slots) frame among) (below frames o)) in
    omega (arith, b, is, length_numbers slots (length frames) numbers)

-- and no frame stands there yet
pub place_empty : (frames gs : List Framed) (slots : List Slot) (frame : Framed) (n : ℕ) (d : Slot) → AreOfOne frames → map (λ s. s.number) slots ≡ range_with_len 0 (length frames) → All IsFresh slots → IsPermutation frames ((gs ++ frame ∷ []) ++ here slots) → n ≡ frame.number → (get_or slots n d).frame ≡ None
place_empty frames gs slots frame n d o numbers fresh among is = go (get_or slots n d).frame refl
  where
    within : n < length slots
    within = place_fits frames gs slots frame n o numbers among is

    test : Framed → Bool
    test f = nat_eq f.number n

    go : (r : Option Framed) → (get_or slots n d).frame ≡ r → (get_or slots n d).frame ≡ None
    go None e = e
    go (Some f) e =
        let same : f.number ≡ n = subst (λ r. IfSome r (λ g. g.number ≡ (get_or slots n d).number)) e (fresh n d within).frame ∙ number_at slots (length frames) n d numbers (length_numbers slots (length frames) numbers) within in
        absurd (omega (
          arith,
          here_counts test slots n d f within e (eq-eqb f.number n same),
          frames_once frames n o,
          sum_by-IsPermutation (λ g. cond (test g) 1 0) frames (frame ∷ (gs ++ here slots)) (moved_out frames gs (here slots) frame among),
          sum_by-cons (λ g. cond (test g) 1 0) frame (gs ++ here slots),
          sum_by-append (λ g. cond (test g) 1 0) gs (here slots),
          ap {B = ℕ} (λ z. cond z 1 0) (eq-eqb frame.number n (sym is)),
        ))

-- what is so of the places while frames are put into them
pub record Filling (frames left : List Framed) (slots : List Slot) : Type 0 where
  pub numbers : map (λ s. s.number) slots ≡ range_with_len 0 (length frames)
  pub fresh : All IsFresh slots
  pub among : IsPermutation frames (left ++ here slots)

pub fill_more : (frames gs : List Framed) (slots : List Slot) (frame : Framed) (n : ℕ) (d v : Slot) → AreOfOne frames → Filling frames (gs ++ frame ∷ []) slots → n ≡ frame.number
    → v ≡ moved (get_or slots n d) (get_or slots n d).key (get_or slots n d).held (get_or slots n d).came (get_or slots n d).waits (get_or slots n d).formed (Some frame) → Filling frames gs (set slots n v)
fill_more frames gs slots frame n d v o f is v_is =
    let within = place_fits frames gs slots frame n o f.numbers f.among is in
    let empty : (get_or slots n d).frame ≡ None = place_empty frames gs slots frame n d o f.numbers f.fresh f.among is in
    let old : IsFresh (get_or slots n d) = f.fresh n d within in
    let number : (get_or slots n d).number ≡ n = number_at slots (length frames) n d f.numbers (length_numbers slots (length frames) f.numbers) within in
    let again : get_or slots n d ≡ get_or slots n (get_or slots n d) = get_or_any slots n d (get_or slots n d) within in
    record {
      numbers = map-set_same (λ (z : Slot). z.number) slots n v (get_or slots n d) (ap (λ (z : Slot). z.number) v_is ∙ ap (λ (z : Slot). z.number) again) ∙ f.numbers;
      fresh = All-set IsFresh slots n v (subst IsFresh (sym v_is) (record { held = old.held; came = old.came; waits = old.waits; formed = old.formed; frame = sym is ∙ sym number })) f.fresh;
      among = IsPermutation-trans frames (frame ∷ (gs ++ here slots)) (gs ++ here (set slots n v)) (moved_out frames gs (here slots) frame f.among)
          (IsPermutation-trans (frame ∷ (gs ++ here slots)) (gs ++ frame ∷ here slots) (gs ++ here (set slots n v))
          (IsPermutation-sym (gs ++ frame ∷ here slots) (frame ∷ (gs ++ here slots)) (IsPermutation-middle gs frame (here slots)))
          (IsPermutation-append_right gs (frame ∷ here slots) (here (set slots n v)) (here_set slots n d v frame within empty (ap (λ (z : Slot). z.frame) v_is))));
    }

empty_numbers : (ns : List ℕ) → map (λ (s : Slot). s.number) (map empty_slot ns) ≡ ns
empty_numbers [] = refl
empty_numbers (n ∷ ns) = ap (λ z. n ∷ z) (empty_numbers ns)

empty_here : (ns : List ℕ) → here (map empty_slot ns) ≡ []
empty_here [] = refl
empty_here (n ∷ ns) = empty_here ns

pub fill_none : (frames : List Framed) (slots : List Slot) → slots ≡ map empty_slot (range_with_len 0 (length frames)) → Filling frames frames slots
fill_none frames slots is = subst (λ z. Filling frames frames z) (sym is) (record {
  numbers = empty_numbers (range_with_len 0 (length frames));
  fresh = All-map IsFresh empty_slot (range_with_len 0 (length frames)) (λ k d within. record { held = refl; came = refl; waits = refl; formed = refl; frame = tt });
  among = subst (λ z. IsPermutation frames (frames ++ z)) (sym (empty_here (range_with_len 0 (length frames)))) (subst (λ z. IsPermutation frames z) (sym (append-nil frames)) (IsPermutation-refl frames));
})

-- each place has a frame where there are as many frames as places
here_le : (slots : List Slot) → length (here slots) ≤ length slots
here_le [] = omega arith
here_le (y ∷ ys) = go y.frame (here_le ys)
  where
    go : (r : Option Framed) → length (here ys) ≤ length ys → length (option_to_list r ++ here ys) ≤ length (y ∷ ys)
    go None rest = omega (arith, rest)
    go (Some f) rest = omega (arith, rest)

-- the frame of a place
abbrev pub FrameAt : List Slot → ℕ → Slot → Type 0
FrameAt slots n d = (f : Framed) × ((get_or slots n d).frame ≡ Some f)

all_here : (slots : List Slot) (n : ℕ) (d : Slot) → length (here slots) ≡ length slots → n < length slots → FrameAt slots n d
all_here [] n d full within = absurd (omega (arith, within))
all_here (y ∷ ys) n d full within = go y.frame refl n within (λ k e. all_here ys k d e)
  where
    go : (r : Option Framed) → y.frame ≡ r → (k : ℕ) → k < length (y ∷ ys) → ((m : ℕ) → length (here ys) ≡ length ys → m < length ys → FrameAt ys m d) → FrameAt (y ∷ ys) k d
    go None e k inside rest = absurd (omega (arith, full, ap (λ z. length (option_to_list z ++ here ys)) e, here_le ys))
    go (Some f) e zero inside rest = (f, e)
    go (Some f) e (suc k) inside rest = rest k (omega (arith, full, ap (λ z. length (option_to_list z ++ here ys)) e)) (omega (arith, inside))

-- what is so of all frames here is so of the frame of a place
pub at_here : (P : Framed → Type 0) (slots : List Slot) (n : ℕ) (d : Slot) (frame : Framed) → All P (here slots) → n < length slots → (get_or slots n d).frame ≡ Some frame → P frame
at_here P [] n d frame all within is = absurd (omega (arith, within))
at_here P (y ∷ ys) zero d frame all within is = All-head P frame (here ys) (subst (λ z. All P (option_to_list z ++ here ys)) is all)
at_here P (y ∷ ys) (suc n) d frame all within is = at_here P ys n d frame (go y.frame all) (omega (arith, within)) is
  where
    go : (r : Option Framed) → All P (option_to_list r ++ here ys) → All P (here ys)
    go None h = h
    go (Some f) h = All-tail P f (here ys) h

-- and so the other way
to_here : (P : Framed → Type 0) (slots : List Slot) → All (λ s. (f : Framed) × (s.frame ≡ Some f) × P f) slots → All P (here slots)
to_here P [] all = λ k d within. absurd (omega (arith, within))
to_here P (y ∷ ys) all =
    let h = All-head (λ (s : Slot). (f : Framed) × (s.frame ≡ Some f) × P f) y ys all in
    subst (λ z. All P (option_to_list z ++ here ys)) (sym h.1) (All-cons P h.0 (here ys) h.2 (to_here P ys (All-tail (λ (s : Slot). (f : Framed) × (s.frame ≡ Some f) × P f) y ys all)))

all_pass : {X : Type 0} (test : X → Bool) (xs : List X) → All (λ x. test x ≡ true) xs → count_by test xs ≡ length xs
all_pass test [] all = refl
all_pass {X} test (x ∷ xs) all = omega (arith, sum_by-cons (λ y. cond (test y) 1 0) x xs, ap {B = ℕ} (λ z. cond z 1 0) (All-head (λ (y : X). test y ≡ true) x xs all), all_pass test xs (All-tail (λ (y : X). test y ≡ true) x xs all))

pub none_pass : {X : Type 0} (test : X → Bool) (xs : List X) → All (λ x. test x ≡ false) xs → count_by test xs ≡ 0
none_pass test [] all = refl
none_pass {X} test (x ∷ xs) all = omega (arith, sum_by-cons (λ y. cond (test y) 1 0) x xs, ap {B = ℕ} (λ z. cond z 1 0) (All-head (λ (y : X). test y ≡ false) x xs all), none_pass test xs (All-tail (λ (y : X). test y ≡ false) x xs all))

none_passes : {X : Type 0} (test : X → Bool) (xs : List X) → count_by test xs ≡ 0 → All (λ x. test x ≡ false) xs
none_passes test [] none = λ k d within. absurd (omega (arith, within))
none_passes {X} test (x ∷ xs) none = All-cons (λ (y : X). test y ≡ false) x xs (go (test x) refl) (none_passes test xs (omega (arith, none, sum_by-cons (λ y. cond (test y) 1 0) x xs)))
  where
    go : (b : Bool) → test x ≡ b → test x ≡ false
    go false e = e
    go true e = absurd (omega (arith, none, sum_by-cons (λ y. cond (test y) 1 0) x xs, ap {B = ℕ} (λ z. cond z 1 0) e))

owner_same : (frames : List Framed) → AreOfOne frames → All (λ f. f.owner ≡ owner_of frames) frames
owner_same [] o = λ k d within. absurd (omega (arith, within))
owner_same (f ∷ fs) o = λ k d within. o.all.are_its k d within ∙ sym (All-head (λ (g : Framed). g.owner ≡ o.owned.name) f fs o.all.are_its)

-- the places of a pool that is made are in order
pub filled_order : (frames : List Framed) (slots : List Slot) → AreOfOne frames → IsFilled frames slots → IsInOrder (owner_of frames) slots 1 (length slots)
filled_order frames slots o f =
    let long : length slots ≡ length frames = length_numbers slots (length frames) f.numbers in
    let full : length (here slots) ≡ length slots = length_permutation frames (here slots) f.among ∙ sym long in
    let own : All (λ g. g.owner ≡ owner_of frames) (here slots) = All-permutation (λ g. g.owner ≡ owner_of frames) frames (here slots) f.among (owner_same frames o) in
    record {
      pool = record {
        numbers = λ m. numbers_once slots (length frames) m f.numbers;
        every = every_number slots (length frames) f.numbers;
        keys = λ key. omega (arith, none_pass (under key) slots (λ k d within. ap (λ h. stands h && same_key key (get_or slots k d).key) (f.fresh k d within).held));
        holds = λ k d within.
            let s = get_or slots k d in
            let here_is = all_here slots k d full within in
            let g = f.fresh k d within in
            record {
              here = λ q. (here_is.0, here_is.1, at_here (λ z. z.owner ≡ owner_of frames) slots k d here_is.0 own within here_is.1, subst (λ r. IfSome r (λ z. z.number ≡ s.number)) here_is.1 g.frame);
              away = λ q. absurd (true≢false (sym (ap (λ h. is_free h || is_cached h) g.held) ∙ q));
              true_page = λ q. absurd (true≢false (sym q ∙ ap is_cached g.held));
              nobody = λ q. g.waits;
              session = subst IsWithSession (sym g.held) tt;
              narrow = omega (arith, g.waits);
              noted = λ q. absurd (true≢false (sym q ∙ g.formed));
            };
      };
      placed = f.numbers ∙ ap (range_with_len 0) (sym long);
      counted = sym (all_pass is_open slots (λ k d within. ap (λ h. is_free h || (is_cached h && nat_eq (get_or slots k d).waits 0)) (f.fresh k d within).held));
      short = omega (arith, long, count_is frames o, o.count);
    }

-- no frame is away, so each place has its own
pub at_home : (owner : Ptr) (slots : List Slot) (came openings : ℕ) → IsInOrder owner slots came openings → count_by is_gone slots ≡ 0 → All (λ s. (f : Framed) × (s.frame ≡ Some f) × ((f.owner ≡ owner) × (f.number ≡ s.number))) slots
at_home owner slots came openings o none = λ k d within.
    let h = (o.pool.holds k d within).here (go (get_or slots k d).held (none_passes is_gone slots none k d within)) in
    (h.0, h.1, (h.2, h.3))
  where
    go : (h : Held) → is_reading h || is_in_hand h ≡ false → (is_free h || is_cached h) ≡ true
    go held.Free e = refl
    go held.Cached e = refl
    go (held.Reading who) e = absurd (true≢false e)
    go (held.InHand who) e = absurd (true≢false e)

numbers_here : (owner : Ptr) (slots : List Slot) → All (λ s. (f : Framed) × (s.frame ≡ Some f) × ((f.owner ≡ owner) × (f.number ≡ s.number))) slots → map (λ f. f.number) (here slots) ≡ map (λ s. s.number) slots
numbers_here owner [] all = refl
numbers_here owner (y ∷ ys) all =
    let h = All-head (λ (s : Slot). (f : Framed) × (s.frame ≡ Some f) × ((f.owner ≡ owner) × (f.number ≡ s.number))) y ys all in
    let t = numbers_here owner ys (All-tail (λ (s : Slot). (f : Framed) × (s.frame ≡ Some f) × ((f.owner ≡ owner) × (f.number ≡ s.number))) y ys all) in
    ap (λ z. map (λ (f : Framed). f.number) (option_to_list z ++ here ys)) h.1 ∙ ap (λ z. h.0.number ∷ z) t ∙ ap (λ z. z ∷ map (λ (s : Slot). s.number) ys) h.2.1

-- the frames of a pool that ends are all of its owner's
pub ends_all : (owner : Ptr) (slots : List Slot) (came openings : ℕ) (frames : List Framed) → IsInOrder owner slots came openings → count_by is_gone slots ≡ 0 → IsPermutation (here slots) frames → AreAll (record { name = owner; count = length slots }) frames
ends_all owner slots came openings frames o none same =
    let home = at_home owner slots came openings o none in
    record {
      are_its = All-permutation (λ f. f.owner ≡ owner) (here slots) frames same (to_here (λ f. f.owner ≡ owner) slots (λ k d within. let h = home k d within in (h.0, h.1, h.2.0)));
      numbered = subst (λ l. IsPermutation l (map (λ f. f.number) frames)) (numbers_here owner slots home ∙ o.placed) (IsPermutation-map (λ f. f.number) (here slots) frames same);
    }

-- a frame goes from the last place to the list
pub goes_out : (all room : List Framed) (slots : List Slot) (s : Slot) (frame : Framed) → s.frame ≡ Some frame → IsPermutation all (room ++ here (slots ++ s ∷ [])) → IsPermutation all ((room ++ frame ∷ []) ++ here slots)
goes_out all room slots s frame is p =
    let last : here (slots ++ s ∷ []) ≡ here slots ++ frame ∷ [] = flat_map-append (λ (z : Slot). option_to_list z.frame) slots (s ∷ []) ∙ ap (λ z. here slots ++ (option_to_list z ++ [])) is in
    IsPermutation-trans all (room ++ (here slots ++ frame ∷ [])) ((room ++ frame ∷ []) ++ here slots) (subst (λ z. IsPermutation all (room ++ z)) last p)
    (subst (λ z. IsPermutation (room ++ (here slots ++ frame ∷ [])) z) (sym (append_assoc room (frame ∷ []) (here slots)))
    (IsPermutation-append_right room (here slots ++ frame ∷ []) (frame ∷ here slots) (IsPermutation-to_front (here slots) frame)))

-- what doesn't look at waits counts the same where waits end
pub count_forgotten : (who : ℕ) (test : Slot → Bool) (xs : List Slot) → ((s : Slot) → test (forgotten who s) ≡ test s) → count_by test (map (forgotten who) xs) ≡ count_by test xs
count_forgotten who test [] same = refl
count_forgotten who test (x ∷ xs) same = omega (arith, sum_by-cons (λ y. cond (test y) 1 0) x xs, sum_by-cons (λ y. cond (test y) 1 0) (forgotten who x) (map (forgotten who) xs), ap {B = ℕ} (λ z. cond z 1 0) (same x), count_forgotten who test xs same)

-- where the waits of a session end, each place stands as it stood
pub forgets_order : (owner : Ptr) (slots : List Slot) (came openings more : ℕ) (who : ℕ) → IsInOrder owner slots came openings → more ≡ count_by is_open (map (forgotten who) slots) → IsInOrder owner (map (forgotten who) slots) came more
forgets_order owner slots came openings more who o opens =
    let long = length-map slots (forgotten who) in
    record {
      pool = record {
        every = every_number (map (forgotten who) slots) (length slots) (numbers_forgotten who slots ∙ o.placed);
        numbers = λ m. omega (arith, o.pool.numbers m, count_forgotten who (is_numbered m) slots (λ s. refl));
        keys = λ key. omega (arith, o.pool.keys key, count_forgotten who (under key) slots (λ s. refl));
        holds = All-map (Holds owner) (forgotten who) slots (λ k d within. let h = o.pool.holds k d within in
            record { here = h.here; away = h.away; true_page = h.true_page; nobody = λ q. ap (without_wait who) (h.nobody q) ∙ and_zero_l (bit_not w64 (1 * 2 ^ who % 2 ^ 64)); session = h.session; narrow = less_narrow who _ h.narrow; noted = h.noted });
      };
      placed = numbers_forgotten who slots ∙ o.placed ∙ ap (range_with_len 0) (sym long);
      counted = opens;
      short = omega (arith, o.short, long);
    }
  where
    numbers_forgotten : (who : ℕ) (xs : List Slot) → map (λ (s : Slot). s.number) (map (forgotten who) xs) ≡ map (λ (s : Slot). s.number) xs
    numbers_forgotten who [] = refl
    numbers_forgotten who (x ∷ xs) = ap (λ z. x.number ∷ z) (numbers_forgotten who xs)

-- a wait that doesn't stand may end
pub forgotten_same : (who : ℕ) (s : Slot) → who < 64 → s.waits < 2 ^ 64 → waits_bit who s.waits ≡ false → forgotten who s ≡ s
forgotten_same who s within narrow off = ap (λ (w : ℕ). moved s s.key s.held s.came w s.formed s.frame) (same_from_bits (without_wait who s.waits) s.waits (λ i. go i (cases_eq i who)))
  where
    ends : bit_at s.waits who ≡ 0
    ends = omega (arith, eqb-false (bit_at s.waits who) 1 off, bit_at-lt s.waits who)

    above : (i : ℕ) → (i < 64) ⊎ (64 ≤ i)
    above i = cases_lt i 64

    go : (i : ℕ) → (i ≡ who) ⊎ (i ≡ who → ⊥) → bit_at (without_wait who s.waits) i ≡ bit_at s.waits i
    go i (inl e) = subst (λ (k : ℕ). bit_at (without_wait who s.waits) k ≡ bit_at s.waits k) (sym e) (bit_at_clear_same w64 s.waits who within ∙ sym ends)
    go i (inr ne) = side (above i)
      where
        side : (i < 64) ⊎ (64 ≤ i) → bit_at (without_wait who s.waits) i ≡ bit_at s.waits i
        side (inl low) = bit_at_clear_other w64 s.waits who within i low ne
        side (inr high) = omega (arith, bit_at_and s.waits (bit_not w64 (1 * 2 ^ who % 2 ^ 64)) i, bit_at_above s.waits 64 i narrow high)

-- it ends once
pub forgotten_twice : (who : ℕ) (s : Slot) → who < 64 → s.waits < 2 ^ 64 → forgotten who (forgotten who s) ≡ forgotten who s
forgotten_twice who s within narrow = forgotten_same who (forgotten who s) within (omega (arith, narrow, and_le_l s.waits (bit_not w64 (1 * 2 ^ who % 2 ^ 64)))) (ne_eqb (bit_at (without_wait who s.waits) who) 1 (λ q. absurd (omega (arith, q, bit_at_clear_same w64 s.waits who within))))

-- one more wait ends
pub forget_more : (who : ℕ) (first xs : List Slot) (n : ℕ) (d v : Slot) → who < 64 → n < length xs → (get_or xs n d).waits < 2 ^ 64 → v ≡ forgotten who (get_or xs n d) → map (forgotten who) xs ≡ map (forgotten who) first → map (forgotten who) (set xs n v) ≡ map (forgotten who) first
forget_more who first xs n d v within inside narrow v_is same =
    map-set_same (forgotten who) xs n v (get_or xs n d)
    (ap (forgotten who) v_is ∙ forgotten_twice who (get_or xs n d) within narrow ∙ ap (forgotten who) (get_or_any xs n d (get_or xs n d) inside))
    ∙ same

-- the frames that may be taken are counted
pub forget_counted : (xs : List Slot) (n left before after : ℕ) (d e v : Slot) → n < length xs → left ≡ count_by is_open xs → before ≡ cond (is_open (get_or xs n d)) 1 0 → after ≡ cond (is_open (get_or (set xs n v) n e)) 1 0 → left - before + after ≡ count_by is_open (set xs n v)
forget_counted xs n left before after d e v inside counted before_is after_is =
    let s : Slot = get_or xs n d in
    let r = split_at xs n s v inside (get_or_any xs n d s inside) in
    omega (
      arith,
      counted,
      before_is,
      after_is,
      weighed (λ x. cond (is_open x) 1 0) xs s r.0 r.1,
      weighed (λ x. cond (is_open x) 1 0) (set xs n v) v r.0 r.2,
      ap {B = ℕ} (λ (x : Slot). cond (is_open x) 1 0) (get_or-set_same xs n v e inside),
    )

-- and fewer waits of the session are left
pub forget_fewer : (who : ℕ) (xs : List Slot) (n : ℕ) (d e v : Slot) → who < 64 → n < length xs → waits_bit who (get_or xs n d).waits ≡ true → v ≡ forgotten who (get_or xs n e) → count_by (λ s. waits_bit who s.waits) (set xs n v) < count_by (λ s. waits_bit who s.waits) xs
forget_fewer who xs n d e v within inside waits v_is =
    omega (
      arith,
      sum_by-set (λ s. cond (waits_bit who s.waits) 1 0) xs n v d inside,
      ap {B = ℕ} (λ z. cond z 1 0) waits,
      ap {B = ℕ} (λ (s : Slot). cond (waits_bit who s.waits) 1 0) v_is,
      ap {B = ℕ} (λ (b : ℕ). cond (nat_eq b 1) 1 0) (bit_at_clear_same w64 (get_or xs n e).waits who within),
    )

-- where no wait of the session stands, all have ended
pub forget_done : (who : ℕ) (first xs : List Slot) → who < 64 → All (λ s. waits_bit who s.waits ≡ false) xs → ((n : ℕ) (d : Slot) → n < length xs → (get_or xs n d).waits < 2 ^ 64) → map (forgotten who) xs ≡ map (forgotten who) first → xs ≡ map (forgotten who) first
forget_done who first xs within off narrow same = sym (none xs off narrow) ∙ same
  where
    none : (ys : List Slot) → All (λ s. waits_bit who s.waits ≡ false) ys → ((n : ℕ) (d : Slot) → n < length ys → (get_or ys n d).waits < 2 ^ 64) → map (forgotten who) ys ≡ ys
    none [] a b = refl
    none (y ∷ ys) a b =
        ap₂ (λ z zs. z ∷ zs) (forgotten_same who y within (b 0 y (omega arith)) (All-head (λ (s : Slot). waits_bit who s.waits ≡ false) y ys a))
        (none ys (All-tail (λ (s : Slot). waits_bit who s.waits ≡ false) y ys a) (λ n d below. b (suc n) d (omega (arith, below))))
