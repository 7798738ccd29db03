-- A place of a pool changes.
use Rattle.std.proofs.Common.{◌≡◌, ℕ, zero, suc, ◌+◌, ◌*◌, ◌%◌, ◌<◌, ◌≤◌, ◌^◌, Bool, true, false, cond, ◌&&◌, ◌||◌, nat_eq, if◌then◌else◌, List, [], ◌∷◌, map, length, get_or, set, refl, sym, ap, ◌∙◌, subst, arith, IsPermutation, Some, None, true≢false}
use Rattle.std.specs.Prelude.{All, IfSome}
use Rattle.std.specs.List.{sum_by, count_by, range_with_len}
use Rattle.std.proofs.Common.{◌-◌}
use Rattle.std.specs.Cmp.Lexicographic.{same_text}
use Rattle.std.proofs.Math.Seq.{map-set_same}
use Rattle.std.proofs.lemmas.Bool.{eqb-true, eq-eqb, lt-ltb}
use Rattle.std.proofs.lemmas.Nat.{and_le_l, mod_below, or_lt}
use Rattle.std.specs.Int.{w64, bit_not}
use Rattle.std.proofs.lemmas.List.{get_or-map, get_or-set_same, length-map, length-set}
use Rattle.std.proofs.lemmas.List.FromFn.{get_or-range_with_len, length-range_with_len}
use Rattle.std.proofs.lemmas.List.Elements.{All-set}
use Rattle.std.proofs.lemmas.List.Sums.{sum_by-cons, sum_by-le-sum_by}
use Rattle.std.proofs.lemmas.List.Sorted.{sum_by-IsPermutation, IsPermutation-refl, IsPermutation-cons, IsPermutation-trans, IsPermutation-middle}
use Rattle.hv_frames.specs.Frames.{Framed}
use Rattle.sha2.specs.Sha256.{sha256}
use Rattle.hv_pool.specs.declared.key.PageKey.{PageKey}
use Rattle.hv_pool.specs.declared.slot.Slot.{Slot}
use Rattle.hv_pool.specs.declared.slot.Held.{Held}
use Rattle.hv_pool.specs.declared.slot.Held.TheVariants as held
use Rattle.hv_pool.specs.Key.{same_key}
use Rattle.hv_pool.specs.declared.seen.Seen.{Seen}
use Rattle.hv_pool.specs.declared.seen.Seen.TheVariants as seen
use Rattle.std.proofs.Common.{nat_lt}
use Rattle.hv_pool.specs.Slots.{Pooled, IsPool, Holds, is_free, is_cached, is_reading, is_in_hand, is_open, is_numbered, is_away, IsAway, stands, under, seen_at, cached_at, in_hand_at, reading_at, with_wait, without_wait}
use Rattle.hv_pool.specs.Moves.{Moves, Arrives, returned, brings, notes, came_after, cached_as, freed, Takes, Asks, answer_of, started_by}
use Rattle.hv_pool.specs.declared.slot.Arrival.{Arrival}
use Rattle.hv_pool.specs.declared.slot.Arrival.TheVariants as arrival
use Rattle.hv_pool.specs.declared.seen.Ask.{Ask}
use Rattle.hv_pool.specs.declared.seen.Ask.TheVariants as ask
use Rattle.hv_pool.specs.Shape.{IsInOrder}
use denote.RawPtr.{Ptr}

-- the member at a place, what stands there now, and the others
pub split_at : {X : Type 0} (xs : List X) (n : ℕ) (x v : X) → n < length xs → x ≡ get_or xs n x → (rest : List X) × IsPermutation xs (x ∷ rest) × IsPermutation (set xs n v) (v ∷ rest)
split_at [] n x v within is = absurd (omega (arith, within))
split_at (y ∷ ys) zero x v within is = (ys, subst (λ z. IsPermutation (y ∷ ys) (z ∷ ys)) (sym is) (IsPermutation-refl (y ∷ ys)), IsPermutation-refl (v ∷ ys))
split_at (y ∷ ys) (suc n) x v within is =
    let r = split_at ys n x v (omega (arith, within)) is in (
      y ∷ r.0,
      IsPermutation-trans (y ∷ ys) (y ∷ x ∷ r.0) (x ∷ y ∷ r.0) (IsPermutation-cons y ys (x ∷ r.0) r.1) (IsPermutation-middle (y ∷ []) x r.0),
      IsPermutation-trans (y ∷ set ys n v) (y ∷ v ∷ r.0) (v ∷ y ∷ r.0) (IsPermutation-cons y (set ys n v) (v ∷ r.0) r.2) (IsPermutation-middle (y ∷ []) v r.0),
    )

pub weighed : {X : Type 0} (f : X → ℕ) (xs : List X) (x : X) (rest : List X) → IsPermutation xs (x ∷ rest) → sum_by f xs ≡ f x + sum_by f rest
weighed f xs x rest p = sym (sum_by-IsPermutation f xs (x ∷ rest) p) ∙ sum_by-cons f x rest

pub both : (a b : Bool) → a && b ≡ true → (a ≡ true) × (b ≡ true)
both true b e = (refl, e)
both false b e = absurd (true≢false (sym e))

pub key_alone : (a b : PageKey) → same_key a b ≡ true → a ≡ b
key_alone a b e =
    let p = both (nat_eq a.chunk b.chunk) _ e in
    let q = both (nat_eq a.page b.page) _ p.1 in
    let c : a.chunk ≡ b.chunk = eqb-true a.chunk b.chunk p.0 in
    let g : a.page ≡ b.page = eqb-true a.page b.page q.0 in
    let d : a.digest ≡ b.digest = same_text a.digest b.digest (sym q.1) in
    λ i. record { chunk = c i; page = g i; digest = d i }

-- one of them passes, at some place
abbrev pub Found : {X : Type 0} → (X → Bool) → List X → Type 0
Found {X} test xs = (n : ℕ) × (n < length xs) × ((d : X) → test (get_or xs n d) ≡ true)

pub find : {X : Type 0} (test : X → Bool) (xs : List X) → 0 < count_by test xs → Found test xs
find test [] h = absurd (omega (arith, h))
find {X} test (x ∷ xs) h = go (test x) refl (find test xs)
  where
    go : (b : Bool) → test x ≡ b → (0 < count_by test xs → Found test xs) → Found test (x ∷ xs)
    go true e more = (0, omega arith, λ d. e)
    go false e more = let r = more (omega (arith, h, sum_by-cons (λ y. cond (test y) 1 0) x xs, ap {B = ℕ} (λ z. cond z 1 0) e)) in (suc r.0, omega (arith, r.1), r.2)

-- where a frame that is away has its place
pub record Place (slots : List Slot) (n : ℕ) (s : Slot) : Type 0 where
  pub within : n < length slots
  pub number : s.number ≡ n
  pub stand : stands s.held ≡ true
  pub shut : is_open s ≡ false
  pub gone : (is_free s.held || is_cached s.held) ≡ false

away_is : (s : Slot) → is_reading s.held || is_in_hand s.held ≡ true → (stands s.held ≡ true) × (is_open s ≡ false) × ((is_free s.held || is_cached s.held) ≡ false)
away_is s e = go s.held refl
  where
    go : (h : Held) → s.held ≡ h → (stands s.held ≡ true) × (is_open s ≡ false) × ((is_free s.held || is_cached s.held) ≡ false)
    go held.Free q = absurd (true≢false (sym e ∙ ap (λ x. is_reading x || is_in_hand x) q))
    go held.Cached q = absurd (true≢false (sym e ∙ ap (λ x. is_reading x || is_in_hand x) q))
    go (held.Reading who) q = (ap stands q, ap (λ x. is_free x || (is_cached x && nat_eq s.waits 0)) q, ap (λ x. is_free x || is_cached x) q)
    go (held.InHand who) q = (ap stands q, ap (λ x. is_free x || (is_cached x && nat_eq s.waits 0)) q, ap (λ x. is_free x || is_cached x) q)

pub away_at : (owner : Ptr) (slots : List Slot) (came openings : ℕ) (n : ℕ) → IsInOrder owner slots came openings → 0 < count_by (is_away n) slots → (d : Slot) → Place slots n (get_or slots n d)
away_at owner slots came openings n o h d =
    let r = find (is_away n) slots h in
    let p = both (nat_eq (get_or slots r.0 d).number n) (is_reading (get_or slots r.0 d).held || is_in_hand (get_or slots r.0 d).held) (r.2 d) in
    let numbered : (get_or slots r.0 d).number ≡ r.0 = sym (get_or-map (λ (s : Slot). s.number) slots r.0 d 0 r.1) ∙ ap (λ l. get_or l r.0 0) o.placed ∙ get_or-range_with_len 0 (length slots) r.0 0 r.1 ∙ omega arith in
    let here : r.0 ≡ n = sym numbered ∙ eqb-true _ _ p.0 in
    let a = away_is (get_or slots r.0 d) p.1 in
    subst (λ (k : ℕ). Place slots n (get_or slots k d)) here (record { within = subst (λ (k : ℕ). k < length slots) here r.1; number = numbered ∙ here; stand = a.0; shut = a.1; gone = a.2 })

-- what is found where one passes
pub some_here : (slots : List Slot) (n : ℕ) (s : Slot) (test : Slot → Bool) → n < length slots → s ≡ get_or slots n s → test s ≡ true → 0 < count_by test slots
some_here slots n s test within is pass = let r = split_at slots n s s within is in omega (arith, weighed (λ x. cond (test x) 1 0) slots s r.0 r.1, ap {B = ℕ} (λ z. cond z 1 0) pass)

-- what is read at a place hangs on the place alone
pub get_or_any : {X : Type 0} (xs : List X) (n : ℕ) (x y : X) → n < length xs → get_or xs n x ≡ get_or xs n y
get_or_any [] n x y within = absurd (omega (arith, within))
get_or_any (z ∷ zs) zero x y within = refl
get_or_any (z ∷ zs) (suc n) x y within = get_or_any zs n x y (omega (arith, within))

pub no_slot : Slot
no_slot = record { number = 0; key = record { chunk = 0; page = 0; digest = [] }; held = held.Free; came = 0; waits = 0; formed = false; frame = None }

pub number_at : (slots : List Slot) (n k : ℕ) (d : Slot) → map (λ s. s.number) slots ≡ range_with_len 0 n → length slots ≡ n → k < length slots → (get_or slots k d).number ≡ k
number_at slots n k d numbers long within = sym (get_or-map (λ (s : Slot). s.number) slots k d 0 within) ∙ ap (λ l. get_or l k 0) numbers ∙ get_or-range_with_len 0 n k 0 (omega (arith, within, long)) ∙ omega arith

-- places in order have each number
pub every_number : (slots : List Slot) (n : ℕ) → map (λ s. s.number) slots ≡ range_with_len 0 n → (m : ℕ) → m < length slots → 0 < count_by (is_numbered m) slots
every_number slots n numbers m within =
    let long : length slots ≡ n = sym (length-map slots (λ s. s.number)) ∙ ap length numbers ∙ length-range_with_len 0 n in
    let s : Slot = get_or slots m no_slot in
    some_here slots m s (is_numbered m) within (get_or_any slots m no_slot s within) (eq-eqb s.number m (number_at slots n m no_slot numbers long within))

-- another frame's place at this number, which may stand under another key
pub put_any : (owner : Ptr) (slots : List Slot) (came later openings more n : ℕ) (old v : Slot) → IsInOrder owner slots came openings → n < length slots → old ≡ get_or slots n old → v.number ≡ old.number
    → ((k : PageKey) → count_by (under k) slots + cond (under k v) 1 0 ≤ 1 + cond (under k old) 1 0) → Holds owner v → more + cond (is_open old) 1 0 ≡ openings + cond (is_open v) 1 0 → IsInOrder owner (set slots n v) later more
put_any owner slots came later openings more n old v o within is number keys holds opens =
    let r = split_at slots n old v within is in
    let swap : (f : Slot → ℕ) → sum_by f (set slots n v) + f old ≡ sum_by f slots + f v = λ f. omega (arith, weighed f slots old r.0 r.1, weighed f (set slots n v) v r.0 r.2) in
    let placed : map (λ z. z.number) (set slots n v) ≡ range_with_len 0 (length (set slots n v)) = map-set_same (λ (s : Slot). s.number) slots n v old (number ∙ ap (λ (s : Slot). s.number) is) ∙ o.placed ∙ ap (range_with_len 0) (sym (length-set slots n v)) in
    record {
      pool = record {
        numbers = λ m. omega (arith, o.pool.numbers m, swap (λ s. cond (is_numbered m s) 1 0), ap {B = ℕ} (λ z. cond (nat_eq z m) 1 0) number);
        every = every_number (set slots n v) (length (set slots n v)) placed;
        keys = λ k. omega (arith, keys k, swap (λ s. cond (under k s) 1 0));
        holds = All-set (Holds owner) slots n v holds o.pool.holds;
      };
      placed = placed;
      counted = omega (arith, o.counted, swap (λ s. cond (is_open s) 1 0), opens);
      short = subst (λ (k : ℕ). k < 2 ^ 32) (sym (length-set slots n v)) o.short;
    }

-- where one passes only if the other does
pub fewer : (a c : Bool) → (a ≡ true → c ≡ true) → cond a 1 0 ≤ cond c 1 0
fewer false c h = omega arith
fewer true c h = omega (arith, ap {B = ℕ} (λ z. cond z 1 0) (h refl))

-- another frame's place at this number, which stands under no other key
pub put_order : (owner : Ptr) (slots : List Slot) (came later openings more n : ℕ) (old v : Slot) → IsInOrder owner slots came openings → n < length slots → old ≡ get_or slots n old → v.number ≡ old.number
    → ((k : PageKey) → under k v ≡ true → under k old ≡ true) → Holds owner v → more + cond (is_open old) 1 0 ≡ openings + cond (is_open v) 1 0 → IsInOrder owner (set slots n v) later more
put_order owner slots came later openings more n old v o within is number less holds opens =
    put_any owner slots came later openings more n old v o within is number (λ k. omega (arith, o.pool.keys k, fewer (under k v) (under k old) (less k))) holds opens

-- waits are a bit each of 64, with one more and with one less
more_narrow : (who waits : ℕ) → waits < 2 ^ 64 → with_wait who waits < 2 ^ 64
more_narrow who waits narrow = or_lt 64 waits (1 * 2 ^ who % 2 ^ 64) narrow (mod_below (1 * 2 ^ who) (2 ^ 64) (omega arith))

pub less_narrow : (who waits : ℕ) → waits < 2 ^ 64 → without_wait who waits < 2 ^ 64
less_narrow who waits narrow = omega (arith, narrow, and_le_l waits (bit_not w64 (1 * 2 ^ who % 2 ^ 64)))

-- what comes back to its place
pub returned_holds : (owner : Ptr) (away : Held → Bool) (formed : Bool) (key : PageKey) (frame : Framed) (came n : ℕ) (slots : List Slot) (s : Slot) → Place slots n s → frame.owner ≡ owner → frame.number ≡ n → s.waits < 2 ^ 64 → ((h : Held) → away h ≡ true → sha256 frame.bytes ≡ key.digest)
    → Holds owner (returned away formed key frame came s) × ((k : PageKey) → under k (returned away formed key frame came s) ≡ true → under k s ≡ true) × ((returned away formed key frame came s).number ≡ s.number)
returned_holds owner away formed key frame came n slots s p own number narrow digest = go (away s.held && same_key key s.key) refl
  where
    here : (f : Framed) × (Some frame ≡ Some f) × (f.owner ≡ owner) × (f.number ≡ s.number)
    here = (frame, refl, own, number ∙ sym p.number)

    go : (b : Bool) → away s.held && same_key key s.key ≡ b → Holds owner (if b then cached_as came formed frame s else freed frame s) × ((k : PageKey) → under k (if b then cached_as came formed frame s else freed frame s) ≡ true → under k s ≡ true) × ((if b then cached_as came formed frame s else freed frame s).number ≡ s.number)
    go true e = (
      record { here = λ q. here; away = λ q. absurd (true≢false q); true_page = λ q. digest s.held (both (away s.held) (same_key key s.key) e).0 ∙ ap (λ (k : PageKey). k.digest) (key_alone key s.key (both _ _ e).1); nobody = λ q. absurd (true≢false (sym q)); session = tt; narrow = narrow; noted = λ q. refl },
      λ k h. ap (λ z. z && same_key k s.key) p.stand ∙ h,
      refl,
    )
    go false e = (record { here = λ q. here; away = λ q. absurd (true≢false q); true_page = λ q. absurd (true≢false (sym q)); nobody = λ q. refl; session = tt; narrow = omega arith; noted = λ q. absurd (true≢false (sym q)) }, λ k h. absurd (true≢false (sym h)), refl)

pub at_place : (owner : Ptr) (slots : List Slot) (came openings : ℕ) (n : ℕ) (s : Slot) → IsInOrder owner slots came openings → 0 < count_by (is_away n) slots → s ≡ get_or slots n s → Place slots n s × Holds owner s
at_place owner slots came openings n s o h is =
    let p = away_at owner slots came openings n o h s in
    (subst (λ z. Place slots n z) (sym is) p, subst (λ z. Holds owner z) (sym is) (o.pool.holds n s p.within))

-- the order after a frame came back to its place
pub return_order : (owner : Ptr) (slots : List Slot) (came later openings more n : ℕ) (away : Held → Bool) (formed : Bool) (key : PageKey) (frame : Framed) (old v : Slot) → IsInOrder owner slots came openings → 0 < count_by (is_away n) slots → old ≡ get_or slots n old
    → v ≡ returned away formed key frame came old → frame.owner ≡ owner → frame.number ≡ n → ((h : Held) → away h ≡ true → sha256 frame.bytes ≡ key.digest) → more ≡ openings + cond (is_open v) 1 0 → IsInOrder owner (set slots n v) later more
return_order owner slots came later openings more n away formed key frame old v o h is v_is own number digest opens =
    let p = at_place owner slots came openings n old o h is in
    let r = returned_holds owner away formed key frame came n slots old p.0 own number p.1.narrow digest in
    put_order owner slots came later openings more n old v o p.0.within is (ap (λ (s : Slot). s.number) v_is ∙ r.2)
    (λ k u. r.1 k (subst (λ z. under k z ≡ true) v_is u)) (subst (λ z. Holds owner z) (sym v_is) r.0) (omega (arith, opens, ap {B = ℕ} (λ z. cond z 1 0) p.0.shut))

-- a frame came back to its place
pub returned_moves : (old new : Pooled) (openings n : ℕ) (away : Held → Bool) (formed : Bool) (key : PageKey) (frame : Framed) (s v : Slot) → IsInOrder old.owner old.slots old.came openings → 0 < count_by (is_away n) old.slots → s ≡ get_or old.slots n s
    → v ≡ returned away formed key frame old.came s → frame.number ≡ n → new.slots ≡ set old.slots n v → new.owner ≡ old.owner → (s.number ≡ frame.number) × Moves old new s (returned away formed key frame old.came s)
returned_moves old new openings n away formed key frame s v o h is v_is number slots owner =
    let p = at_place old.owner old.slots old.came openings n s o h is in
    let r = split_at old.slots n s v p.0.within is in (
      p.0.number ∙ sym number,
      record { rest = r.0; were = r.1; are = subst (λ (l : List Slot). IsPermutation l (returned away formed key frame old.came s ∷ r.0)) (sym slots) (subst (λ z. IsPermutation (set old.slots n v) (z ∷ r.0)) v_is r.2); owner = owner },
    )

pub arrives_to : (way : Arrival) (old new : Pooled) (openings n : ℕ) (key : PageKey) (frame : Framed) (s v : Slot) → IsInOrder old.owner old.slots old.came openings → 0 < count_by (is_away n) old.slots → s ≡ get_or old.slots n s → v ≡ returned (brings way) (notes way) key frame old.came s
    → frame.number ≡ n → new.slots ≡ set old.slots n v → new.owner ≡ old.owner → new.came ≡ came_after way old.came → Arrives way old key frame new
arrives_to arrival.Landed old new openings n key frame s v o h is v_is number slots owner came =
    let m = returned_moves old new openings n is_reading false key frame s v o h is v_is number slots owner in
    record { slot = s; number = m.0; change = m.1; came = came }
arrives_to (arrival.Back formed) old new openings n key frame s v o h is v_is number slots owner came =
    let m = returned_moves old new openings n is_in_hand formed key frame s v o h is v_is number slots owner in
    record { slot = s; number = m.0; change = m.1; came = came }
arrives_to arrival.Lost old new openings n key frame s v o h is v_is number slots owner came =
    let m = returned_moves old new openings n (λ x. false) false key frame s v o h is v_is number slots owner in
    record { slot = s; number = m.0; change = m.1; came = came }

-- what asks find
pub count_le : {X : Type 0} (test other : X → Bool) (xs : List X) → ((x : X) → test x ≡ true → other x ≡ true) → count_by test xs ≤ count_by other xs
count_le {X} test other xs h = sum_by-le-sum_by (λ x. cond (test x) 1 0) (λ x. cond (other x) 1 0) xs (λ x. go x (test x) refl)
  where
    go : (x : X) (b : Bool) → test x ≡ b → cond (test x) 1 0 ≤ cond (other x) 1 0
    go x true e = omega (arith, ap {B = ℕ} (λ z. cond z 1 0) e, ap {B = ℕ} (λ z. cond z 1 0) (h x e))
    go x false e = omega (arith, ap {B = ℕ} (λ z. cond z 1 0) e)

cached_stands : (h : Held) → is_cached h ≡ true → stands h ≡ true
cached_stands held.Free e = e
cached_stands held.Cached e = refl
cached_stands (held.Reading who) e = refl
cached_stands (held.InHand who) e = refl

reading_stands : (h : Held) → is_reading h ≡ true → stands h ≡ true
reading_stands held.Free e = e
reading_stands held.Cached e = refl
reading_stands (held.Reading who) e = refl
reading_stands (held.InHand who) e = refl

hand_stands : (h : Held) → is_in_hand h ≡ true → stands h ≡ true
hand_stands held.Free e = e
hand_stands held.Cached e = refl
hand_stands (held.Reading who) e = refl
hand_stands (held.InHand who) e = refl

with_key : (key : PageKey) (s : Slot) (test : Held → Bool) → ((h : Held) → test h ≡ true → stands h ≡ true) → test s.held && same_key key s.key ≡ true → under key s ≡ true
with_key key s test h e = let p = both (test s.held) (same_key key s.key) e in ap (λ z. z && same_key key s.key) (h s.held p.0) ∙ p.1

-- of a kind that the one place under the key isn't, there is none
none_other : (slots : List Slot) (n : ℕ) (s : Slot) (key : PageKey) (test : Held → Bool) → count_by (under key) slots ≤ 1 → n < length slots → s ≡ get_or slots n s → under key s ≡ true → ((h : Held) → test h ≡ true → stands h ≡ true) → test s.held ≡ false → count_by (λ x. test x.held && same_key key x.key) slots ≡ 0
none_other slots n s key test one within is mine h off =
    let r = split_at slots n s s within is in
    omega (
      arith,
      one,
      weighed (λ x. cond (under key x) 1 0) slots s r.0 r.1,
      ap {B = ℕ} (λ z. cond z 1 0) mine,
      weighed (λ x. cond (test x.held && same_key key x.key) 1 0) slots s r.0 r.1,
      ap {B = ℕ} (λ z. cond (z && same_key key s.key) 1 0) off,
      count_le (λ x. test x.held && same_key key x.key) (under key) r.0 (λ x e. with_key key x test h e),
    )

choose : Bool → Bool → Bool → Bool → Seen
choose a b c d = if a then seen.Hit else if b then seen.Busy else if c then seen.Reading else if d then seen.Start else seen.Full

seen_is : (p : Pooled) (key : PageKey) (a b c d : Bool) → nat_lt 0 (count_by (cached_at key) p.slots) ≡ a → nat_lt 0 (count_by (in_hand_at key) p.slots) ≡ b → nat_lt 0 (count_by (reading_at key) p.slots) ≡ c → nat_lt 0 (count_by is_open p.slots) ≡ d → seen_at p key ≡ choose a b c d
unfolding choose
seen_is p key a b c d ea eb ec ed =
    ap (λ z. if z then seen.Hit else if nat_lt 0 (count_by (in_hand_at key) p.slots) then seen.Busy else if nat_lt 0 (count_by (reading_at key) p.slots) then seen.Reading else if nat_lt 0 (count_by is_open p.slots) then seen.Start else seen.Full) ea
    ∙ ap (λ z. if a then seen.Hit else if z then seen.Busy else if nat_lt 0 (count_by (reading_at key) p.slots) then seen.Reading else if nat_lt 0 (count_by is_open p.slots) then seen.Start else seen.Full) eb
    ∙ ap (λ z. if a then seen.Hit else if b then seen.Busy else if z then seen.Reading else if nat_lt 0 (count_by is_open p.slots) then seen.Start else seen.Full) ec
    ∙ ap (λ z. choose a b c z) ed

zero_is : (n : ℕ) → n ≡ 0 → nat_lt 0 n ≡ false
zero_is n e = ap (nat_lt 0) e

pub seen_hit : (p : Pooled) (n : ℕ) (s : Slot) (key : PageKey) → n < length p.slots → s ≡ get_or p.slots n s → under key s ≡ true → s.held ≡ held.Cached → seen_at p key ≡ seen.Hit
unfolding choose
seen_hit p n s key within is mine held_is =
    let u = both (stands s.held) (same_key key s.key) mine in
    seen_is p key true _ _ _ (lt-ltb 0 _ (some_here p.slots n s (cached_at key) within is (ap (λ h. is_cached h && same_key key s.key) held_is ∙ u.1))) refl refl refl

seen_busy : (p : Pooled) (n : ℕ) (s : Slot) (key : PageKey) (who : ℕ) → count_by (under key) p.slots ≤ 1 → n < length p.slots → s ≡ get_or p.slots n s → under key s ≡ true → s.held ≡ held.InHand who → seen_at p key ≡ seen.Busy
unfolding choose
seen_busy p n s key who one within is mine held_is =
    let u = both (stands s.held) (same_key key s.key) mine in
    seen_is p key false true _ _ (zero_is _ (none_other p.slots n s key is_cached one within is mine cached_stands (ap is_cached held_is)))
    (lt-ltb 0 _ (some_here p.slots n s (in_hand_at key) within is (ap (λ h. is_in_hand h && same_key key s.key) held_is ∙ u.1))) refl refl

seen_reading : (p : Pooled) (n : ℕ) (s : Slot) (key : PageKey) (who : ℕ) → count_by (under key) p.slots ≤ 1 → n < length p.slots → s ≡ get_or p.slots n s → under key s ≡ true → s.held ≡ held.Reading who → seen_at p key ≡ seen.Reading
unfolding choose
seen_reading p n s key who one within is mine held_is =
    let u = both (stands s.held) (same_key key s.key) mine in
    seen_is p key false false true _ (zero_is _ (none_other p.slots n s key is_cached one within is mine cached_stands (ap is_cached held_is)))
    (zero_is _ (none_other p.slots n s key is_in_hand one within is mine hand_stands (ap is_in_hand held_is)))
    (lt-ltb 0 _ (some_here p.slots n s (reading_at key) within is (ap (λ h. is_reading h && same_key key s.key) held_is ∙ u.1))) refl

pub seen_none : (p : Pooled) (key : PageKey) → count_by (under key) p.slots ≡ 0 → (0 < count_by is_open p.slots → seen_at p key ≡ seen.Start) × (count_by is_open p.slots ≡ 0 → seen_at p key ≡ seen.Full)
unfolding choose
seen_none p key none =
    let of : (test : Held → Bool) → ((h : Held) → test h ≡ true → stands h ≡ true) → nat_lt 0 (count_by (λ x. test x.held && same_key key x.key) p.slots) ≡ false = λ test h. zero_is _ (omega (arith, none, count_le (λ x. test x.held && same_key key x.key) (under key) p.slots (λ x e. with_key key x test h e))) in (
      λ some. seen_is p key false false false true (of is_cached cached_stands) (of is_in_hand hand_stands) (of is_reading reading_stands) (lt-ltb 0 _ some),
      λ shut. seen_is p key false false false false (of is_cached cached_stands) (of is_in_hand hand_stands) (of is_reading reading_stands) (zero_is _ shut),
    )

set_same : {X : Type 0} (xs : List X) (n : ℕ) (x : X) → n < length xs → x ≡ get_or xs n x → set xs n x ≡ xs
set_same [] n x within is = absurd (omega (arith, within))
set_same (y ∷ ys) zero x within is = ap (λ z. z ∷ ys) is
set_same (y ∷ ys) (suc n) x within is = ap (λ z. y ∷ z) (set_same ys n x (omega (arith, within)) is)

-- the frame that stands in a place has its number and the owner
holds_frame : (owner : Ptr) (s : Slot) (frame : Framed) → Holds owner s → (is_free s.held || is_cached s.held) ≡ true → s.frame ≡ Some frame → (frame.owner ≡ owner) × (frame.number ≡ s.number)
holds_frame owner s frame h is e = let f = h.here is in subst (λ r. IfSome r (λ g. (g.owner ≡ owner) × (g.number ≡ s.number))) (sym f.1 ∙ e) (f.2, f.3)

open_here : (s : Slot) → is_open s ≡ true → (is_free s.held || is_cached s.held) ≡ true
open_here s e = go s.held refl
  where
    go : (h : Held) → s.held ≡ h → (is_free s.held || is_cached s.held) ≡ true
    go held.Free q = ap (λ x. is_free x || is_cached x) q
    go held.Cached q = ap (λ x. is_free x || is_cached x) q
    go (held.Reading who) q = absurd (true≢false (sym e ∙ ap (λ x. is_free x || (is_cached x && nat_eq s.waits 0)) q))
    go (held.InHand who) q = absurd (true≢false (sym e ∙ ap (λ x. is_free x || (is_cached x && nat_eq s.waits 0)) q))

-- a frame that is given is away
given_away : (owner : Ptr) (slots : List Slot) (came n : ℕ) (old v : Slot) (frame : Framed) → n < length slots → Holds owner old → (is_free old.held || is_cached old.held) ≡ true → old.frame ≡ Some frame
    → v.number ≡ old.number → is_reading v.held || is_in_hand v.held ≡ true → IsAway (record { owner = owner; slots = set slots n v; came = came }) frame
given_away owner slots came n old v frame within h is e number gone =
    let f = holds_frame owner old frame h is e in
    record {
      owner = f.0;
      away = some_here (set slots n v) n v (is_away frame.number) (omega (arith, within, length-set slots n v)) (sym (get_or-set_same slots n v v within))
          (ap (λ z. z && (is_reading v.held || is_in_hand v.held)) (eq-eqb v.number frame.number (number ∙ sym f.1)) ∙ gone);
    }

-- how a pool is left where an ask is so answered, and one place changes
abbrev pub Answered : Ptr → List Slot → ℕ → ℕ → PageKey → ℕ → Ask → List Slot → Type 0
Answered owner slots came less key who result later =
    IsInOrder owner later came less
    × Asks (record { owner = owner; slots = slots; came = came }) key who result (record { owner = owner; slots = later; came = came })
    × (answer_of result ≡ seen_at (record { owner = owner; slots = slots; came = came }) key)

-- an ask for a page that stands
takes_asks : (owner : Ptr) (slots : List Slot) (came openings n : ℕ) (key : PageKey) (who : ℕ) (old v : Slot) (result : Ask) → who < 64 → IsInOrder owner slots came openings → n < length slots → old ≡ get_or slots n old → under key old ≡ true → Takes old who result v → Answered owner slots came (openings - cond (is_open old) 1 0) key who result (set slots n v)
takes_asks owner slots came openings n key who old v (ask.Hit frame formed) session o within is mine t =
    let u = both (stands old.held) (same_key key old.key) mine in
    let r = split_at slots n old v within is in
    let shut : is_open v ≡ false = ap is_open t.2 in
    let h : Holds owner old = subst (λ z. Holds owner z) (sym is) (o.pool.holds n old within) in (
      put_order owner slots came came openings _ n old v o within is (ap (λ (s : Slot). s.number) t.2) (λ k e. ap (λ z. z && same_key k old.key) u.0 ∙ subst (λ z. under k z ≡ true) t.2 e)
          (subst (λ z. Holds owner z) (sym t.2) (record { here = λ q. absurd (true≢false (sym q)); away = λ q. refl; true_page = λ q. absurd (true≢false (sym q)); nobody = λ q. absurd (true≢false (sym q)); session = session; narrow = less_narrow who old.waits h.narrow; noted = λ q. refl }))
          (omega (arith, o.counted, weighed (λ s. cond (is_open s) 1 0) slots old r.0 r.1, ap {B = ℕ} (λ z. cond z 1 0) shut)),
      record {
        slot = old;
        is = t.0;
        named = sym (key_alone key old.key u.1);
        frame_is = t.1;
        noted = t.3;
        digest = subst (λ r. IfSome r (λ g. sha256 g.bytes ≡ old.key.digest)) t.1 (h.true_page (ap is_cached t.0)) ∙ ap (λ (k : PageKey). k.digest) (sym (key_alone key old.key u.1));
        away = given_away owner slots came n old v frame within h (ap (λ x. is_free x || is_cached x) t.0) t.1 (ap (λ (z : Slot). z.number) t.2) (ap (λ (z : Slot). is_reading z.held || is_in_hand z.held) t.2);
        change = record { rest = r.0; were = r.1; are = subst (λ z. IsPermutation (set slots n v) (z ∷ r.0)) t.2 r.2; owner = refl };
        came = refl;
      },
      sym (seen_hit (record { owner = owner; slots = slots; came = came }) n old key within is mine t.0),
    )
takes_asks owner slots came openings n key who old v (ask.Start frame) session o within is mine t = absurd t
takes_asks owner slots came openings n key who old v (ask.Reading other) session o within is mine t =
    let u = both (stands old.held) (same_key key old.key) mine in
    let r = split_at slots n old v within is in
    let h : Holds owner old = subst (λ z. Holds owner z) (sym is) (o.pool.holds n old within) in
    let shut_old : is_open old ≡ false = ap (λ x. is_free x || (is_cached x && nat_eq old.waits 0)) t.0 in
    let shut : is_open v ≡ false = ap is_open t.1 ∙ ap (λ x. is_free x || (is_cached x && nat_eq (with_wait who old.waits) 0)) t.0 in (
      put_order owner slots came came openings _ n old v o within is (ap (λ (s : Slot). s.number) t.1) (λ k e. subst (λ z. under k z ≡ true) t.1 e)
          (subst (λ z. Holds owner z) (sym t.1) (record { here = h.here; away = h.away; true_page = h.true_page; nobody = λ q. absurd (true≢false (sym q ∙ ap is_free t.0)); session = h.session; narrow = more_narrow who old.waits h.narrow; noted = h.noted }))
          (omega (arith, o.counted, ap {B = ℕ} (λ z. cond z 1 0) shut, ap {B = ℕ} (λ z. cond z 1 0) shut_old)),
      record { slot = old; is = t.0; named = sym (key_alone key old.key u.1); change = record { rest = r.0; were = r.1; are = subst (λ z. IsPermutation (set slots n v) (z ∷ r.0)) t.1 r.2; owner = refl }; came = refl },
      sym (seen_reading (record { owner = owner; slots = slots; came = came }) n old key other (o.pool.keys key) within is mine t.0),
    )
takes_asks owner slots came openings n key who old v (ask.Busy other) session o within is mine t =
    let u = both (stands old.held) (same_key key old.key) mine in
    let r = split_at slots n old old within is in
    let shut_old : is_open old ≡ false = ap (λ x. is_free x || (is_cached x && nat_eq old.waits 0)) t.0 in
    let same : set slots n v ≡ slots = ap (set slots n) t.1 ∙ set_same slots n old within is in (
      subst (λ l. IsInOrder owner l came (openings - cond (is_open old) 1 0)) (sym same) (subst (λ (k : ℕ). IsInOrder owner slots came k) (omega (arith, ap {B = ℕ} (λ z. cond z 1 0) shut_old)) o),
      record { same = ap (λ l. record { owner = owner; slots = l; came = came }) same; slot = old; rest = r.0; among = r.1; is = t.0; named = sym (key_alone key old.key u.1) },
      sym (seen_busy (record { owner = owner; slots = slots; came = came }) n old key other (o.pool.keys key) within is mine t.0),
    )
takes_asks owner slots came openings n key who old v (ask.Full frames) session o within is mine t = absurd t

-- the place that was found of those that were lent
abbrev pub FoundUnder : PageKey → List Slot → ℕ → Type 0
FoundUnder key slots n = (n < length slots) × ((d : Slot) → under key (get_or slots n d) ≡ true)

pub take_found : (owner : Ptr) (slots lent : List Slot) (came openings n : ℕ) (key : PageKey) (who : ℕ) (old v : Slot) (result : Ask) → who < 64 → IsInOrder owner slots came openings → lent ≡ slots → FoundUnder key lent n → old ≡ get_or slots n old → Takes old who result v
    → Answered owner slots came (openings - cond (is_open old) 1 0) key who result (set slots n v) × (n < length slots) × (under key old ≡ true)
take_found owner slots lent came openings n key who old v result session o same found is t =
    let there : FoundUnder key slots n = subst (λ (l : List Slot). FoundUnder key l n) same found in
    let mine : under key old ≡ true = subst (λ z. under key z ≡ true) (sym is) (there.1 old) in
    (takes_asks owner slots came openings n key who old v result session o there.0 is mine t, there.0, mine)

-- an ask that starts a read
start_asks : (owner : Ptr) (slots : List Slot) (came openings n : ℕ) (key : PageKey) (who : ℕ) (old v : Slot) (frame : Framed) → who < 64 → IsInOrder owner slots came openings → n < length slots → old ≡ get_or slots n old → count_by (under key) slots ≡ 0
    → is_open old ≡ true → All (λ s. is_open s ≡ true → old.came ≤ s.came) slots → old.frame ≡ Some frame → v ≡ started_by who key old
    → Answered owner slots came (openings - 1) key who (ask.Start frame) (set slots n v)
start_asks owner slots came openings n key who old v frame session o within is none opens least frame_is v_is =
    let r = split_at slots n old v within is in
    let shut : is_open v ≡ false = ap is_open v_is in (
      put_any owner slots came came openings _ n old v o within is (ap (λ (s : Slot). s.number) v_is) (λ k. keys k (same_key k key) refl)
          (subst (λ z. Holds owner z) (sym v_is) (record { here = λ q. absurd (true≢false (sym q)); away = λ q. refl; true_page = λ q. absurd (true≢false (sym q)); nobody = λ q. absurd (true≢false (sym q)); session = session; narrow = more_narrow who 0 (omega arith); noted = λ q. absurd (true≢false (sym q)) }))
          (omega (arith, o.counted, some_here slots n old is_open within is opens, ap {B = ℕ} (λ z. cond z 1 0) opens, ap {B = ℕ} (λ z. cond z 1 0) shut)),
      record {
        slot = old;
        is = opens;
        least = least;
        frame_is = frame_is;
        away = given_away owner slots came n old v frame within (subst (λ z. Holds owner z) (sym is) (o.pool.holds n old within)) (open_here old opens) frame_is (ap (λ (z : Slot). z.number) v_is) (ap (λ (z : Slot). is_reading z.held || is_in_hand z.held) v_is);
        change = record { rest = r.0; were = r.1; are = subst (λ z. IsPermutation (set slots n v) (z ∷ r.0)) v_is r.2; owner = refl };
        came = refl;
      },
      sym ((seen_none (record { owner = owner; slots = slots; came = came }) key none).0 (some_here slots n old is_open within is opens)),
    )
  where
    keys : (k : PageKey) (b : Bool) → same_key k key ≡ b → count_by (under k) slots + cond (under k v) 1 0 ≤ 1 + cond (under k old) 1 0
    keys k false e = omega (arith, o.pool.keys k, ap {B = ℕ} (λ z. cond (under k z) 1 0) v_is, ap {B = ℕ} (λ z. cond z 1 0) e)
    keys k true e = omega (arith, subst (λ z. count_by (under z) slots ≡ 0) (sym (key_alone k key e)) none, one (under k v))
      where
        one : (b : Bool) → cond b 1 0 ≤ 1
        one true = omega arith
        one false = omega arith

-- what is seen of a page that is being read or in a hand
pub look_found : (p : Pooled) (lent : List Slot) (n : ℕ) (s : Slot) (key : PageKey) → IsPool p → lent ≡ p.slots → FoundUnder key lent n → s ≡ get_or p.slots n s → ((who : ℕ) → s.held ≡ held.Reading who → seen_at p key ≡ seen.Reading) × ((who : ℕ) → s.held ≡ held.InHand who → seen_at p key ≡ seen.Busy)
look_found p lent n s key pool same found is =
    let there : FoundUnder key p.slots n = subst (λ (l : List Slot). FoundUnder key l n) same found in
    let mine : under key s ≡ true = subst (λ z. under key z ≡ true) (sym is) (there.1 s) in
    (λ who e. seen_reading p n s key who (pool.keys key) there.0 is mine e, λ who e. seen_busy p n s key who (pool.keys key) there.0 is mine e)

-- the place that may be taken first of those that were lent
abbrev pub FoundOpen : List Slot → ℕ → Type 0
FoundOpen slots n = (n < length slots) × ((d : Slot) → (is_open (get_or slots n d) ≡ true) × All (λ s. is_open s ≡ true → (get_or slots n d).came ≤ s.came) slots)

pub start_found : (owner : Ptr) (slots lent again : List Slot) (came openings n : ℕ) (key : PageKey) (who : ℕ) (old v : Slot) (frame : Framed) → who < 64 → IsInOrder owner slots came openings → lent ≡ slots → count_by (under key) lent ≡ 0 → again ≡ slots → FoundOpen again n → old ≡ get_or slots n old → old.frame ≡ Some frame → v ≡ started_by who key old
    → Answered owner slots came (openings - 1) key who (ask.Start frame) (set slots n v)
start_found owner slots lent again came openings n key who old v frame session o same none twice found is frame_is v_is =
    let there : FoundOpen slots n = subst (λ (l : List Slot). FoundOpen l n) twice found in
    start_asks owner slots came openings n key who old v frame session o there.0 is (subst (λ (l : List Slot). count_by (under key) l ≡ 0) same none)
    (subst (λ z. is_open z ≡ true) (sym is) (there.1 old).0) (subst (λ (z : Slot). All (λ s. is_open s ≡ true → z.came ≤ s.came) slots) (sym is) (there.1 old).1) frame_is v_is

-- what is read at a place is one thing
pub read_twice : {X : Type 0} (xs : List X) (n : ℕ) (x y : X) → n < length xs → x ≡ get_or xs n x → y ≡ get_or xs n y → x ≡ y
read_twice [] n x y within ex ey = absurd (omega (arith, within))
read_twice (z ∷ zs) zero x y within ex ey = ex ∙ sym ey
read_twice (z ∷ zs) (suc n) x y within ex ey = read_twice zs n x y (omega (arith, within)) ex ey
