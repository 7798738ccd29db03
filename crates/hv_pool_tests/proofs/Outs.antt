-- Frames go out of a pool, and come back.
use Rattle.std.proofs.Common.{◌≡◌, ◌<◌, ◌≤◌, ℕ, zero, suc, Bool, true, false, cond, ◌&&◌, ◌||◌, nat_eq, if◌then◌else◌, List, [], ◌∷◌, ◌++◌, length, get_or, refl, sym, ap, ◌∙◌, subst, arith, true≢false, IsPermutation, Some, None, replicate}
use Rattle.std.specs.Prelude.{All, IfSome}
use Rattle.std.specs.List.{count_by, range_with_len}
use Rattle.std.proofs.lemmas.Bool.{eq-eqb}
use Rattle.std.proofs.lemmas.List.{length-append, length-map}
use Rattle.std.proofs.lemmas.List.FromFn.{length-range_with_len}
use Rattle.std.specs.declared.option.Option.{Option}
use Rattle.std.proofs.lemmas.List.Elements.{All-head, All-tail, All-cons, All-push, All-pop, All-map}
use Rattle.std.proofs.lemmas.List.Sums.{sum_by-append, sum_by-cons, sum_by-le-sum_by, count_by-le-length}
use Rattle.std.proofs.lemmas.List.Sorted.{All-permutation, length_permutation, sum_by-IsPermutation, IsPermutation-sym}
use Rattle.hv_frames.specs.Frames.{Framed, Owned, AreAll, fresh_frame, fresh_frames, zero_bytes}
use Rattle.hv_pool.specs.declared.key.PageKey.{PageKey}
use Rattle.hv_pool.specs.declared.slot.Held.{Held}
use Rattle.hv_pool.specs.declared.slot.Held.TheVariants as held
use Rattle.hv_pool.specs.declared.slot.Slot.{Slot}
use Rattle.hv_pool.specs.Key.{same_key}
use Rattle.hv_pool.specs.Slots.{Pooled, IsPool, IsAway, Holds, is_free, is_cached, is_reading, is_in_hand, is_open, is_gone, is_away, is_numbered}
use Rattle.hv_pool.specs.Moves.{Moves, Hits, Starts, Joins, ComesBack, IsLost, Forgets, cached_as, freed, forgotten}
use Rattle.sha2.specs.Sha256.{sha256}
use Rattle.hv_pool.specs.Made.{IsMade, owner_of, here}
use Rattle.hv_pool.proofs.Laws.{moves_weigh, forgets_keep}
use Rattle.hv_pool.proofs.Made.{none_pass, length_numbers, at_here}
use Rattle.hv_pool.proofs.Places.{weighed, both}
use Rattle.hv_pool_tests.specs.Out.{has_number, HasPage, AreOut}
use denote.RawPtr.{Ptr}

abbrev one : Bool → ℕ
one b = cond b 1 0

fewer : (test other : Slot → Bool) (xs : List Slot) → ((s : Slot) → test s ≡ true → other s ≡ true) → count_by test xs ≤ count_by other xs
fewer test other xs h = sum_by-le-sum_by (λ s. cond (test s) 1 0) (λ s. cond (other s) 1 0) xs (λ s. go s (test s) refl)
  where
    go : (s : Slot) (b : Bool) → test s ≡ b → one (test s) ≤ one (other s)
    go s true e = omega (arith, ap {B = ℕ} (λ z. cond z 1 0) e, ap {B = ℕ} (λ z. cond z 1 0) (h s e))
    go s false e = omega (arith, ap {B = ℕ} (λ z. cond z 1 0) e)

-- the place to which a frame comes back is the one whose frame was away
came_from : (mid : Pooled) (frame : Framed) (s : Slot) (rest : List Slot) → IsPool mid → IsAway mid frame → s.number ≡ frame.number → IsPermutation mid.slots (s ∷ rest) → is_gone s ≡ true
came_from mid frame s rest pool away number were = go (is_away frame.number s) refl
  where
    go : (b : Bool) → is_away frame.number s ≡ b → is_gone s ≡ true
    go true e = (both (nat_eq s.number frame.number) (is_gone s) e).1
    go false e = absurd (omega (
      arith,
      away.away,
      weighed (λ x. cond (is_away frame.number x) 1 0) mid.slots s rest were,
      ap {B = ℕ} (λ z. cond z 1 0) e,
      pool.numbers frame.number,
      weighed (λ x. cond (is_numbered frame.number x) 1 0) mid.slots s rest were,
      ap {B = ℕ} (λ z. cond z 1 0) (eq-eqb s.number frame.number number),
      fewer (is_away frame.number) (is_numbered frame.number) rest (λ x q. (both (nat_eq x.number frame.number) (is_gone x) q).0),
    ))

and_false : (b : Bool) → b && false ≡ false
and_false true = refl
and_false false = refl

and_true : (b : Bool) → b && true ≡ b
and_true true = refl
and_true false = refl

-- a frame that is here isn't away under any number
not_away : (n : ℕ) (s : Slot) → is_gone s ≡ false → is_away n s ≡ false
not_away n s here = ap (λ z. nat_eq s.number n && z) here ∙ and_false (nat_eq s.number n)

-- one that isn't is away under its number
away_as : (n : ℕ) (s : Slot) (frame : Framed) → is_gone s ≡ true → s.number ≡ frame.number → is_away n s ≡ has_number n frame
away_as n s frame gone number = ap (λ z. nat_eq s.number n && z) gone ∙ and_true (nat_eq s.number n) ∙ ap (λ (k : ℕ). nat_eq k n) number

same_length : (old new : Pooled) (before after : Slot) → Moves old new before after → length new.slots ≡ length old.slots
same_length old new before after m = omega (arith, length_permutation old.slots (before ∷ m.rest) m.were, length_permutation new.slots (after ∷ m.rest) m.are)

-- the frame that stands in the place has a page of the digest
abbrev Paged : List ℕ → Slot → Type 0
Paged digest s = IfSome s.frame (HasPage digest)

-- what is so of all places stays so where it is so of the one that changes
all_moved : (P : Slot → Type 0) (old new : Pooled) (before after : Slot) → Moves old new before after → P after → All P old.slots → All P new.slots
all_moved P old new before after m fits all = All-permutation P (after ∷ m.rest) new.slots (IsPermutation-sym new.slots (after ∷ m.rest) m.are) (All-cons P after m.rest fits (All-tail P before m.rest (All-permutation P old.slots (before ∷ m.rest) m.were all)))

-- the frame that went out last has a page of the digest
pub last_page : (owned : Owned) (digest : List ℕ) (p : Pooled) (frames : List Framed) (frame : Framed) → AreOut owned digest p (frames ++ frame ∷ []) → sha256 frame.bytes ≡ digest
last_page owned digest p frames frame out = (All-pop (HasPage digest) (frames ++ frame ∷ []) frames (Some frame) refl out.away).1

-- a frame goes out
goes_out : (owned : Owned) (digest : List ℕ) (old new : Pooled) (before after : Slot) (frames : List Framed) (frame : Framed) → AreOut owned digest old frames → Moves old new before after
    → is_gone before ≡ false → is_gone after ≡ true → after.number ≡ frame.number → frame.owner ≡ new.owner → before.frame ≡ Some frame → after.frame ≡ None → AreOut owned digest new (frames ++ frame ∷ [])
goes_out owned digest old new before after frames frame out m here gone number own was none =
    let long = same_length old new before after m in
    record {
      owner = m.owner ∙ out.owner;
      all = long ∙ out.all;
      its = All-push (λ (f : Framed). f.owner ≡ new.owner) frames frame (subst (λ (o : Ptr). All (λ (f : Framed). f.owner ≡ o) frames) (sym m.owner) out.its) own;
      numbers = λ n. omega (
        arith,
        out.numbers n,
        moves_weigh old new before after m (λ s. cond (is_away n s) 1 0),
        ap {B = ℕ} (λ z. cond z 1 0) (not_away n before here),
        ap {B = ℕ} (λ z. cond z 1 0) (away_as n after frame gone number),
        sum_by-append (λ f. cond (has_number n f) 1 0) frames (frame ∷ []),
        sum_by-cons (λ f. cond (has_number n f) 1 0) frame [],
      );
      count = omega (arith, out.count, length-append frames (frame ∷ []), moves_weigh old new before after m (λ s. cond (is_gone s) 1 0), ap {B = ℕ} (λ z. cond z 1 0) here, ap {B = ℕ} (λ z. cond z 1 0) gone);
      here = all_moved (Paged digest) old new before after m (subst (λ r. IfSome r (HasPage digest)) (sym none) tt) out.here;
      away = All-push (HasPage digest) frames frame out.away (subst (λ r. IfSome r (HasPage digest)) was (All-head (Paged digest) before m.rest (All-permutation (Paged digest) old.slots (before ∷ m.rest) m.were out.here)));
    }

-- the frame that went out last comes back
comes_back : (owned : Owned) (digest : List ℕ) (old new : Pooled) (before after : Slot) (frames : List Framed) (frame : Framed) → AreOut owned digest old (frames ++ frame ∷ []) → IsPool old → IsAway old frame → Moves old new before after
    → before.number ≡ frame.number → is_gone after ≡ false → after.frame ≡ Some frame → AreOut owned digest new frames
comes_back owned digest old new before after frames frame out pool away m number here is =
    let long = same_length old new before after m in
    let gone : is_gone before ≡ true = came_from old frame before m.rest pool away number m.were in
    record {
      owner = m.owner ∙ out.owner;
      all = long ∙ out.all;
      its = subst (λ (o : Ptr). All (λ (f : Framed). f.owner ≡ o) frames) (sym m.owner) (All-pop (λ (f : Framed). f.owner ≡ old.owner) (frames ++ frame ∷ []) frames (Some frame) refl out.its).0;
      numbers = λ n. omega (
        arith,
        out.numbers n,
        moves_weigh old new before after m (λ s. cond (is_away n s) 1 0),
        ap {B = ℕ} (λ z. cond z 1 0) (not_away n after here),
        ap {B = ℕ} (λ z. cond z 1 0) (away_as n before frame gone number),
        sum_by-append (λ f. cond (has_number n f) 1 0) frames (frame ∷ []),
        sum_by-cons (λ f. cond (has_number n f) 1 0) frame [],
      );
      count = omega (arith, out.count, length-append frames (frame ∷ []), moves_weigh old new before after m (λ s. cond (is_gone s) 1 0), ap {B = ℕ} (λ z. cond z 1 0) here, ap {B = ℕ} (λ z. cond z 1 0) gone);
      here = all_moved (Paged digest) old new before after m (subst (λ r. IfSome r (HasPage digest)) (sym is) (last_page owned digest old frames frame out)) out.here;
      away = (All-pop (HasPage digest) (frames ++ frame ∷ []) frames (Some frame) refl out.away).0;
    }

-- the frame that went out last is away
pub last_away : (owned : Owned) (digest : List ℕ) (p : Pooled) (frames : List Framed) (frame : Framed) → AreOut owned digest p (frames ++ frame ∷ []) → IsAway p frame
last_away owned digest p frames frame out = record {
  owner = (All-pop (λ (f : Framed). f.owner ≡ p.owner) (frames ++ frame ∷ []) frames (Some frame) refl out.its).1;
  away = omega (
    arith,
    out.numbers frame.number,
    sum_by-append (λ f. cond (has_number frame.number f) 1 0) frames (frame ∷ []),
    sum_by-cons (λ f. cond (has_number frame.number f) 1 0) frame [],
    ap {B = ℕ} (λ z. cond z 1 0) (eq-eqb frame.number frame.number refl),
  );
}

-- there was room for it
pub has_room : (owned : Owned) (digest : List ℕ) (p : Pooled) (frames : List Framed) (frame : Framed) → AreOut owned digest p (frames ++ frame ∷ []) → length frames < owned.count
has_room owned digest p frames frame out = omega (arith, out.count, out.all, length-append frames (frame ∷ []), count_by-le-length is_gone p.slots)

here_of : (h : Held) → is_reading h || is_in_hand h ≡ false → (is_free h || is_cached h) ≡ true
here_of held.Free e = refl
here_of held.Cached e = refl
here_of (held.Reading who) e = absurd (true≢false e)
here_of (held.InHand who) e = absurd (true≢false e)

-- the frame that stands in a place has its number
frame_number : (p : Pooled) (s : Slot) (rest : List Slot) (frame : Framed) → IsPool p → IsPermutation p.slots (s ∷ rest) → is_gone s ≡ false → s.frame ≡ Some frame → s.number ≡ frame.number
frame_number p s rest frame pool were home is =
    let h = All-head (Holds p.owner) s rest (All-permutation (Holds p.owner) p.slots (s ∷ rest) were pool.holds) in
    let f = h.here (here_of s.held home) in
    sym (subst (λ r. IfSome r (λ g. g.number ≡ s.number)) (sym f.1 ∙ is) f.3)

pub hit_out : (owned : Owned) (digest : List ℕ) (old new : Pooled) (key : PageKey) (who : ℕ) (frame : Framed) (formed : Bool) (frames : List Framed) → AreOut owned digest old frames → IsPool old → Hits old key who frame formed new → AreOut owned digest new (frames ++ frame ∷ [])
hit_out owned digest old new key who frame formed frames out pool hit =
    let home : is_gone hit.slot ≡ false = ap (λ h. is_reading h || is_in_hand h) hit.is in
    goes_out owned digest old new hit.slot _ frames frame out hit.change home refl (frame_number old hit.slot hit.change.rest frame pool hit.change.were home hit.frame_is) hit.away.owner hit.frame_is refl

open_home : (s : Slot) → is_open s ≡ true → is_gone s ≡ false
open_home s e = go s.held refl
  where
    go : (h : Held) → s.held ≡ h → is_gone s ≡ false
    go held.Free q = ap (λ x. is_reading x || is_in_hand x) q
    go held.Cached q = ap (λ x. is_reading x || is_in_hand x) q
    go (held.Reading who) q = absurd (true≢false (sym e ∙ ap (λ x. is_free x || (is_cached x && nat_eq s.waits 0)) q))
    go (held.InHand who) q = absurd (true≢false (sym e ∙ ap (λ x. is_free x || (is_cached x && nat_eq s.waits 0)) q))

pub start_out : (owned : Owned) (digest : List ℕ) (old new : Pooled) (key : PageKey) (who : ℕ) (frame : Framed) (frames : List Framed) → AreOut owned digest old frames → IsPool old → Starts old key who frame new → AreOut owned digest new (frames ++ frame ∷ [])
start_out owned digest old new key who frame frames out pool start =
    let home = open_home start.slot start.is in
    goes_out owned digest old new start.slot _ frames frame out start.change home refl (frame_number old start.slot start.change.rest frame pool start.change.were home start.frame_is) start.away.owner start.frame_is refl

-- one more session waits, and each frame stays where it is
pub join_out : (owned : Owned) (digest : List ℕ) (old new : Pooled) (key : PageKey) (who other : ℕ) (frames : List Framed) → AreOut owned digest old frames → Joins old key who other new → AreOut owned digest new frames
join_out owned digest old new key who other frames out join =
    let long = same_length old new join.slot _ join.change in
    record {
      owner = join.change.owner ∙ out.owner;
      all = long ∙ out.all;
      its = subst (λ (o : Ptr). All (λ (f : Framed). f.owner ≡ o) frames) (sym join.change.owner) out.its;
      numbers = λ n. omega (arith, out.numbers n, moves_weigh old new join.slot _ join.change (λ s. cond (is_away n s) 1 0));
      count = omega (arith, out.count, moves_weigh old new join.slot _ join.change (λ s. cond (is_gone s) 1 0));
      here = all_moved (Paged digest) old new join.slot _ join.change (All-head (Paged digest) join.slot join.change.rest (All-permutation (Paged digest) old.slots (join.slot ∷ join.change.rest) join.change.were out.here)) out.here;
      away = out.away;
    }

pub back_out : (away : Held → Bool) (formed : Bool) (owned : Owned) (digest : List ℕ) (old new : Pooled) (key : PageKey) (frames : List Framed) (frame : Framed) → AreOut owned digest old (frames ++ frame ∷ []) → IsPool old → ComesBack away formed old key frame new → AreOut owned digest new frames
back_out away formed owned digest old new key frames frame out pool back =
    let h = home (away back.slot.held && same_key key back.slot.key) in
    comes_back owned digest old new back.slot _ frames frame out pool (last_away owned digest old frames frame out) back.change back.number h.0 h.1
  where
    home : (b : Bool) → (is_gone (if b then cached_as old.came formed frame back.slot else freed frame back.slot) ≡ false) × ((if b then cached_as old.came formed frame back.slot else freed frame back.slot).frame ≡ Some frame)
    home true = (refl, refl)
    home false = (refl, refl)

pub lost_out : (owned : Owned) (digest : List ℕ) (old new : Pooled) (frames : List Framed) (frame : Framed) → AreOut owned digest old (frames ++ frame ∷ []) → IsPool old → IsLost old frame new → AreOut owned digest new frames
lost_out owned digest old new frames frame out pool lost = comes_back owned digest old new lost.slot _ frames frame out pool (last_away owned digest old frames frame out) lost.change lost.number refl refl

pub forget_out : (owned : Owned) (digest : List ℕ) (old new : Pooled) (who : ℕ) (frames : List Framed) → AreOut owned digest old frames → Forgets old who new → AreOut owned digest new frames
forget_out owned digest old new who frames out forgets =
    let long : length new.slots ≡ length old.slots = ap length forgets.slots ∙ length-map old.slots (forgotten who) in
    record {
      owner = forgets.owner ∙ out.owner;
      all = long ∙ out.all;
      its = subst (λ (o : Ptr). All (λ (f : Framed). f.owner ≡ o) frames) (sym forgets.owner) out.its;
      numbers = λ n. out.numbers n ∙ sym (forgets_keep old new who forgets (is_away n) (λ s. refl));
      count = out.count ∙ sym (forgets_keep old new who forgets is_gone (λ s. refl));
      here = subst (λ (l : List Slot). All (Paged digest) l) (sym forgets.slots) (All-map (Paged digest) (forgotten who) old.slots out.here);
      away = out.away;
    }

-- the frames that are away in another order
pub any_order : (owned : Owned) (digest : List ℕ) (p : Pooled) (frames others : List Framed) → AreOut owned digest p frames → IsPermutation frames others → AreOut owned digest p others
any_order owned digest p frames others out same = record {
  owner = out.owner;
  all = out.all;
  its = All-permutation (λ (f : Framed). f.owner ≡ p.owner) frames others same out.its;
  numbers = λ n. omega (arith, out.numbers n, sum_by-IsPermutation (λ f. cond (has_number n f) 1 0) frames others same);
  count = omega (arith, out.count, length_permutation frames others same);
  here = out.here;
  away = All-permutation (HasPage digest) frames others same out.away;
}

-- the digest of a fresh frame's bytes
pub fresh_page : (bytes digest : List ℕ) → bytes ≡ replicate 4096 0 → digest ≡ sha256 bytes → sha256 zero_bytes ≡ digest
unfolding zero_bytes
fresh_page bytes digest is taken = sym (taken ∙ ap sha256 is)

-- in a pool that is made no frame is away
pub made_out : (owned : Owned) (digest : List ℕ) (n : ℕ) (frames : List Framed) (p : Pooled) → IsMade frames p → 1 ≤ n → frames ≡ fresh_frames owned.name n → owned.count ≡ n → sha256 zero_bytes ≡ digest → AreOut owned digest p []
made_out owned digest n frames p made some fresh count page =
    let long : length p.slots ≡ n = omega (arith, length_numbers p.slots (length frames) made.filled.numbers, ap length fresh, length-map (range_with_len 0 n) (fresh_frame owned.name), length-range_with_len 0 n) in
    record {
      owner = made.owner ∙ ap owner_of fresh ∙ first_owner n some;
      all = long ∙ sym count;
      its = λ k d within. absurd (omega (arith, within));
      numbers = λ m. sym (none_pass (is_away m) p.slots (λ k d within. not_away m (get_or p.slots k d) (ap (λ h. is_reading h || is_in_hand h) (made.filled.fresh k d within).held)));
      count = sym (none_pass is_gone p.slots (λ k d within. ap (λ h. is_reading h || is_in_hand h) (made.filled.fresh k d within).held));
      here = λ k d within. paged k d within (get_or p.slots k d).frame refl;
      away = λ k d within. absurd (omega (arith, within));
    }
  where
    first_owner : (m : ℕ) → 1 ≤ m → owner_of (fresh_frames owned.name m) ≡ owned.name
    first_owner zero low = absurd (omega (arith, low))
    first_owner (suc m) low = refl

    all_pages : All (HasPage digest) (here p.slots)
    all_pages = All-permutation (HasPage digest) frames (here p.slots) made.filled.among (subst (λ (l : List Framed). All (HasPage digest) l) (sym fresh) (All-map (HasPage digest) (fresh_frame owned.name) (range_with_len 0 n) (λ k d within. page)))

    paged : (k : ℕ) (d : Slot) → k < length p.slots → (r : Option Framed) → (get_or p.slots k d).frame ≡ r → IfSome r (HasPage digest)
    paged k d within None e = tt
    paged k d within (Some f) e = at_here (HasPage digest) p.slots k d f all_pages within e

-- where no frame is away, the pool gives all that the owner has
pub all_its : (owned : Owned) (digest : List ℕ) (p : Pooled) (frames out : List Framed) → AreOut owned digest p frames → AreAll (record { name = p.owner; count = length p.slots }) out → AreAll owned out
all_its owned digest p frames out o all = subst (λ (w : Owned). AreAll w out) (λ i. record { name = o.owner i; count = o.all i }) all
