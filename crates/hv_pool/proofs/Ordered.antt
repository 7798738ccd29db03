-- The tree over the places.
use Rattle.std.proofs.Common.{◌≡◌, ℕ, zero, suc, ◌+◌, ◌-◌, ◌*◌, ◌/◌, ◌%◌, ◌^◌, ◌<◌, ◌≤◌, ◌⊎◌, inl, inr, true, false, ◌&&◌, ◌||◌, nat_eq, if◌then◌else◌, List, ◌++◌, length, take, drop, replicate, get_or, set, refl, sym, ap, ap₂, ◌∙◌, subst, arith}
use Rattle.std.specs.Prelude.{All, bit_or}
use Rattle.std.specs.Int.{bit_at}
use Rattle.std.proofs.Math.Nat.{min-le_left, min-le_right}
use Rattle.std.proofs.lemmas.Bool.{cases_eq, cases_lt, eqb-true, eqb-false, eq-eqb, ne_eqb}
use Rattle.std.proofs.lemmas.Nat.{div-add-mod', mod_below}
use Rattle.std.proofs.lemmas.Nat.Bits.{bit_at_or, bit_at-lt, bit_at-zero}
use Rattle.std.proofs.lemmas.List.{get_or-set_same, get_or-set_other, get_or-replicate, get_or_past, length-set, length-replicate, take_at}
use Rattle.hv_pool.specs.declared.slot.Slot.{Slot}
use Rattle.hv_pool.specs.declared.order.Node.{Node}
use Rattle.hv_frames.specs.Frames.{Framed}
use Rattle.hv_pool.specs.Made.{IsFilled}
use Rattle.hv_pool.specs.Slots.{is_open, is_free, is_cached, waits_bit}
use Rattle.hv_pool.specs.Order.{turn_of, node_of, joined, no_node, fresh_node, told_below, inner_of, IsJoined, IsTree, IsOrdered, IsOrderedBut}

-- so many inner nodes are enough to be above all nodes but the first, and each has one below it
pub inner_bounds : (count : ℕ) → (count ≤ 3 * inner_of count + 1) × (3 * inner_of count ≤ count + 1)
inner_bounds count = (omega (arith, div-add-mod' (count + 1) 3, mod_below (count + 1) 3 (omega arith)), omega (arith, div-add-mod' (count + 1) 3))

-- a node is one of the four below another
fourth : (i : ℕ) → 1 ≤ i → (j : ℕ) × ((i ≡ 4 * j + 1) ⊎ (i ≡ 4 * j + 2) ⊎ (i ≡ 4 * j + 3) ⊎ (i ≡ 4 * j + 4))
fourth i some = ((i - 1) / 4, go (cases_eq ((i - 1) % 4) 0) (cases_eq ((i - 1) % 4) 1) (cases_eq ((i - 1) % 4) 2))
  where
    go : ((i - 1) % 4 ≡ 0) ⊎ ((i - 1) % 4 ≡ 0 → ⊥) → ((i - 1) % 4 ≡ 1) ⊎ ((i - 1) % 4 ≡ 1 → ⊥) → ((i - 1) % 4 ≡ 2) ⊎ ((i - 1) % 4 ≡ 2 → ⊥) → (i ≡ 4 * ((i - 1) / 4) + 1) ⊎ (i ≡ 4 * ((i - 1) / 4) + 2) ⊎ (i ≡ 4 * ((i - 1) / 4) + 3) ⊎ (i ≡ 4 * ((i - 1) / 4) + 4)
    go (inl e) b c = inl (omega (arith, div-add-mod' (i - 1) 4, e, some))
    go (inr a) (inl e) c = inr (inl (omega (arith, div-add-mod' (i - 1) 4, e, some)))
    go (inr a) (inr b) (inl e) = inr (inr (inl (omega (arith, div-add-mod' (i - 1) 4, e, some))))
    go (inr a) (inr b) (inr c) = inr (inr (inr (omega (arith, div-add-mod' (i - 1) 4, mod_below (i - 1) 4 (omega arith), a, b, c, some))))

-- what goes down from a node to all four below it goes down from the root to all
root_covers : (P : Node → Type 0) → ((a b : Node) → P (joined a b) → P a × P b) → (tree : List Node) (inner : ℕ) → IsTree tree inner → P (get_or tree 0 no_node) → (most i : ℕ) → i ≤ most → i ≤ 4 * inner → P (get_or tree i no_node)
root_covers P down tree inner t root most zero short below = root
root_covers P down tree inner t root zero (suc i) short below = absurd (omega (arith, short))
root_covers P down tree inner t root (suc most) (suc i) short below = let f = fourth (suc i) (omega arith) in go f.0 f.1 (root_covers P down tree inner t root most)
  where
    at : ℕ → Node
    at k = get_or tree k no_node

    go : (j : ℕ) → (suc i ≡ 4 * j + 1) ⊎ (suc i ≡ 4 * j + 2) ⊎ (suc i ≡ 4 * j + 3) ⊎ (suc i ≡ 4 * j + 4) → ((k : ℕ) → k ≤ most → k ≤ 4 * inner → P (get_or tree k no_node)) → P (get_or tree (suc i) no_node)
    go j side rec = pick side
      where
        -- which of them it is, the node above it stands before it
        before : (suc i ≡ 4 * j + 1) ⊎ (suc i ≡ 4 * j + 2) ⊎ (suc i ≡ 4 * j + 3) ⊎ (suc i ≡ 4 * j + 4) → 4 * j + 1 ≤ suc i
        before (inl e) = omega (arith, e)
        before (inr (inl e)) = omega (arith, e)
        before (inr (inr (inl e))) = omega (arith, e)
        before (inr (inr (inr e))) = omega (arith, e)

        all : P (told_below tree j)
        all = subst P (t j (omega (arith, before side, below))) (rec j (omega (arith, before side, short)) (omega (arith, before side, below)))

        last : P (joined (joined (at (4 * j + 1)) (at (4 * j + 2))) (at (4 * j + 3))) × P (at (4 * j + 4))
        last = down (joined (joined (at (4 * j + 1)) (at (4 * j + 2))) (at (4 * j + 3))) (at (4 * j + 4)) all

        third : P (joined (at (4 * j + 1)) (at (4 * j + 2))) × P (at (4 * j + 3))
        third = down (joined (at (4 * j + 1)) (at (4 * j + 2))) (at (4 * j + 3)) last.0

        two : P (at (4 * j + 1)) × P (at (4 * j + 2))
        two = down (at (4 * j + 1)) (at (4 * j + 2)) third.0

        pick : (suc i ≡ 4 * j + 1) ⊎ (suc i ≡ 4 * j + 2) ⊎ (suc i ≡ 4 * j + 3) ⊎ (suc i ≡ 4 * j + 4) → P (get_or tree (suc i) no_node)
        pick (inl e) = subst (λ (k : ℕ). P (get_or tree k no_node)) (sym e) two.0
        pick (inr (inl e)) = subst (λ (k : ℕ). P (get_or tree k no_node)) (sym e) two.1
        pick (inr (inr (inl e))) = subst (λ (k : ℕ). P (get_or tree k no_node)) (sym e) third.1
        pick (inr (inr (inr e))) = subst (λ (k : ℕ). P (get_or tree k no_node)) (sym e) last.1

-- the root has the least turn of all nodes
pub root_least : (tree : List Node) (inner : ℕ) → IsTree tree inner → (i : ℕ) → i ≤ 4 * inner → (get_or tree 0 no_node).turn ≤ (get_or tree i no_node).turn
root_least tree inner t i below =
    root_covers (λ (a : Node). (get_or tree 0 no_node).turn ≤ a.turn)
    (λ a b h. (omega (arith, h, min-le_left a.turn b.turn), omega (arith, h, min-le_right a.turn b.turn)))
    tree inner t (omega arith) i i (omega arith) below

-- who waits at neither of two
pub waits_neither : (who a b : ℕ) → waits_bit who (bit_or a b) ≡ false → (waits_bit who a ≡ false) × (waits_bit who b ≡ false)
waits_neither who a b e = (
  ne_eqb (bit_at a who) 1 (λ q. eqb-false (bit_at (bit_or a b) who) 1 e (omega (arith, q, bit_at_or a b who, bit_at-lt b who))),
  ne_eqb (bit_at b who) 1 (λ q. eqb-false (bit_at (bit_or a b) who) 1 e (omega (arith, q, bit_at_or a b who, bit_at-lt a who))),
)

-- who waits at neither of two doesn't wait at both together
pub waits_none : (who a b : ℕ) → waits_bit who a ≡ false → waits_bit who b ≡ false → waits_bit who (bit_or a b) ≡ false
waits_none who a b off other = ne_eqb (bit_at (bit_or a b) who) 1 (λ q. go (cases_lt (bit_at b who) 1) q)
  where
    go : (bit_at b who < 1) ⊎ (1 ≤ bit_at b who) → bit_at (bit_or a b) who ≡ 1 → ⊥
    go (inl small) q = eqb-false (bit_at a who) 1 off (omega (arith, q, small, bit_at_or a b who, bit_at-lt a who))
    go (inr large) q = eqb-false (bit_at b who) 1 other (omega (arith, large, bit_at-lt b who))

-- who waits at one of two, and not at the first, waits at the other
pub waits_other : (who a b : ℕ) → waits_bit who (bit_or a b) ≡ true → waits_bit who a ≡ false → waits_bit who b ≡ true
waits_other who a b e off = eq-eqb (bit_at b who) 1 (omega (arith, eqb-true (bit_at (bit_or a b) who) 1 e, eqb-false (bit_at a who) 1 off, bit_at_or a b who, bit_at-lt a who, bit_at-lt b who))

-- who waits at a node, and not at the first three below it, waits at the last
pub last_waited : (tree : List Node) (who node : ℕ) → waits_bit who (told_below tree node).waits ≡ true → waits_bit who (get_or tree (4 * node + 1) no_node).waits ≡ false → waits_bit who (get_or tree (4 * node + 1 + 1) no_node).waits ≡ false → waits_bit who (get_or tree (4 * node + 1 + 2) no_node).waits ≡ false
    → waits_bit who (get_or tree (4 * node + 1 + 3) no_node).waits ≡ true
last_waited tree who node either first second third =
    let at = λ (k : ℕ). (get_or tree k no_node).waits in
    let second_off : waits_bit who (at (4 * node + 2)) ≡ false = subst (λ (k : ℕ). waits_bit who (at k) ≡ false) (omega arith) second in
    let third_off : waits_bit who (at (4 * node + 3)) ≡ false = subst (λ (k : ℕ). waits_bit who (at k) ≡ false) (omega arith) third in
    let two = waits_none who (at (4 * node + 1)) (at (4 * node + 2)) first second_off in
    let three = waits_none who (bit_or (at (4 * node + 1)) (at (4 * node + 2))) (at (4 * node + 3)) two third_off in
    let last = waits_other who (bit_or (bit_or (at (4 * node + 1)) (at (4 * node + 2))) (at (4 * node + 3))) (at (4 * node + 4)) either three in
    subst (λ (k : ℕ). waits_bit who (at k) ≡ true) (omega arith) last

-- nobody waits past the last node
pub waited_within : (tree : List Node) (who i : ℕ) → waits_bit who (get_or tree i no_node).waits ≡ true → i < length tree
waited_within tree who i e = go (cases_lt i (length tree))
  where
    go : (i < length tree) ⊎ (length tree ≤ i) → i < length tree
    go (inl h) = h
    go (inr past) = absurd (omega (arith, eqb-true (bit_at (get_or tree i no_node).waits who) 1 e, ap (λ (a : Node). bit_at a.waits who) (get_or_past tree i no_node past), bit_at-zero who))

-- who doesn't wait at the root waits nowhere
pub root_unwaited : (tree : List Node) (slots : List Slot) (who : ℕ) → IsOrdered tree slots → waits_bit who (get_or tree 0 no_node).waits ≡ false → All (λ s. waits_bit who s.waits ≡ false) slots
root_unwaited tree slots who o root = λ n d within.
    let leaf = inner_of (length slots) + n in
    ap (λ (a : Node). waits_bit who a.waits) (sym (o.leaves n d within))
    ∙ root_covers (λ (a : Node). waits_bit who a.waits ≡ false) (λ a b h. waits_neither who a.waits b.waits h) tree (inner_of (length slots)) o.inner root leaf leaf (omega arith) (omega (arith, within, inner_bounds (length slots)))

-- where none of those below a node changes
below_kept : (tree : List Node) (at : ℕ) (v : Node) (i : ℕ) → ¬ ((4 * i + 1 ≤ at) × (at ≤ 4 * i + 4)) → told_below (set tree at v) i ≡ told_below tree i
below_kept tree at v i other =
    ap₂ joined (ap₂ joined (ap₂ joined (same 1 (omega arith) (omega arith)) (same 2 (omega arith) (omega arith))) (same 3 (omega arith) (omega arith))) (same 4 (omega arith) (omega arith))
  where
    same : (k : ℕ) → 1 ≤ k → k ≤ 4 → get_or (set tree at v) (4 * i + k) no_node ≡ get_or tree (4 * i + k) no_node
    same k from to = get_or-set_other tree at (4 * i + k) v no_node (λ e. other (omega (arith, e, from), omega (arith, e, to)))

-- where neither a node nor those below it change
kept : (tree : List Node) (at : ℕ) (v : Node) (i : ℕ) → ¬ (i ≡ at) → ¬ ((4 * i + 1 ≤ at) × (at ≤ 4 * i + 4)) → IsJoined tree i → IsJoined (set tree at v) i
kept tree at v i here below e =
    get_or-set_other tree at i v no_node here ∙ e
    ∙ sym (below_kept tree at v i below)

-- each inner node above another that isn't `node` tells what the four below it tell
abbrev pub IsTreeBut : ℕ → List Node → ℕ → Type 0
IsTreeBut node tree inner = (i : ℕ) → i < inner → ¬ ((4 * i + 1 ≤ node) × (node ≤ 4 * i + 4)) → IsJoined tree i

-- where a leaf changes, only the node above it may be wrong
pub leaf_set : (tree : List Node) (inner at : ℕ) (v : Node) → inner ≤ at → IsTree tree inner → IsTreeBut at (set tree at v) inner
leaf_set tree inner at v leaf t = λ i within other. kept tree at v i (λ e. absurd (omega (arith, e, within, leaf))) other (t i within)

-- where that node is joined of the four below, only the node above it may be wrong
pub node_set : (tree : List Node) (inner old node : ℕ) (v : Node) → node < length tree → 4 * node + 1 ≤ old → old ≤ 4 * node + 4 → v ≡ told_below tree node → IsTreeBut old tree inner → IsTreeBut node (set tree node v) inner
node_set tree inner old node v within from to v_is t = λ i below other. go i below other (cases_eq i node)
  where
    go : (i : ℕ) → i < inner → ¬ ((4 * i + 1 ≤ node) × (node ≤ 4 * i + 4)) → (i ≡ node) ⊎ (i ≡ node → ⊥) → IsJoined (set tree node v) i
    go i below other (inl e) =
        subst (λ (k : ℕ). IsJoined (set tree node v) k) (sym e)
        (get_or-set_same tree node v no_node within ∙ v_is ∙ sym (below_kept tree node v node (λ h. absurd (omega (arith, h.0)))))
    go i below other (inr ne) = kept tree node v i ne other (t i below (λ h. ne (omega (arith, h.0, h.1, from, to))))

-- where that node tells what the four below it tell, none is wrong
pub node_told : (tree : List Node) (inner old node : ℕ) → 4 * node + 1 ≤ old → old ≤ 4 * node + 4 → IsJoined tree node → IsTreeBut old tree inner → IsTree tree inner
node_told tree inner old node from to told t = λ i below. go i below (cases_eq i node)
  where
    go : (i : ℕ) → i < inner → (i ≡ node) ⊎ (i ≡ node → ⊥) → IsJoined tree i
    go i below (inl e) = subst (λ (k : ℕ). IsJoined tree k) (sym e) told
    go i below (inr ne) = t i below (λ h. ne (omega (arith, h.0, h.1, from, to)))

-- leaves stay where an inner node changes
pub leaves_kept : (tree base : List Node) (inner count node : ℕ) (v : Node) → node < inner → ((n : ℕ) → n < count → get_or tree (inner + n) no_node ≡ get_or base (inner + n) no_node) → (n : ℕ) → n < count → get_or (set tree node v) (inner + n) no_node ≡ get_or base (inner + n) no_node
leaves_kept tree base inner count node v within same = λ n below. get_or-set_other tree node (inner + n) v no_node (λ e. absurd (omega (arith, e, within))) ∙ same n below

-- a place changes, and its leaf doesn't yet
pub order_but : (tree : List Node) (slots : List Slot) (n : ℕ) (v : Slot) → IsOrdered tree slots → IsOrderedBut n tree (set slots n v)
order_but tree slots n v o =
    let long = length-set slots n v in
    record {
      long = o.long ∙ ap (λ k. inner_of k + k) (sym long);
      leaves = λ m d within other. ap (λ k. get_or tree (inner_of k + m) no_node) long ∙ o.leaves m d (omega (arith, within, long)) ∙ ap node_of (sym (get_or-set_other slots n m v d other));
      narrow = λ m d within other. subst (λ (s : Slot). s.waits < 2 ^ 64) (sym (get_or-set_other slots n m v d other)) (o.narrow m d (omega (arith, within, long)));
      inner = subst (λ (k : ℕ). IsTree tree (inner_of k)) (sym long) o.inner;
    }

-- the leaf of the place is set
pub order_set : (tree later : List Node) (slots : List Slot) (n : ℕ) (leaf : Node) → n < length slots → IsOrderedBut n tree slots → length later ≡ length tree → ((d : Slot) → leaf ≡ node_of (get_or slots n d)) → ((d : Slot) → (get_or slots n d).waits < 2 ^ 64)
    → ((m : ℕ) → m < length slots → get_or later (inner_of (length slots) + m) no_node ≡ get_or (set tree (inner_of (length slots) + n) leaf) (inner_of (length slots) + m) no_node) → IsTree later (inner_of (length slots)) → IsOrdered later slots
order_set tree later slots n leaf within o long leaf_is small leaves t = record {
  long = long ∙ o.long;
  leaves = λ m d below. leaves m below ∙ go m d below (cases_eq m n);
  narrow = λ m d below. fits m d below (cases_eq m n);
  inner = t;
}
  where
    go : (m : ℕ) (d : Slot) → m < length slots → (m ≡ n) ⊎ (m ≡ n → ⊥) → get_or (set tree (inner_of (length slots) + n) leaf) (inner_of (length slots) + m) no_node ≡ node_of (get_or slots m d)
    go m d below (inl e) =
        subst (λ (k : ℕ). get_or (set tree (inner_of (length slots) + n) leaf) (inner_of (length slots) + k) no_node ≡ node_of (get_or slots k d)) (sym e)
        (get_or-set_same tree (inner_of (length slots) + n) leaf no_node (omega (arith, within, o.long)) ∙ leaf_is d)
    go m d below (inr ne) = get_or-set_other tree (inner_of (length slots) + n) (inner_of (length slots) + m) leaf no_node (λ e. ne (omega (arith, e))) ∙ o.leaves m d below ne

    fits : (m : ℕ) (d : Slot) → m < length slots → (m ≡ n) ⊎ (m ≡ n → ⊥) → (get_or slots m d).waits < 2 ^ 64
    fits m d below (inl e) = subst (λ (k : ℕ). (get_or slots k d).waits < 2 ^ 64) (sym e) (small d)
    fits m d below (inr ne) = o.narrow m d below ne

-- the place of the least leaf may be taken first
pub least_open : (tree : List Node) (slots : List Slot) (n : ℕ) → IsOrdered tree slots → n < length slots → ((i : ℕ) → i < length tree → (get_or tree (inner_of (length slots) + n) no_node).turn ≤ (get_or tree i no_node).turn) → (d : Slot) → is_open (get_or slots n d) ≡ true → All (λ s. is_open s ≡ true → (get_or slots n d).came ≤ s.came) slots
least_open tree slots n o within least d opens = λ m e below other.
    omega (
      arith,
      least (inner_of (length slots) + m) (omega (arith, below, o.long)),
      ap (λ (a : Node). a.turn) (o.leaves n d within),
      ap (λ (a : Node). a.turn) (o.leaves m e below),
      ap (λ b. if b then (get_or slots n d).came else 2 ^ 64 - 1) opens,
      ap (λ b. if b then (get_or slots m e).came else 2 ^ 64 - 1) other,
    )

-- in a pool that is made each node tells that nothing came yet and nobody waits
pub fresh_order : (tree : List Node) (frames : List Framed) (slots : List Slot) → IsFilled frames slots → tree ≡ replicate (inner_of (length slots) + length slots) fresh_node → IsOrdered tree slots
fresh_order tree frames slots f is = record {
  long = long;
  leaves = λ n d within. fresh_at (inner_of (length slots) + n) (omega (arith, within)) ∙ sym (leaf_is n d within);
  narrow = λ n d within. omega (arith, (f.fresh n d within).waits);
  inner = λ i below. fresh_at i (omega (arith, below)) ∙ sym (all_below i below);
}
  where
    long : length tree ≡ inner_of (length slots) + length slots
    long = ap length is ∙ length-replicate (inner_of (length slots) + length slots) fresh_node

    fresh_at : (i : ℕ) → i < inner_of (length slots) + length slots → get_or tree i no_node ≡ fresh_node
    fresh_at i below = ap (λ (l : List Node). get_or l i no_node) is ∙ get_or-replicate (inner_of (length slots) + length slots) i fresh_node no_node below

    -- each node past the first of the four is there or not, and changes nothing
    either : (i : ℕ) → joined fresh_node (get_or tree i no_node) ≡ fresh_node
    either i = go (cases_lt i (inner_of (length slots) + length slots))
      where
        go : (i < inner_of (length slots) + length slots) ⊎ (inner_of (length slots) + length slots ≤ i) → joined fresh_node (get_or tree i no_node) ≡ fresh_node
        go (inl below) = ap (joined fresh_node) (fresh_at i below)
        go (inr past) = ap (joined fresh_node) (get_or_past tree i no_node (omega (arith, long, past)))

    all_below : (i : ℕ) → i < inner_of (length slots) → told_below tree i ≡ fresh_node
    all_below i below =
        ap (λ (a : Node). joined (joined (joined a (get_or tree (4 * i + 2) no_node)) (get_or tree (4 * i + 3) no_node)) (get_or tree (4 * i + 4) no_node)) (fresh_at (4 * i + 1) (omega (arith, below, inner_bounds (length slots))))
        ∙ ap (λ (a : Node). joined (joined a (get_or tree (4 * i + 3) no_node)) (get_or tree (4 * i + 4) no_node)) (either (4 * i + 2))
        ∙ ap (λ (a : Node). joined a (get_or tree (4 * i + 4) no_node)) (either (4 * i + 3))
        ∙ either (4 * i + 4)

    leaf_is : (n : ℕ) (d : Slot) → n < length slots → node_of (get_or slots n d) ≡ fresh_node
    leaf_is n d within =
        let g = f.fresh n d within in
        let turn : turn_of (get_or slots n d) ≡ 0 = ap (λ b. if b then (get_or slots n d).came else 2 ^ 64 - 1) (ap (λ h. is_free h || (is_cached h && nat_eq (get_or slots n d).waits 0)) g.held) ∙ g.came in
        ap₂ (λ (t w : ℕ). record { turn = t; waits = w }) turn g.waits

-- what was lent of a list as a whole is the list
pub ordered_back : (whole later : List Node) (len : ℕ) (slots : List Slot) → length later ≡ length whole → len ≡ length whole → IsOrdered later slots → IsOrdered (take len (later ++ drop (length later) whole)) slots
ordered_back whole later len slots same long o = subst (λ l. IsOrdered l slots) (sym (take_at later (drop (length later) whole) len (omega (arith, same, long)))) o
