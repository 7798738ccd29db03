-- Which place may be taken first, and where sessions wait. This project's own.
use Rattle.std.specs.Prelude.{◌≡◌, ℕ, ◌+◌, ◌-◌, ◌*◌, ◌/◌, ◌^◌, ◌<◌, ◌≤◌, min, bit_or, if◌then◌else◌, List, length, get_or}
use Rattle.hv_pool.specs.declared.slot.Slot.{Slot}
use Rattle.hv_pool.specs.declared.order.Node.{Node}
use Rattle.hv_pool.specs.Slots.{is_open}

-- when the page of a place that may be taken came back; the others come last
abbrev pub turn_of : Slot → ℕ
turn_of s = if is_open s then s.came else 2 ^ 64 - 1

-- what a place's leaf tells
abbrev pub node_of : Slot → Node
node_of s = record { turn = turn_of s; waits = s.waits }

-- what two nodes tell together: the lesser turn, and who waits at either
abbrev pub joined : Node → Node → Node
joined a b = record { turn = min a.turn b.turn; waits = bit_or a.waits b.waits }

-- a node that tells nothing, as do those past the last
abbrev pub no_node : Node
no_node = record { turn = 2 ^ 64 - 1; waits = 0 }

-- a node over places whose frames never had a page
abbrev pub fresh_node : Node
fresh_node = record { turn = 0; waits = 0 }

-- what the four below a node tell together
abbrev pub told_below : List Node → ℕ → Node
told_below tree i = joined (joined (joined (get_or tree (4 * i + 1) no_node) (get_or tree (4 * i + 2) no_node)) (get_or tree (4 * i + 3) no_node)) (get_or tree (4 * i + 4) no_node)

-- the node tells what the four below it tell together
abbrev pub IsJoined : List Node → ℕ → Type 0
IsJoined tree i = get_or tree i no_node ≡ told_below tree i

-- so does each inner node, numbered from 0; behind them stand as many leaves as places
abbrev pub IsTree : List Node → ℕ → Type 0
IsTree tree inner = (i : ℕ) → i < inner → IsJoined tree i

-- how many inner nodes are over so many leaves: the fewest that leave but one node without one above it
abbrev pub inner_of : ℕ → ℕ
inner_of count = (count + 1) / 3

-- a tree with a leaf for each place, whose waits are 64 bits
pub record IsOrdered (tree : List Node) (slots : List Slot) : Type 0 where
  pub long : length tree ≡ inner_of (length slots) + length slots
  pub leaves : (n : ℕ) (d : Slot) → n < length slots → get_or tree (inner_of (length slots) + n) no_node ≡ node_of (get_or slots n d)
  pub narrow : (n : ℕ) (d : Slot) → n < length slots → (get_or slots n d).waits < 2 ^ 64
  pub inner : IsTree tree (inner_of (length slots))

-- the same but for one place, whose leaf may be an earlier one
pub record IsOrderedBut (place : ℕ) (tree : List Node) (slots : List Slot) : Type 0 where
  pub long : length tree ≡ inner_of (length slots) + length slots
  pub leaves : (n : ℕ) (d : Slot) → n < length slots → ¬ (n ≡ place) → get_or tree (inner_of (length slots) + n) no_node ≡ node_of (get_or slots n d)
  pub narrow : (n : ℕ) (d : Slot) → n < length slots → ¬ (n ≡ place) → (get_or slots n d).waits < 2 ^ 64
  pub inner : IsTree tree (inner_of (length slots))
