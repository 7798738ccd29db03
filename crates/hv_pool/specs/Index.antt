-- Where the places are found by their keys: in a chain for each bucket. This project's own.
use Rattle.std.specs.Prelude.{◌≡◌, ℕ, ◌+◌, ◌*◌, ◌%◌, ◌<◌, ◌≤◌, ◌⊎◌, true, List, [], ◌∷◌, length, get_or}
use Rattle.hv_pool.specs.declared.key.PageKey.{PageKey}
use Rattle.hv_pool.specs.declared.slot.Slot.{Slot}
use Rattle.hv_pool.specs.Slots.{under}

-- the bucket of a key, of so many; the pages of a chunk follow one another
abbrev pub bucket_of : PageKey → ℕ → ℕ
bucket_of key count = (key.chunk * 2654435761 + key.page) % count

-- these places follow one another from a link on; a place's own link stands behind those of the buckets, and the last one's has no place
abbrev pub IsChain : List ℕ → ℕ → ℕ → List ℕ → Type 0
IsChain links count at [] = count ≤ get_or links at 0
IsChain links count at (n ∷ ns) = (get_or links at 0 ≡ n) × (n < count) × IsChain links count (count + n) ns

-- the place is one of these
abbrev pub IsAmong : ℕ → List ℕ → Type 0
IsAmong n [] = ⊥
IsAmong n (m ∷ ms) = (n ≡ m) ⊎ IsAmong n ms

-- as many buckets as places, and a chain for each, in which places have keys of the bucket; a place that stands under a key is in the key's chain
pub record IsIndexed (links : List ℕ) (slots : List Slot) : Type 0 where
  pub chains : ℕ → List ℕ
  pub long : length links ≡ 2 * length slots
  pub linked : (b : ℕ) → b < length slots → IsChain links (length slots) b (chains b)
  pub own : (b n : ℕ) (d : Slot) → b < length slots → IsAmong n (chains b) → bucket_of (get_or slots n d).key (length slots) ≡ b
  pub found : (key : PageKey) (n : ℕ) (d : Slot) → n < length slots → under key (get_or slots n d) ≡ true → IsAmong n (chains (bucket_of key (length slots)))

-- the same but for one place, which is in no chain
pub record IsIndexedBut (place : ℕ) (links : List ℕ) (slots : List Slot) : Type 0 where
  pub chains : ℕ → List ℕ
  pub long : length links ≡ 2 * length slots
  pub linked : (b : ℕ) → b < length slots → IsChain links (length slots) b (chains b)
  pub own : (b n : ℕ) (d : Slot) → b < length slots → IsAmong n (chains b) → bucket_of (get_or slots n d).key (length slots) ≡ b
  pub found : (key : PageKey) (n : ℕ) (d : Slot) → n < length slots → ¬ (n ≡ place) → under key (get_or slots n d) ≡ true → IsAmong n (chains (bucket_of key (length slots)))
  pub out : (b : ℕ) → b < length slots → ¬ (IsAmong place (chains b))
