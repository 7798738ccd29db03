-- The frames of a pool that are away.
use Rattle.std.specs.Prelude.{◌≡◌, ℕ, Bool, nat_eq, All, IfSome, List, length}
use Rattle.std.specs.List.{count_by}
use Rattle.sha2.specs.Sha256.{sha256}
use Rattle.hv_frames.specs.Frames.{Framed, Owned}
use Rattle.hv_pool.specs.Slots.{Pooled, is_away, is_gone}

-- the frame has the number
abbrev pub has_number : ℕ → Framed → Bool
has_number n f = nat_eq f.number n

-- the bytes of the frame have the digest
abbrev pub HasPage : List ℕ → Framed → Type 0
HasPage digest f = sha256 f.bytes ≡ digest

-- the pool has all frames of the owner, and the list those that are away; each has a page of the digest
pub record AreOut (owned : Owned) (digest : List ℕ) (p : Pooled) (frames : List Framed) : Type 0 where
  pub owner : p.owner ≡ owned.name
  pub all : length p.slots ≡ owned.count
  pub its : All (λ f. f.owner ≡ p.owner) frames
  pub numbers : (n : ℕ) → count_by (has_number n) frames ≡ count_by (is_away n) p.slots
  pub count : length frames ≡ count_by is_gone p.slots
  pub here : All (λ s. IfSome s.frame (HasPage digest)) p.slots
  pub away : All (HasPage digest) frames
