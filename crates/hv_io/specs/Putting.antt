-- What became of bytes that were handed to a sink.
use Rattle.std.specs.Prelude.{◌≡◌, ℕ, ◌≤◌, List, ◌++◌, length, take}
use Rattle.hv_io.specs.Bytes.{Takes, Seen}
use Rattle.hv_io.specs.Counts.{Rose}
use Rattle.hv_io.specs.declared.writing.PutAll.{PutAll}
use Rattle.hv_io.specs.declared.writing.PutAll.TheVariants.{Failed, Zero}

-- all bytes were taken, and no count rose
pub record TookAll (start : Seen) (bytes : List ℕ) (now : Seen) : Type 0 where
  pub taken : Takes start.taken now.taken bytes
  pub faults : now.faults ≡ start.faults
  pub zeros : now.zeros ≡ start.zeros

-- the count that tells the cause rose, and the other did not
abbrev pub Counted : PutAll → Seen → Seen → Type 0
Counted Failed start now = Rose start.faults now.faults × (now.zeros ≡ start.zeros)
Counted Zero start now = Rose start.zeros now.zeros × (now.faults ≡ start.faults)

-- the first `sent` bytes were taken, and then the sink failed or took nothing
pub record Stopped (start : Seen) (bytes : List ℕ) (now : Seen) (cause : PutAll) : Type 0 where
  pub sent : ℕ
  pub within : sent ≤ length bytes
  pub taken : Takes start.taken now.taken (take sent bytes)
  pub counted : Counted cause start now

-- the first bytes were taken with no count risen, and the rest is still to be handed over
pub record Underway (start : Seen) (bytes : List ℕ) (now : Seen) (rest : List ℕ) : Type 0 where
  pub out : List ℕ
  pub whole : out ++ rest ≡ bytes
  pub took : TookAll start out now
