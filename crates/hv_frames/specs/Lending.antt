-- What a frame ends as, where its bytes were lent.
use Rattle.std.specs.Prelude.{ℕ, List}
use Rattle.std.specs.Borrow.{Lends, MutBor, Fml, Array, u8}
use Rattle.hv_frames.specs.Frames.{Framed, with_bytes}
use Rattle.hv_frames.specs.contracts.frame.Frame.{the_row}

-- the frame ends with its owner and its number, and with the last bytes behind the slice
abbrev pub LendsBytes : MutBor Framed → MutBor (List ℕ) → Fml
LendsBytes frame bytes = Lends the_row (Array u8 0) frame bytes (with_bytes frame.now)
