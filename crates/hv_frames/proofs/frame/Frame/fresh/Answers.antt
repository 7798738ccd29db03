use Rattle.std.proofs.Common.{ap₂}
use Rattle.hv_frames.specs.Frames.{zero_bytes}
use Rattle.hv_frames.proofs.frame.Frame.fresh.Goals as goal

-- the owner's name is the mark's address, and each byte of the page is 0
pub returns : goal.returns
unfolding zero_bytes
returns c = ap₂ (λ b bytes. record { owner = b.ptr; number = c.args.number; bytes = bytes }) c.of.ensures c.in_ok-page.ensures.ok
