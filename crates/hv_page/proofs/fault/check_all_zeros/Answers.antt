use Rattle.std.proofs.Common.{◌+◌, length, ap, ◌∙◌}
use Rattle.hv_page.specs.Fault.{zeros_fault}
use Rattle.hv_page.proofs.Points.{zeros_none, zeros_stop, zeros_go_on, zeros_end}
use Rattle.hv_page.proofs.fault.check_all_zeros.Goals as goal

pub returns-then-are_zeros : goal.returns-then-are_zeros
returns-then-are_zeros c = ap (zeros_fault c.args.from) (c.are_zeros.ensures c.if-are_zeros.true) ∙ zeros_none c.args.from (length c.args.bytes.now)

pub returns-then-byte-ne0 : goal.returns-then-byte-ne0
returns-then-byte-ne0 c = c.loop-at.invariant ∙ zeros_stop c.args.from c.args.bytes.now c.loop-at.at c.loop-at-test.true c.if-byte-ne0.true

pub loop-at-preserved : goal.loop-at-preserved
loop-at-preserved c = c.loop-at.invariant ∙ zeros_go_on c.args.from c.args.bytes.now c.loop-at.at c.loop-at-test.true c.if-byte-ne0.false

pub returns : goal.returns
returns c = c.loop-at.invariant ∙ zeros_end (c.args.from + c.loop-at.at) c.args.bytes.now c.loop-at.at c.loop-at-test.false
