use Rattle.std.proofs.Common.{ap, ◌∙◌}
use Rattle.hv_row.specs.Packed.{row_spelled}
use Rattle.hv_row.proofs.Spelled.{row_again}
use Rattle.hv_row.proofs.spelling.decode.Goals as goal

pub returns-clause-only : goal.returns-clause-only
returns-clause-only c =
    λ row fits spelt. c.in_ok-decode_spelled.ensures.row ∙ ap (row_spelled c.args.schema.now) spelt ∙ row_again c.args.schema.now row fits
