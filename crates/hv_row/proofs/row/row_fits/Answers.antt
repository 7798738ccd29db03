use Rattle.std.proofs.Common.{rules}
use Rattle.hv_row.proofs.Rows.{row_fits_length}
use Rattle.hv_row.proofs.row.row_fits.Goals as goal

pub returns-then-row-schema : goal.returns-then-row-schema
returns-then-row-schema c =
    (λ is. search rules, λ fits. absurd (c.if-row-schema.true (row_fits_length _ _ fits)))
