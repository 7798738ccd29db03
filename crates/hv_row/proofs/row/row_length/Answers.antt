use Rattle.std.proofs.Common.{rules, arith}
use Rattle.hv_row.proofs.Rows.{row_fits_length}
use Rattle.hv_row.proofs.row.row_length.Goals as goal

pub loop-at-init : goal.loop-at-init
loop-at-init c = record {
  same = row_fits_length _ _ c.requires.fits;
  fits = c.requires.fits;
  total = omega arith;
  small = search rules;
}
