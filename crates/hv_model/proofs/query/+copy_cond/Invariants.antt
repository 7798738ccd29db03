-- The copies so far are the conditions gone through.
use Rattle.std.proofs.Common.{◌≡◌, take}
use Rattle.hv_model.proofs.query.+copy_cond.Given as goal

abbrev pub invariant-copy_conds-loop-cond : goal.invariant-copy_conds-loop-cond
invariant-copy_conds-loop-cond l = l.copies ≡ take l.cond-index l.conds
