use Rattle.std.proofs.Common.{get_or, refl, arith}
use Rattle.hv_pool.proofs.Places.{no_slot}
use Rattle.hv_pool.proofs.Indexed.{bucket_below, passed_first, passed_next, passed_stops, passed_ends, passed_cuts}
use Rattle.hv_pool.proofs.index.unlink.Goals as goal

pub loop-passed-init : goal.loop-passed-init
loop-passed-init c = record {
  passed = passed_first c.args.links.now c.args.slots.now c.args.bucket c.args.place c.requires.indexed (bucket_below c.args.bucket _ (get_or c.args.slots.now c.args.place no_slot).key (c.requires.bucket no_slot) (omega (arith, c.requires.within)));
  long = refl;
}

pub returns-then-n-slots-clause-indexed : goal.returns-then-n-slots-clause-indexed
returns-then-n-slots-clause-indexed c = passed_stops c.loop-passed.links c.args.slots.now c.args.bucket c.args.place c.loop-passed.at c.loop-passed._passed c.loop-passed.invariant.passed c.requires.bucket c.if-n-slots.true

pub returns-then-n-place-clause-indexed : goal.returns-then-n-place-clause-indexed
returns-then-n-place-clause-indexed c =
    passed_cuts c.loop-passed.links c.args.slots.now c.args.bucket c.args.place c.loop-passed.at c.loop-passed._passed c.loop-passed.invariant.passed
    (bucket_below c.args.bucket _ (get_or c.args.slots.now c.args.place no_slot).key (c.requires.bucket no_slot) (omega (arith, c.requires.within))) c.requires.bucket c.if-n-place.true c.requires.within

-- the place at the link is another one
pub loop-passed-preserved : goal.loop-passed-preserved
loop-passed-preserved c = record {
  passed = passed_next c.loop-passed.links c.args.slots.now c.args.bucket c.args.place c.loop-passed.at c.loop-passed._passed _ c.loop-passed.invariant.passed refl c.if-n-slots.false c.if-n-place.false;
  long = c.loop-passed.invariant.long;
}

pub returns-clause-indexed : goal.returns-clause-indexed
returns-clause-indexed c = passed_ends c.loop-passed.links c.args.slots.now c.args.bucket c.args.place c.loop-passed.at c.loop-passed._passed c.loop-passed.invariant.passed c.requires.bucket c.loop-passed-test.false
