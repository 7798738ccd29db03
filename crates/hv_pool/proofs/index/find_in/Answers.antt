use Rattle.std.proofs.Common.{◌∙◌, refl, sym, ap}
use Rattle.hv_pool.specs.Slots.{under}
use Rattle.hv_pool.proofs.Places.{get_or_any}
use Rattle.hv_pool.proofs.Indexed.{bucket_below, ahead_first, ahead_next, ahead_stops, ahead_ends}
use Rattle.hv_pool.proofs.index.find_in.Goals as goal

pub loop-passed-init : goal.loop-passed-init
loop-passed-init c = ahead_first c.args.links.now c.args.slots.now c.args.key.now c.args.bucket c.requires.indexed c.requires.bucket (bucket_below c.args.bucket _ c.args.key.now c.requires.bucket c.requires.some)

pub returns-then-n-slots-clause-none : goal.returns-then-n-slots-clause-none
returns-then-n-slots-clause-none c = ahead_stops c.args.links.now c.args.slots.now c.args.key.now c.loop-passed.at c.loop-passed._passed c.loop-passed.invariant c.if-n-slots.true

-- the place at the link doesn't stand under the key
pub loop-passed-preserved : goal.loop-passed-preserved
loop-passed-preserved c =
    ahead_next c.args.links.now c.args.slots.now c.args.key.now c.loop-passed.at c.loop-passed._passed _ c.loop-passed.invariant refl c.if-n-slots.false
    (λ d. ap (under c.args.key.now) (get_or_any c.args.slots.now _ d c.index-slots-n.result c.if-n-slots.false ∙ sym c.index-slots-n.is) ∙ sym c.is_under.ensures ∙ c.if-is_under.false)

pub returns-clause-none : goal.returns-clause-none
returns-clause-none c = ahead_ends c.args.links.now c.args.slots.now c.args.key.now c.loop-passed.at c.loop-passed._passed c.loop-passed.invariant c.loop-passed-test.false
