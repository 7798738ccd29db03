-- Each frame is in hand, then under way, then in hand again.
use Rattle.std.proofs.Common.{rules, ◌≡◌, ◌+◌, length, refl, ap, ◌∙◌, arith}
use Rattle.std.proofs.lemmas.List.FromFn.{length-map-range_with_len}
use Rattle.hv_frames.specs.Frames.{fresh_frame, fresh_frames}
use Rattle.hv_frames.proofs.Frames.{AreAll-fresh}
use Rattle.hv_dev.proofs.AllOut.{all_at_first, all_submitted, all_reaped, all_at_last, one_more, one_less}
use Rattle.hv_dev_tests.proofs.Ports.{AreBelow-free, AreBelow-more}
use Rattle.hv_dev_tests.proofs.reads.read_run.Goals as goal

pub submits-init : goal.submits-init
submits-init g c =
    let owned = c.expect-owner.result.0 in
    let frames = c.expect-owner.result.1.items in
    let count : owned.count ≡ c.args.count = rw c.expect-owner.ensures at c.make.ensures.count in
    let are : frames ≡ fresh_frames owned.name c.args.count = rw c.expect-owner.ensures at c.make.ensures.frames in
    let long : length frames ≡ c.args.count = ap length are ∙ length-map-range_with_len (fresh_frame owned.name) 0 c.args.count in
    record {
      in_hand = search rules;
      under_way = ap length c.requires.none;
      tags = rw c.requires.none (search rules);
      room = refl;
      written = refl;
      all = all_at_first owned frames _ (AreAll-fresh owned c.args.count frames count are) c.requires.none;
    }

pub submits-preserved : goal.submits-preserved
submits-preserved g c =
    let popped = rw c.unwrap-frame.ensures at c.pop.ensures.items in
    let fewer = rw c.unwrap-frame.ensures at c.pop.ensures.cases in
    let flown = ap (λ r. r.in_flight) c.submit.ensures.under_way in
    record {
      in_hand = omega (arith, fewer, c.submits.invariant.in_hand);
      under_way = one_more _ _ _ flown ∙ ap (λ n. n + 1) c.submits.invariant.under_way;
      tags = AreBelow-more c.submits.at _ _ _ _ flown c.from.ensures (search rules) c.submits.invariant.tags;
      room = ap (λ r. r.room) c.submit.ensures.under_way ∙ c.submits.invariant.room;
      written = c.submit.ensures.kept ∙ c.submits.invariant.written;
      all = all_submitted _ _ _ _ _ _ _ popped flown refl c.submits.invariant.all;
    }

pub submit-requires-clause-free : goal.submit-requires-clause-free
submit-requires-clause-free g c = rw c.from.ensures (AreBelow-free _ _ c.submits.invariant.tags)

pub reaps-preserved : goal.reaps-preserved
reaps-preserved g c =
    let r = c.reap-tag.ensures.back in
    let fewer = one_less _ _ _ _ _ r.were r.are in
    record {
      under_way = omega (arith, fewer, c.reaps.invariant.under_way);
      seen = search rules;
      back = search rules;
      room = r.room ∙ c.reaps.invariant.room;
      written = c.reap-tag.ensures.kept ∙ c.reaps.invariant.written;
      all = all_reaped _ _ _ _ _ _ _ _ _ c.push_reserved-in-reaps.ensures.items r.were r.are (cc (r.owner, r.number)) c.reaps.invariant.all;
    }

pub end-requires : goal.end-requires
end-requires g c =
    let none : length (g.P.PageSink.reading c.reaps.port).in_flight ≡ 0 = omega (arith, c.reaps.invariant.under_way, c.reaps-test.false) in
    all_at_last _ _ _ none c.reaps.invariant.all
