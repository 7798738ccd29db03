use Rattle.std.proofs.Common.{◌≡◌, ◌+◌, ◌*◌, ◌-◌, ◌≤◌, ◌∷◌, [], sym, ap, ◌∙◌, length, arith, length-append}
use Rattle.hv_page.specs.Heap.{heap_kind}
use Rattle.hv_page.specs.Fault.{entries_of}
use Rattle.hv_row.specs.Row.{row_bytes}
use Rattle.hv_heap.specs.Writer.{Packing, page_at}
use Rattle.hv_heap.proofs.Begun.{begun_entries, begun_as_read, begun_moved}
use Rattle.hv_heap.proofs.Placing.{placed_here, placed_next}
use Rattle.hv_heap.specs.contracts.writer.HeapPages.{the_view}
use Rattle.hv_heap.proofs.writer.HeapPages.place.Goals as goal
use Rattle.hv_heap.proofs.writer.HeapPages.place.Goals.{then-full, else-full}

pub invariant_of-self : goal.invariant_of-self
invariant_of-self c =
    let inside = c.self.inside in
    let entries = entries_of (page_at inside.page_from inside.page.value) in
    let lent = c.as_mut_slice.ensures.value ∙ c.deref_mut.ensures.value in
    let page = ap (page_at inside.page_from) lent in
    let long : length c.put-full.new.room ≡ 8178 = omega (arith, c.put-full.auto.room, ap length lent, c.self.invariant.3) in
    let few : 2 * inside.count ≤ 4080 = omega (arith, c.self.invariant.0.fit, c.self.invariant.1) in
    elim c.if-full.branch [
      | then-full w ↦
          let below : inside.page_from ≤ 4082 = omega (arith, c.self.invariant.2) in
          rw w.self-inside-is (begun_as_read w.turn.ensures.begun, sym (ap length (begun_entries w.turn.ensures.begun)), omega arith, w.turn.ensures.long, below, ap length w.turn.ensures.finished ∙ long, omega arith)
      | else-full w ↦
          let begun = c.put-full.ensures.pushed heap_kind inside.number entries (begun_moved page c.self.invariant.0) w.if-full.false in
          let count : inside.count + 1 ≡ length (entries_of (page_at (inside.page_from - 2) c.put-full.new.room)) =
          omega (arith, c.self.invariant.1, ap length (begun_entries begun), length-append entries (c.args.entry.now ∷ [])) in
          let start : (inside.page_from - 2) + 2 * (inside.count + 1) ≡ 4082 = omega (arith, c.self.invariant.2, few) in
          rw w.self-inside-is (begun_as_read begun, count, start, long, c.self.invariant.4, c.self.invariant.5, omega arith)
    ]

pub returns : goal.returns
returns c row spelt =
    let inside = c.self.inside in
    let entries = entries_of (page_at inside.page_from inside.page.value) in
    let lent = c.as_mut_slice.ensures.value ∙ c.deref_mut.ensures.value in
    let page = ap (page_at inside.page_from) lent in
    let entry = c.args.entry.now in
    let own : entry ≡ row_bytes inside.schema row = spelt ∙ ap (λ (p : Packing). row_bytes p.schema row) (sym c.self.view_is) in
    elim c.if-full.branch [
      | then-full w ↦
          let over = c.put-full.ensures.full heap_kind inside.number entries (begun_moved page c.self.invariant.0) w.if-full.true in
          let finished = ap (page_at inside.page_from) (w.turn.ensures.finished ∙ c.put-full.ensures.same w.if-full.true ∙ lent) ∙ c.self.invariant.0.whole in
          rw (← c.self.view_is, w.self-inside-is) (placed_next (the_view inside) row (page_at 4080 w.turn.new.page.value) (page_at inside.page_from w.turn.new.done.value) entry c.put-full.result own w.if-full.true over w.turn.ensures.begun finished)
      | else-full w ↦
          let begun = c.put-full.ensures.pushed heap_kind inside.number entries (begun_moved page c.self.invariant.0) w.if-full.false in
          rw (← c.self.view_is, w.self-inside-is) (placed_here (the_view inside) row (page_at (inside.page_from - 2) c.put-full.new.room) entry inside.count c.put-full.result own c.self.invariant.1 w.if-full.false begun)
    ]
