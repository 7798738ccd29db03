use Rattle.std.proofs.Common.{rules, ◌≤◌, length, sym, ◌∙◌, arith, refl}
use Rattle.hv_row.proofs.Reading.{row_found, spelling_alone, is_fault}
use Rattle.hv_row.proofs.Steps.{column_at, fault_here, fault_on, fault_left, fault_none}
use Rattle.hv_row.proofs.spelling.check.Goals as goal

pub returns-in-None-clause-fault : goal.returns-in-None-clause-fault
returns-in-None-clause-fault c =
    let place = column_at _ c.args.schema.now c.loop-column.column-index c.column-item.result c.columns-column-items.ensures.same c.loop-column-test.true c.column-item.is in
    sym c.loop-column.invariant.fault ∙ fault_here c.args.schema.now c.loop-column.column-index c.loop-column.at c.column-item.result c.args.bytes.now place.0 place.1 c.in-None.ensures.same

pub returns-in-None-clause-spelt : goal.returns-in-None-clause-spelt
returns-in-None-clause-spelt c =
    (λ no. absurd cc, λ spelling. is_fault (returns-in-None-clause-fault c) spelling)

pub loop-column-preserved : goal.loop-column-preserved
loop-column-preserved c =
    let place = column_at _ c.args.schema.now c.loop-column.column-index c.column-item.result c.columns-column-items.ensures.same c.loop-column-test.true c.column-item.is in
    record {
      within = search rules;
      fault = sym (fault_on c.args.schema.now c.loop-column.column-index c.loop-column.at c.column-item.result c.args.bytes.now c.in-Some.length place.0 place.1 c.in-Some.ensures.same) ∙ c.loop-column.invariant.fault;
    }

pub returns-then-at-bytes-clause-fault : goal.returns-then-at-bytes-clause-fault
returns-then-at-bytes-clause-fault c =
    let all : length c.args.schema.now ≤ c.loop-column.column-index = rw c.columns-column-items.ensures.same at c.loop-column-test.false in
    sym c.loop-column.invariant.fault ∙ fault_left c.args.schema.now c.loop-column.column-index c.loop-column.at c.args.bytes.now all c.if-at-bytes.true

pub returns-then-at-bytes-clause-spelt : goal.returns-then-at-bytes-clause-spelt
returns-then-at-bytes-clause-spelt c =
    (λ no. absurd cc, λ spelling. is_fault (returns-then-at-bytes-clause-fault c) spelling)

pub returns-clause-fault : goal.returns-clause-fault
returns-clause-fault c =
    let all : length c.args.schema.now ≤ c.loop-column.column-index = rw c.columns-column-items.ensures.same at c.loop-column-test.false in
    sym c.loop-column.invariant.fault ∙ fault_none c.args.schema.now c.loop-column.column-index c.loop-column.at c.args.bytes.now all c.if-at-bytes.false

pub returns-clause-spelt : goal.returns-clause-spelt
returns-clause-spelt c =
    (λ _. row_found 0 c.args.schema.now c.args.bytes.now (λ i. omega (arith, c.type_inv.bytes i)) (returns-clause-fault c), λ _. refl)

pub returns-clause-alone : goal.returns-clause-alone
returns-clause-alone c =
    λ rest longer. spelling_alone c.args.schema.now c.args.bytes.now rest ((returns-clause-spelt c).0 refl) longer
