-- What is refused last, and that nothing is.
use Rattle.std.proofs.Common.{None, rules, arith, subst, sym, ◌∙◌}
use Rattle.hv_model.specs.declared.query.BoundQuery.{BoundQuery}
use Rattle.hv_model.specs.Fits.{FitsSchemas}
use Rattle.hv_model.specs.Bound.{schemas_of, bind_refusal}
use Rattle.hv_bind.specs.Cause.{IsFirstRefusal}
use Rattle.hv_bind.proofs.Fitting.{query_is, query_fits}
use Rattle.hv_bind.proofs.Refusing.{few_places, keys_last, first_refusal_same}
use Rattle.hv_bind.proofs.binding.bind.Goals as goal

pub invariant_of-scope : goal.invariant_of-scope
invariant_of-scope c = record { few = omega (arith, few_places c.args.ast.now.places None c.requires.places) }

pub returns-in_err-order-clause-refused : goal.returns-in_err-order-clause-refused
returns-in_err-order-clause-refused c =
    let last = keys_last c.args.ast.now c.args.heads.now c.as_slice.result.now c.as_slice-5.result.now c.as_slice-7.result.now c.in_ok-items.items c.as_slice-8.result.now c.in_ok-check_names.ensures c.in_ok-check_grouping.ensures
    c.as_slice.ensures c.as_slice-5.ensures c.as_slice-8.ensures c.as_slice-7.ensures c.in_ok-items.ensures in
    let explained : IsFirstRefusal (bind_refusal c.args.ast.now c.args.heads.now) c.in_err-order.field-0.0 = first_refusal_same _ _ _ last c.in_err-order.ensures.refused in
    search rules

pub returns-clause-allowed : goal.returns-clause-allowed
returns-clause-allowed c =
    sym (keys_last c.args.ast.now c.args.heads.now c.as_slice.result.now c.as_slice-5.result.now c.as_slice-7.result.now c.in_ok-items.items c.as_slice-8.result.now c.in_ok-check_names.ensures c.in_ok-check_grouping.ensures
    c.as_slice.ensures c.as_slice-5.ensures c.as_slice-8.ensures c.as_slice-7.ensures c.in_ok-items.ensures) ∙ c.in_ok-order.ensures.allowed

pub returns-clause-fits : goal.returns-clause-fits
returns-clause-fits c =
    let x = c.args.ast.now in
    let heads = c.args.heads.now in
    let same = query_is x heads c.as_slice.result.now c.as_slice-5.result.now c.as_slice-2.result.now c.as_slice-8.result.now c.as_slice-7.result.now
    c.in_ok-numbers.field-0 c.in_ok-cond_of.field-0 c.in_ok-items.items c.is_grouped.result c.in_ok-groups.groups c.in_ok-order.order
    c.as_slice.ensures c.as_slice-5.ensures c.as_slice-2.ensures c.as_slice-8.ensures c.as_slice-7.ensures
    c.in_ok-numbers.ensures c.in_ok-cond_of.ensures c.in_ok-items.ensures c.is_grouped.ensures c.in_ok-groups.ensures c.in_ok-order.ensures.keys in
    subst (λ (q : BoundQuery). FitsSchemas (schemas_of heads) q) (sym same)
    (query_fits x heads c.requires.heads c.requires.one_place (returns-clause-allowed c))
