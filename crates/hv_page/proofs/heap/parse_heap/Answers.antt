use Rattle.hv_page.specs.Layout.{written_version}
use Rattle.hv_page.proofs.Rows.{is_found, is_only}
use Rattle.hv_page.proofs.heap.parse_heap.Goals as goal

pub returns-clause-found : goal.returns-clause-found
returns-clause-found c =
    is_found written_version c.args.number c.args.schema.now c.args.page.now c.view_of.result (λ i. (c.type_inv.page i).fits) c.requires c.view_of.ensures.read c.view_of.ensures.fault

pub returns-clause-only : goal.returns-clause-only
returns-clause-only c =
    is_only written_version c.args.number c.args.schema.now c.args.page.now c.view_of.result c.ranges.number.fits c.columns-columns.ensures.schema.some c.view_of.ensures.read c.view_of.ensures.fault
