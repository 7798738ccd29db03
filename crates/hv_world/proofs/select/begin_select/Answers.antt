-- a query that has read nothing, over the tables of its places
use Rattle.std.proofs.Common.{List, ap, ◌∙◌}
use Rattle.std.specs.List.{sum_by}
use Rattle.hv_view.specs.View.{Viewed}
use Rattle.hv_view.specs.declared.held.HeldTable.{HeldTable}
use Rattle.hv_sql.proofs.Grouped.{one_place}
use Rattle.hv_world.specs.Selecting.{pages_of}
use Rattle.hv_world.proofs.Answering.{one_place_read}
use Rattle.hv_world.proofs.Selecting.{selecting_begun}
use Rattle.hv_world.proofs.select.begin_select.Goals as goal

pub select_tables-requires-clause-one_place : goal.select_tables-requires-clause-one_place
select_tables-requires-clause-one_place g c = one_place_read one_place c.args.statement.now.text c.args.tree.now c.requires.is

pub returns-clause-job : goal.returns-clause-job
returns-clause-job g c landings =
    let selected = c.in_ok-query.field-0 in
    selecting_begun g.F.PageFile.tells g.F.PageFile.pages c.args.statement.now c.args.tree.now c.args.catalogue.now c.look_at.result selected.query selected.view c.count_pages-left.result c.new.result c.new-2.result
    c.new.ensures c.new-2.ensures c.requires.is c.requires.sound c.look_at.ensures.at c.look_at.ensures.held c.in_ok-query.ensures.bound c.in_ok-query.ensures.paired c.in_ok-query.ensures.holds c.in_ok-query.ensures.stands
    (c.count_pages-left.ensures ∙ ap (λ (ts : List (HeldTable (Viewed _))). sum_by (λ t. pages_of t.chunks) ts) c.as_slice.ensures) landings
