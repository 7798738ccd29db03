-- the position goes on, or the place is ended
use Rattle.std.proofs.Common.{◌≡◌, ◌<◌, [], Some, length, get_or, map, take, arith, sym, ap, subst, ◌∙◌}
use Rattle.std.specs.Prelude.{◌==◌, position}
use Rattle.std.proofs.lemmas.List.{get_or_default}
use Rattle.std.proofs.lemmas.Option.{slice_get-get_or}
use Rattle.hv_world.specs.Answer.{TableStands}
use Rattle.hv_world.specs.Selecting.{Keeps}
use Rattle.hv_world.proofs.HeldTables.{all_stands}
use Rattle.hv_world.proofs.PlaceRows.{copied_rows}
use Rattle.hv_world.proofs.Selecting.{read_at, keeps_moved, keeps_read, keeps_copied}
use Rattle.hv_world.proofs.select.advance.Goals as goal

pub returns-in-Some-clause-keeps : goal.returns-in-Some-clause-keeps
returns-in-Some-clause-keeps g c =
    let job = c.args.job.now in
    let places = c.as_slice-places.result.now in
    let k = c.len-place.result in
    let at = get_or places k 0 in
    let below : length job.tables < length job.view.tables = omega (arith, c.requires.within, c.requires.placed.paired) in
    let within : k < length places = omega (arith, c.requires.within, c.len-place.ensures, ap length c.as_slice-places.ensures) in
    let found : position (λ other. other == at) (take k places) ≡ Some c.in-Some.earlier =
    ap (λ at. position (λ other. other == at) (take k places)) (get_or_default places k 0 _ within) ∙ sym c.place_of.ensures ∙ c.in-Some.is in
    let stands = read_at job.query.places places (length job.tables) k at c.as_slice-places.ensures c.len-place.ensures c.requires.within (get_or_default places k 0 at within) in
    let r = c.index-as_slice-earlier.result in
    let rows = c.in_ok-rows.rows in
    let same : rows ≡ r = c.in_ok-rows.ensures in
    subst (λ after. Keeps g.F.PageFile.tells g.F.PageFile.pages job after) (sym c.in_ok-end_table.ensures.ended)
    (keeps_copied g.F.PageFile.tells g.F.PageFile.pages job (get_or job.view.tables (length job.tables) (record { chunks = [] })) at rows stands
    (slice_get-get_or job.view.tables (length job.tables) (record { chunks = [] }) below)
    (λ rows_of are. copied_rows rows_of (take k places) job.tables at c.in-Some.earlier rows found
    (are ∙ (λ j. map rows_of (take (sym c.len-place.ensures j) (sym c.as_slice-places.ensures j))))
    (same ∙ c.index-as_slice-earlier.is ∙ (λ j. get_or (c.as_slice.ensures j) c.in-Some.earlier (sym same j))))
    c.requires.placed)

pub next_page-requires : goal.next_page-requires
next_page-requires g c =
    let job = c.args.job.now in
    let below : length job.tables < length job.view.tables = omega (arith, c.requires.within, c.requires.placed.paired) in
    let has = read_at job.view.tables c.as_slice-2.result.now (length job.tables) c.len-place.result c.index-as_slice-place.result c.as_slice-2.ensures c.len-place.ensures below c.index-as_slice-place.is in
    record { stands = all_stands (TableStands g.F.PageFile.tells g.F.PageFile.pages) job.view.tables (length job.tables) c.index-as_slice-place.result c.requires.placed.stands has }

pub returns-in-Some-next_page-clause-keeps : goal.returns-in-Some-next_page-clause-keeps
returns-in-Some-next_page-clause-keeps g c =
    let job = c.args.job.now in
    let below : length job.tables < length job.view.tables = omega (arith, c.requires.within, c.requires.placed.paired) in
    let has = read_at job.view.tables c.as_slice-2.result.now (length job.tables) c.len-place.result c.index-as_slice-place.result c.as_slice-2.ensures c.len-place.ensures below c.index-as_slice-place.is in
    keeps_moved g.F.PageFile.tells g.F.PageFile.pages job c.index-as_slice-place.result c.in-Some-next_page.chunk c.in-Some-next_page.page has c.in-Some-next_page.ensures.leads c.requires.placed

pub returns-in-Some-next_page-clause-reached : goal.returns-in-Some-next_page-clause-reached
returns-in-Some-next_page-clause-reached g c reached =
    let job = c.args.job.now in
    let below : length job.tables < length job.view.tables = omega (arith, c.requires.within, c.requires.placed.paired) in
    let there = c.in-Some-next_page.ensures.there in record {
      table = c.index-as_slice-place.result;
      of_table = read_at job.view.tables c.as_slice-2.result.now (length job.tables) c.len-place.result c.index-as_slice-place.result c.as_slice-2.ensures c.len-place.ensures below c.index-as_slice-place.is;
      chunk = there.0;
      of_chunk = there.1;
      of_page = there.2;
      room = there.3;
    }

pub returns-in_ok-end_table-in-None-clause-keeps : goal.returns-in_ok-end_table-in-None-clause-keeps
returns-in_ok-end_table-in-None-clause-keeps g c =
    let job = c.args.job.now in
    let below : length job.tables < length job.view.tables = omega (arith, c.requires.within, c.requires.placed.paired) in
    let has = read_at job.view.tables c.as_slice-2.result.now (length job.tables) c.len-place.result c.index-as_slice-place.result c.as_slice-2.ensures c.len-place.ensures below c.index-as_slice-place.is in
    subst (λ after. Keeps g.F.PageFile.tells g.F.PageFile.pages job after) (sym c.in_ok-end_table-in-None.ensures.ended)
    (keeps_read g.F.PageFile.tells g.F.PageFile.pages job c.index-as_slice-place.result _ c.replace-rows.result (slice_get-get_or job.query.places (length job.tables) 0 c.requires.within) has
    c.replace-rows.ensures.value c.in-None.ensures.leads c.requires.placed)
