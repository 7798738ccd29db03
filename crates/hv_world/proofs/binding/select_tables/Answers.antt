-- where the places are allowed each has its head, and the select is refused for its names and types alone
use Rattle.std.proofs.Common.{◌≡◌, Some, List, IfErr, length, map, take, sym, ap, subst, ◌∙◌}
use Rattle.hv_bind.specs.Cause.{IsFirstRefusal}
use Rattle.hv_model.specs.declared.tree.PlaceAst.{PlaceAst}
use Rattle.hv_model.specs.declared.query.BoundQuery.{BoundQuery}
use Rattle.hv_model.specs.Scope.{places_refusal}
use Rattle.hv_model.specs.Selected.{select_refusal}
use Rattle.hv_catalogue.specs.Holding.{IsUntaken}
use Rattle.hv_catalogue.specs.declared.taken.SnapFault.TheVariants as untaken
use Rattle.hv_world.specs.Stored.{database_of}
use Rattle.hv_world.proofs.Landed.{handed_on}
use Rattle.hv_world.proofs.SelectBinding.{names_of, are_allowed, refusal_is, query_is, view_paired, view_holds, view_stands, view_short, taken_heads, refused_taken, refused_absent}
use Rattle.hv_world.proofs.binding.select_tables.Goals as goal

pub returns-in-Err-NoTable-clause-refused : goal.returns-in-Err-NoTable-clause-refused
returns-in-Err-NoTable-clause-refused g c =
    let held = c.args.catalogue.now in
    let x = c.args.select.now in
    let named : c.as_slice-2.result.now ≡ names_of (take 4 x.places) = c.as_slice-2.ensures.value ∙ c.in_ok-names.ensures.names ∙ ap (λ (ps : List PlaceAst). names_of (take 4 ps)) c.as_slice.ensures in
    let un : IsUntaken held c.as_slice-2.result.now (untaken.NoTable c.in-Err-NoTable.place c.in-Err-NoTable.field-0-1) =
    subst (λ fault. IsUntaken held c.as_slice-2.result.now fault) c.in-Err-NoTable.field-0-is c.in-Err-NoTable.ensures.cause in
    refused_absent held x c.as_slice-2.result.now c.in-Err-NoTable.place c.absent_fault.result named un.0
    (subst (λ n. IsFirstRefusal (places_refusal x.places (Some n)) c.absent_fault.result) c.in-Err-NoTable.place-is c.absent_fault.ensures)

pub returns-in-Some-clause-refused : goal.returns-in-Some-clause-refused
returns-in-Some-clause-refused g c =
    let x = c.args.select.now in
    let named : c.as_slice-2.result.now ≡ names_of (take 4 x.places) = c.as_slice-2.ensures.value ∙ c.in_ok-names.ensures.names ∙ ap (λ (ps : List PlaceAst). names_of (take 4 ps)) c.as_slice.ensures in
    refused_taken c.args.catalogue.now x c.as_slice-2.result.now c.in-Ok.taken c.in-Some.cause named c.in-Ok.ensures.taken (sym c.places.ensures ∙ c.in-Some.is)

pub bind-requires-clause-heads : goal.bind-requires-clause-heads
bind-requires-clause-heads g c =
    let x = c.args.select.now in
    let named : c.as_slice-2.result.now ≡ names_of (take 4 x.places) = c.as_slice-2.ensures.value ∙ c.in_ok-names.ensures.names ∙ ap (λ (ps : List PlaceAst). names_of (take 4 ps)) c.as_slice.ensures in
    let had = taken_heads c.args.catalogue.now x c.as_slice-2.result.now c.in-Ok.taken c.places.result named c.in-Ok.ensures.taken c.places.ensures c.in_default.is in
    ap length c.as_slice-3.ensures ∙ ap length had.are ∙ (are_allowed (database_of c.args.catalogue.now) x.places had.allowed).heads

pub returns-in_err-query-clause-refused : goal.returns-in_err-query-clause-refused
returns-in_err-query-clause-refused g c =
    let held = c.args.catalogue.now in
    let x = c.args.select.now in
    let named : c.as_slice-2.result.now ≡ names_of (take 4 x.places) = c.as_slice-2.ensures.value ∙ c.in_ok-names.ensures.names ∙ ap (λ (ps : List PlaceAst). names_of (take 4 ps)) c.as_slice.ensures in
    let had = taken_heads held x c.as_slice-2.result.now c.in-Ok.taken c.places.result named c.in-Ok.ensures.taken c.places.ensures c.in_default.is in
    let is = refusal_is x (database_of held) c.as_slice-3.result.now had.allowed (c.as_slice-3.ensures ∙ had.are) in
    handed_on c.from_residual-in_err-query.result c.in_err-query.field-0.0 (λ r. IfErr r (λ fault. IsFirstRefusal (select_refusal x (database_of held)) fault)) c.from_residual-in_err-query.ensures.1
    (subst (λ o. IsFirstRefusal o c.in_err-query.field-0.0) (sym is) c.in_err-query.ensures.refused)

pub returns-clause-bound : goal.returns-clause-bound
returns-clause-bound g c =
    let held = c.args.catalogue.now in
    let x = c.args.select.now in
    let named : c.as_slice-2.result.now ≡ names_of (take 4 x.places) = c.as_slice-2.ensures.value ∙ c.in_ok-names.ensures.names ∙ ap (λ (ps : List PlaceAst). names_of (take 4 ps)) c.as_slice.ensures in
    let had = taken_heads held x c.as_slice-2.result.now c.in-Ok.taken c.places.result named c.in-Ok.ensures.taken c.places.ensures c.in_default.is in
    query_is x (database_of held) c.as_slice-3.result.now c.in_ok-query.query had.allowed (c.as_slice-3.ensures ∙ had.are) c.in_ok-query.ensures.allowed c.in_ok-query.ensures.bound

pub returns-clause-paired : goal.returns-clause-paired
returns-clause-paired g c =
    view_paired g.F.PageFile.tells g.F.PageFile.pages c.args.catalogue.now c.as_slice-2.result.now c.in-Ok.taken c.in-Ok.ensures.taken c.in_ok-query.query.places
    (ap (λ (q : BoundQuery). q.places) c.in_ok-query.ensures.bound ∙ ap (map (λ h. h.number)) c.as_slice-3.ensures)

pub returns-clause-holds : goal.returns-clause-holds
returns-clause-holds g c =
    view_holds g.F.PageFile.tells g.F.PageFile.pages c.args.catalogue.now c.as_slice-2.result.now c.in-Ok.taken c.requires.sound c.in-Ok.ensures.taken c.in_ok-query.query.places
    (ap (λ (q : BoundQuery). q.places) c.in_ok-query.ensures.bound ∙ ap (map (λ h. h.number)) c.as_slice-3.ensures)

pub returns-clause-stands : goal.returns-clause-stands
returns-clause-stands g c = view_stands g.F.PageFile.tells g.F.PageFile.pages c.args.catalogue.now c.as_slice-2.result.now c.in-Ok.taken c.requires.sound c.in-Ok.ensures.taken

pub returns-clause-short : goal.returns-clause-short
returns-clause-short g c =
    view_short g.F.PageFile.tells g.F.PageFile.pages c.args.catalogue.now c.as_slice-2.result.now c.in-Ok.taken c.length-length.ensures.kept c.in-Ok.ensures.taken
