-- a chunk that stands is taken out
use Rattle.std.proofs.Common.{◌≡◌, ℕ, true, false, Some, sym, ap, subst, ◌∙◌}
use Rattle.std.specs.Prelude.{nat_le}
use Rattle.hv_model.specs.declared.catalogue.Database.{Database}
use Rattle.hv_model.specs.declared.catalogue.Command.TheVariants as command
use Rattle.hv_model.specs.declared.catalogue.Detail.TheVariants as detail
use Rattle.hv_model.specs.declared.catalogue.StepRefusal.TheVariants as unstepped
use Rattle.hv_model.specs.Causes.{first_of}
use Rattle.hv_model.specs.Database.{most_entries, has_chunk, table_number, with_purged, purge_causes}
use Rattle.hv_catalogue.specs.declared.command.ApplyFault.{ApplyFault}
use Rattle.hv_catalogue.specs.Holding.{Holding, AreBuilt, IsStepped, IsUnapplied}
use Rattle.hv_catalogue.proofs.Kept.{purged_built}
use Rattle.hv_catalogue.proofs.Named.{element}
use Rattle.hv_catalogue.proofs.Steps.{applied, given, not_given, purge_is, purge_missing, purge_full, purge_free, fault_tells, short_of_memory}
use Rattle.hv_catalogue.proofs.catalogue.Catalogue.purge.Goals as goal

pub returns-in_default-chunk_number-clause-cause :
    goal.returns-in_default-chunk_number-clause-cause
returns-in_default-chunk_number-clause-cause g c =
    let before = c.args.self.now in
    let number : table_number before.database c.args.table ≡ Some c.in-Some.at = sym c.number.ensures.number ∙ c.in-Some.is in
    let found = element before.database.tables c.in-Some.at c.in-Some.ensures.within in
    let missing : has_chunk c.args.chunk found.0 ≡ false = c.in_default-chunk_number.ensures found.0 found.1 in
    let causes = first_of (purge_causes found.0 c.args.chunk before.database) in
    let why = unstepped.NoChunk c.args.chunk in
    let asked = command.Purge c.args.table c.args.chunk in
    subst (λ (f : ApplyFault). IsUnapplied before asked f) (sym c.fault_of.ensures)
    (fault_tells before asked why c.length-in_default-chunk_number.result
    (purge_is before.database c.args.table c.in-Some.at found.0 c.args.chunk number found.1
    ∙ not_given causes (with_purged c.in-Some.at found.0 c.args.chunk before.database) why (purge_missing found.0 c.args.chunk before.database missing))
    c.length-in_default-chunk_number.ensures.history)

pub returns-then-is_full-clause-cause : goal.returns-then-is_full-clause-cause
returns-then-is_full-clause-cause g c =
    let before = c.args.self.now in
    let number : table_number before.database c.args.table ≡ Some c.in-Some.at = sym c.number.ensures.number ∙ c.in-Some.is in
    let found = element before.database.tables c.in-Some.at c.in-Some.ensures.within in
    let has : has_chunk c.args.chunk found.0 ≡ true = (c.in-Some-chunk_number.ensures found.0 found.1).1 in
    let full : nat_le most_entries before.database.length ≡ true = sym c.is_full.ensures ∙ c.if-is_full.true in
    let causes = first_of (purge_causes found.0 c.args.chunk before.database) in
    let asked = command.Purge c.args.table c.args.chunk in
    subst (λ (f : ApplyFault). IsUnapplied before asked f) (sym c.fault_of-then-is_full.ensures)
    (fault_tells before asked unstepped.HistoryFull c.length-then-is_full.result
    (purge_is before.database c.args.table c.in-Some.at found.0 c.args.chunk number found.1
    ∙ not_given causes (with_purged c.in-Some.at found.0 c.args.chunk before.database) unstepped.HistoryFull (purge_full found.0 c.args.chunk before.database has full))
    c.length-then-is_full.ensures.history)

pub take_chunk-requires-clause-accepted : goal.take_chunk-requires-clause-accepted
take_chunk-requires-clause-accepted g c t stands =
    let told = c.in-Some-chunk_number.ensures t stands in
    let has : has_chunk c.in-Some-chunk_number.found t ≡ true = ap (λ (n : ℕ). has_chunk n t) told.0 ∙ told.1 in
    let room : nat_le most_entries c.args.self.now.database.length ≡ false = sym c.is_full.ensures ∙ c.if-is_full.false in
    purge_free t c.in-Some-chunk_number.found c.args.self.now.database has room

pub returns-in_err-take_chunk-clause-cause : goal.returns-in_err-take_chunk-clause-cause
returns-in_err-take_chunk-clause-cause g c =
    let before = c.args.self.now in
    let number : table_number before.database c.args.table ≡ Some c.in-Some.at = sym c.number.ensures.number ∙ c.in-Some.is in
    let found = element before.database.tables c.in-Some.at c.in-Some.ensures.within in
    let has : has_chunk c.args.chunk found.0 ≡ true = (c.in-Some-chunk_number.ensures found.0 found.1).1 in
    let room : nat_le most_entries before.database.length ≡ false = sym c.is_full.ensures ∙ c.if-is_full.false in
    let after = with_purged c.in-Some.at found.0 c.args.chunk before.database in
    short_of_memory before (command.Purge c.args.table c.args.chunk) after c.from_residual.result c.from_residual.ensures.1
    (purge_is before.database c.args.table c.in-Some.at found.0 c.args.chunk number found.1
    ∙ given (first_of (purge_causes found.0 c.args.chunk before.database)) after (purge_free found.0 c.args.chunk before.database has room))

pub returns-in_err-take_chunk-clause-built : goal.returns-in_err-take_chunk-clause-built
returns-in_err-take_chunk-clause-built g c built =
    subst (λ (h : Holding _). AreBuilt g.C.ChunkView.viewed g.C.File.PageFile.tells g.C.File.PageFile.pages h.database) (sym c.in_err-take_chunk.ensures.err) built

pub returns-clause-applied : goal.returns-clause-applied
returns-clause-applied g c =
    let before = c.args.self.now in
    let number : table_number before.database c.args.table ≡ Some c.in-Some.at = sym c.number.ensures.number ∙ c.in-Some.is in
    let found = element before.database.tables c.in-Some.at c.in-Some.ensures.within in
    let told = c.in-Some-chunk_number.ensures found.0 found.1 in
    let room : nat_le most_entries before.database.length ≡ false = sym c.is_full.ensures ∙ c.if-is_full.false in
    let after = with_purged c.in-Some.at found.0 c.args.chunk before.database in
    let stepped = subst (λ (n : ℕ). IsStepped before c.take_chunk.new.self (with_purged c.in-Some.at found.0 n before.database) (record { session = c.args.session.now; number = c.args.number; what = detail.Purge c.args.table n }))
    told.0 (c.in_ok-take_chunk.ensures.ok found.0 found.1) in
    applied (λ chunk. (g.C.ChunkView.viewed chunk).row_count) before c.take_chunk.new.self c.args.session.now c.args.number (command.Purge c.args.table c.args.chunk) after c.length-2.result
    (purge_is before.database c.args.table c.in-Some.at found.0 c.args.chunk number found.1
    ∙ given (first_of (purge_causes found.0 c.args.chunk before.database)) after (purge_free found.0 c.args.chunk before.database told.1 room))
    stepped c.length-2.ensures.history

pub returns-clause-built : goal.returns-clause-built
returns-clause-built g c built =
    let before = c.args.self.now in
    let found = element before.database.tables c.in-Some.at c.in-Some.ensures.within in
    let stepped = c.in_ok-take_chunk.ensures.ok found.0 found.1 in
    subst (λ (s : Database _). AreBuilt g.C.ChunkView.viewed g.C.File.PageFile.tells g.C.File.PageFile.pages s) (sym stepped.database)
    (purged_built g.C.ChunkView.viewed g.C.File.PageFile.tells g.C.File.PageFile.pages c.in-Some.at found.0 c.in-Some-chunk_number.found before.database found.1 built)
