-- a chunk that is purged has a number that fits, and the catalogue's answer is the statement's
use Rattle.std.proofs.Common.{◌≡◌, ◌≤◌, arith}
use Rattle.hv_model.specs.declared.catalogue.Detail.TheVariants as detail
use Rattle.hv_world.proofs.HeldTables.{purge_within}
use Rattle.hv_world.proofs.Carrying.{asks_purge, settles_ok, files_ok}
use Rattle.hv_world.proofs.command.purge.Goals as goal

pub carry_out-requires-clause-told : goal.carry_out-requires-clause-told
carry_out-requires-clause-told g c after steps =
    let held = c.args.catalogue.now in
    let within : c.args.chunk ≤ held.database.made = purge_within held c.args.table.name c.args.chunk after c.length-entries.ensures.kept steps in
    let few : held.database.made ≤ 65536 = omega (arith, c.length-entries.ensures.kept.made_few, c.length-entries.ensures.kept.entries_few) in
    let same : c.min.result ≡ c.args.chunk = omega (arith, c.min.ensures, c.from.ensures) in
    λ j. detail.Purge (c.in_ok-copy.ensures j) (same j)

pub returns-clause-settles : goal.returns-clause-settles
returns-clause-settles g c =
    let x = c.args.statement.now in
    let held = c.args.catalogue.now in
    settles_ok x c.args.table.byte _ held c.carry_out.new.catalogue c.carry_out.result (asks_purge x held c.args.chunk c.args.table c.requires.is) c.carry_out.ensures.carried

pub returns-clause-files : goal.returns-clause-files
returns-clause-files g c =
    files_ok c.args.statement.now c.args.table.byte _ c.args.catalogue.now c.carry_out.new.catalogue c.carry_out.result c.carry_out.ensures.carried c.carry_out.ensures.keeps
