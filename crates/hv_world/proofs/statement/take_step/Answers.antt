-- a step at a stage is the step of that stage, which keeps the tables
use Rattle.std.proofs.Common.{sym, subst}
use Rattle.hv_world.specs.declared.stage.Stage.{Stage}
use Rattle.hv_world.specs.Reads.{port_seen}
use Rattle.hv_world.specs.Stage.{IsStaged}
use Rattle.hv_world.specs.Step.{IsStep}
use Rattle.hv_world.proofs.Stepping.{command_step, keeps_tables}
use Rattle.hv_world.proofs.statement.take_step.Goals as goal

pub returns-in-Unbegun-clause-step : goal.returns-in-Unbegun-clause-step
returns-in-Unbegun-clause-step g c =
    let tells = g.P.File.PageFile.tells in
    let pages = g.P.File.PageFile.pages in
    let x = c.args.statement.now in
    let held = c.args.catalogue.now in
    let port = port_seen g.P.PageSink c.args.access.now.port in
    subst (λ (s : Stage _). IsStep tells pages x c.args.floor held c.begin.new.catalogue s port port c.begin.result) (sym c.in-Unbegun.is)
    (c.begin.ensures.step port (subst (λ (s : Stage _). IsStaged tells pages x held s port) c.in-Unbegun.is c.requires.staged))

pub returns-in-Unbegun-clause-tables : goal.returns-in-Unbegun-clause-tables
returns-in-Unbegun-clause-tables g c =
    let port = port_seen g.P.PageSink c.args.access.now.port in
    keeps_tables g.P.File.PageFile.tells g.P.File.PageFile.pages c.args.statement.now c.args.floor c.args.catalogue.now c.begin.new.catalogue c.args.stage port port c.begin.result
    (returns-in-Unbegun-clause-step g c)

pub returns-in-Rows-clause-step : goal.returns-in-Rows-clause-step
returns-in-Rows-clause-step g c =
    let tells = g.P.File.PageFile.tells in
    let pages = g.P.File.PageFile.pages in
    let x = c.args.statement.now in
    let held = c.args.catalogue.now in
    let port = port_seen g.P.PageSink c.args.access.now.port in
    subst (λ (s : Stage _). IsStep tells pages x c.args.floor held held s port port c.read_import.result) (sym c.in-Rows.is)
    (c.read_import.ensures.step c.args.floor port (subst (λ (s : Stage _). IsStaged tells pages x held s port) c.in-Rows.is c.requires.staged))

pub returns-in-Building-clause-step : goal.returns-in-Building-clause-step
returns-in-Building-clause-step g c =
    let tells = g.P.File.PageFile.tells in
    let pages = g.P.File.PageFile.pages in
    let x = c.args.statement.now in
    let held = c.args.catalogue.now in
    let port = port_seen g.P.PageSink c.args.access.now.port in
    subst (λ (s : Stage _). IsStep tells pages x c.args.floor held held s port (port_seen g.P.PageSink c.turn_import.new.port) c.turn_import.result) (sym c.in-Building.is)
    (c.turn_import.ensures.step c.args.floor held (subst (λ (s : Stage _). IsStaged tells pages x held s port) c.in-Building.is c.requires.staged))

pub returns-in-Made-clause-step : goal.returns-in-Made-clause-step
returns-in-Made-clause-step g c =
    let tells = g.P.File.PageFile.tells in
    let pages = g.P.File.PageFile.pages in
    let x = c.args.statement.now in
    let held = c.args.catalogue.now in
    let port = port_seen g.P.PageSink c.args.access.now.port in
    let staged = subst (λ (s : Stage _). IsStaged tells pages x held s port) c.in-Made.is c.requires.staged in
    let answer = c.commit_import-answer in
    command_step tells pages x c.args.floor held answer.new.catalogue c.args.stage port answer.result c.answered.result staged.idle
    answer.ensures.settles answer.ensures.unfailed answer.ensures.keeps c.answered.ensures.told c.answered.ensures.wants

pub returns-in-Made-clause-tables : goal.returns-in-Made-clause-tables
returns-in-Made-clause-tables g c =
    let port = port_seen g.P.PageSink c.args.access.now.port in
    keeps_tables g.P.File.PageFile.tells g.P.File.PageFile.pages c.args.statement.now c.args.floor c.args.catalogue.now c.commit_import-answer.new.catalogue c.args.stage port port c.answered.result
    (returns-in-Made-clause-step g c)

pub returns-clause-step : goal.returns-clause-step
returns-clause-step g c =
    let tells = g.P.File.PageFile.tells in
    let pages = g.P.File.PageFile.pages in
    let x = c.args.statement.now in
    let held = c.args.catalogue.now in
    let port = port_seen g.P.PageSink c.args.access.now.port in
    subst (λ (s : Stage _). IsStep tells pages x c.args.floor held held s port (port_seen g.P.PageSink c.turn_select.new.access.port) c.turn_select.result) (sym c.in-Reading.is)
    (c.turn_select.ensures.step c.args.floor held)
