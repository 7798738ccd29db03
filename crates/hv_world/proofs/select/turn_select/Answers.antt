-- a turn reads a page or answers
use Rattle.std.proofs.Common.{Ok, ap, ◌∙◌}
use Rattle.hv_world.specs.declared.stage.Look.{Look}
use Rattle.hv_world.specs.Reads.{port_seen}
use Rattle.hv_world.proofs.Selecting.{some_left, turn_goes, turn_fails, turn_answers, turn_wants}
use Rattle.hv_world.proofs.select.turn_select.Goals as goal

pub returns-in-Ok-false : goal.returns-in-Ok-false
returns-in-Ok-false g c = record {
  step = λ floor now.
      turn_answers g.P.File.PageFile.tells g.P.File.PageFile.pages c.args.statement.now c.args.job c.settle.new.job floor now (port_seen g.P.PageSink c.args.access.now.port) c.reply.result
      c.requires.reading c.in-Ok-false.ensures.keeps (c.settle.ensures.whole (c.in-Ok-false.is ∙ ap (λ b. Ok b) c.in-Ok-false.field-0-test)) c.reply.ensures;
}

pub returns-in-Err : goal.returns-in-Err
returns-in-Err g c = record {
  step = λ floor now.
      rw c.failed.ensures
      (turn_wants g.P.File.PageFile.tells g.P.File.PageFile.pages c.args.statement.now c.args.job c.settle.new.job floor now (port_seen g.P.PageSink c.args.access.now.port) c.settle.new.job.look.at
      c.requires.reading (ap (λ (l : Look _). l.at) c.settle.ensures.look));
}

pub read_next-requires-clause-some : goal.read_next-requires-clause-some
read_next-requires-clause-some g c =
    let x = c.args.statement.now in
    let reading = c.requires.reading in
    some_left g.P.File.PageFile.tells g.P.File.PageFile.pages x c.settle.new.job _ (c.in-Ok-true.ensures.keeps.selecting x _ reading.selecting)
    (c.settle.ensures.reached (c.in-Ok-true.is ∙ ap (λ b. Ok b) c.in-Ok-true.field-0-test))

pub returns-in-Ok : goal.returns-in-Ok
returns-in-Ok g c = record {
  step = λ floor now.
      turn_goes g.P.File.PageFile.tells g.P.File.PageFile.pages c.args.statement.now c.args.job c.settle.new.job floor now c.read_next.new.job (port_seen g.P.PageSink c.args.access.now.port) (port_seen g.P.PageSink c.read_next.new.access.port)
      c.requires.reading c.in-Ok-true.ensures.keeps c.in-Ok.ensures.read;
}

pub returns-in-Err-read_next : goal.returns-in-Err-read_next
returns-in-Err-read_next g c = record {
  step = λ floor now.
      rw c.failed-in-Err-read_next.ensures
      (turn_fails g.P.File.PageFile.tells g.P.File.PageFile.pages c.args.statement.now c.args.job c.settle.new.job floor now c.read_next.new.job (port_seen g.P.PageSink c.args.access.now.port) (port_seen g.P.PageSink c.read_next.new.access.port)
      c.in-Err-read_next.cause c.read_next.new.job.look.at c.requires.reading c.in-Ok-true.ensures.keeps c.in-Err-read_next.ensures.read (ap (λ (l : Look _). l.at) c.read_next.ensures.look));
}
