-- a turn of the job takes the statement to its next stage, or ends it
use Rattle.std.proofs.Common.{Some, ap, ◌∙◌}
use Rattle.hv_world.specs.Reads.{port_seen}
use Rattle.hv_world.proofs.Importing.{page_written, chunk_sealed, write_failed, turn_wants, wanted}
use Rattle.hv_world.proofs.import.turn_import.Goals as goal

pub returns-in-Went : goal.returns-in-Went
returns-in-Went g c = record {
  step = λ floor now building.
      page_written g.P.File.PageFile.tells g.P.File.PageFile.pages c.args.statement.now floor now c.args.table c.args.look c.args.job c.turn.new.self (port_seen g.P.PageSink c.args.port.now) (port_seen g.P.PageSink c.turn.new.port)
      building c.in-Went.ensures.turn.0 c.turn.ensures.schema c.turn.ensures.rows c.turn.ensures.kept c.in-Went.ensures.turn.1 c.turn.ensures.mine_still;
}

pub returns-in-Made : goal.returns-in-Made
returns-in-Made g c = record {
  step = λ floor now building.
      chunk_sealed g.P.File.PageFile.tells g.P.File.PageFile.pages c.args.statement.now floor now c.args.table c.args.look c.args.job c.in-Made.chunk (port_seen g.P.PageSink c.args.port.now) (port_seen g.P.PageSink c.turn.new.port)
      building c.in-Made.ensures.turn.1 c.turn.ensures.kept c.in-Made.ensures.turn.3 (c.turn.ensures.mine_still ∙ ap (λ ps. Some ps) c.in-Made.ensures.turn.2.1);
}

pub returns-in-WriteFault : goal.returns-in-WriteFault
returns-in-WriteFault g c = record {
  step = λ floor now building.
      rw c.failed.ensures
      (write_failed g.P.File.PageFile.tells g.P.File.PageFile.pages c.args.statement.now floor now c.args.table c.args.look c.args.job (port_seen g.P.PageSink c.args.port.now) (port_seen g.P.PageSink c.turn.new.port)
      building c.in-WriteFault.ensures.turn.1 c.turn.ensures.kept (c.turn.ensures.mine_still ∙ ap (λ ps. Some ps) c.in-WriteFault.ensures.turn.0.1));
}

pub returns-in-Waits : goal.returns-in-Waits
returns-in-Waits g c = record {
  step = λ floor now building.
      let ended = wanted g.P.File.PageFile.tells g.P.File.PageFile.pages c.args.job c.turn.new.self (g.P.PageSink.write_faults c.args.port.now) (g.P.PageSink.write_faults c.turn.new.port) c.turn.result c.turn.ensures.turn c.in-Waits.is in
      rw c.failed-in-Waits.ensures
      (turn_wants g.P.File.PageFile.tells g.P.File.PageFile.pages c.args.statement.now floor now c.args.table c.args.look c.args.job (port_seen g.P.PageSink c.args.port.now) (port_seen g.P.PageSink c.turn.new.port)
      building ended.1 c.turn.ensures.kept (c.turn.ensures.mine_still ∙ ap (λ ps. Some ps) ended.0.1));
}
