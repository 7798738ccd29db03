-- The ports are back at the device before the report is written.
use Rattle.std.proofs.Common.{◌∙◌}
use Rattle.hv_model.proofs.ScriptSessions.{script_sessions, script_bounds}
use Rattle.oodb.proofs.CausedBack.{reports_on}
use Rattle.oodb.proofs.run.report.Goals as goal

pub new-requires-clause-sessions : goal.new-requires-clause-sessions
new-requires-clause-sessions g c = script_sessions c.requires.0 c.args.script c.requires.1

pub new-requires-clause-bounds : goal.new-requires-clause-bounds
new-requires-clause-bounds g c = script_bounds c.requires.0 c.args.script c.requires.1

pub returns : goal.returns
returns g c = reports_on _ c.take_turns-done.result c.report-report.ensures.causes c.args.script _ c.report-report.result _ _ _ (g.D.Device.returned c.new.new.dev) _
    (c.take_turns-done.ensures.script ∙ c.in-Ok.ensures.fresh.script_is) c.requires c.report-report.ensures.legal c.in-Ok.ensures.out c.report-report.ensures.device
    c.report-report.ensures.report c.write_whole.ensures.over c.write_whole.ensures.in_range
