-- A script that was read is reported on.
use Rattle.oodb.proofs.run.run_script.Goals as goal

pub returns-in-Ok : goal.returns-in-Ok
returns-in-Ok g c = c.report.ensures c.args.options _ _ c.in-Ok.ensures.script c.in-Ok.ensures.counted
