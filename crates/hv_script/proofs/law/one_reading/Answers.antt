-- The law, part by part.
use Rattle.hv_script.proofs.Always.{some_reading}
use Rattle.hv_script.proofs.Once.{one_script, no_fault_too, one_fault}
use Rattle.hv_script.proofs.law.one_reading.Goals as goal

pub returns : goal.returns
returns c = record { some = some_reading; script = one_script; both = no_fault_too; fault = one_fault }
