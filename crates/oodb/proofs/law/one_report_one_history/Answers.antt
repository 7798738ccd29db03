-- By the law of reports.
use Rattle.oodb.proofs.Reporting.{one_history}
use Rattle.oodb.proofs.law.one_report_one_history.Goals as goal

pub returns : goal.returns
returns c = one_history
