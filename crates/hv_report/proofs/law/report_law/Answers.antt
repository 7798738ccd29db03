-- Equal bytes tell what is alike, and what is alike has equal bytes.
use Rattle.hv_report.proofs.AlikeTexts.{one_text}
use Rattle.hv_report.proofs.Whole.{one_report}
use Rattle.hv_report.proofs.law.report_law.Goals as goal

pub returns-clause-told : goal.returns-clause-told
returns-clause-told c = one_report

pub returns-clause-tells : goal.returns-clause-tells
returns-clause-tells c = one_text
