-- what stands before the next condition is text
use denote.Text.{Utf8}
use denote.Shadow.{shadow}
use Rattle.hv_sql_tests.proofs.printer.Printer.+condition.Given as goal

abbrev pub invariant-joined-loop-cond : goal.invariant-joined-loop-cond
invariant-joined-loop-cond l = shadow (Utf8 l.before)
