-- What holds of the bytes that were read holds of the source's.
use Rattle.hv_script.proofs.Source.{fault_of, none_left}
use Rattle.hv_script.proofs.reading.read_script.Goals as goal

pub returns-in_err-read_statements-clause-found : goal.returns-in_err-read_statements-clause-found
returns-in_err-read_statements-clause-found g c =
    fault_of c.from_residual-in_err-read_statements.result (g.S.Source.left c.args.source.now) (g.S.Source.left c.read_all.new.source) c.in_ok-all.all.items c.in_err-read_statements.field-0.0
    c.from_residual-in_err-read_statements.ensures.1 c.in_ok-all.ensures.all (rw c.as_slice.ensures.value at c.in_err-read_statements.ensures.fault)

pub returns-clause-some_bytes : goal.returns-clause-some_bytes
returns-clause-some_bytes g c = (c.as_slice.result.now, c.in_ok-read_statements.ensures.script)

pub returns-clause-ended : goal.returns-clause-ended
returns-clause-ended g c =
    none_left (g.S.Source.left c.args.source.now) (g.S.Source.left c.read_all.new.source) c.in_ok-all.all.items c.in_ok-read_statements.field-0 c.in_ok-all.ensures.all
    (rw c.as_slice.ensures.value at c.in_ok-read_statements.ensures.script)
