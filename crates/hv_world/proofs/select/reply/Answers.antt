-- the answer over the rows of the tables, or the refusal that they decide
use Rattle.std.proofs.Common.{subst}
use Rattle.hv_expr.specs.Cause.{IsNaiveFault}
use Rattle.hv_model.specs.Answer.{is_empty_aggregate}
use Rattle.hv_model.specs.Query.{loops_over}
use Rattle.hv_world.proofs.Selecting.{replies_rows, replies_none}
use Rattle.hv_world.proofs.select.reply.Goals as goal

pub returns-in-Ok : goal.returns-in-Ok
returns-in-Ok g c = replies_rows c.args.job.now c.in-Ok.rows c.in-Ok.ensures.answer c.in-Ok.ensures.some

pub returns-in-Err-EmptyAggregate : goal.returns-in-Err-EmptyAggregate
returns-in-Err-EmptyAggregate g c =
    let job = c.args.job.now in
    replies_none job (subst (λ fault. IsNaiveFault (is_empty_aggregate job.query (loops_over job.query.cond job.tables)) fault) c.in-Err-EmptyAggregate.field-0-is c.in-Err-EmptyAggregate.ensures.cause)
