-- The tokens are those of the text.
use Rattle.std.proofs.Common.{sym, subst}
use Rattle.hv_model.specs.Lexed.{AllStandIn}
use Rattle.hv_sql.proofs.Standing.{tokens_stand}
use Rattle.hv_sql.proofs.rest.Rest.new.Goals as goal

pub invariant_of-result : goal.invariant_of-result
invariant_of-result c = subst (AllStandIn c.args.text.now) (sym c.requires) (tokens_stand c.args.text.now)
