-- a token is put behind those before it
use Rattle.std.proofs.Common.{◌≡◌, ◌<◌, ◌≤◌, List, length, sym, ◌∙◌, subst, arith}
use Rattle.std.specs.List.{All}
use Rattle.std.proofs.lemmas.Grind.{common_steps}
use Rattle.hv_model.specs.declared.lexeme.Token.{Token}
use Rattle.hv_model.specs.Lexemes.{tokens_of}
use Rattle.hv_sql.proofs.LexingLaws.{tokens_within}
use Rattle.hv_sql.proofs.LexingSteps.{token_more}
use Rattle.hv_sql.proofs.lexing.lex.Goals as goal

pub loop-at-preserved : goal.loop-at-preserved
loop-at-preserved c = record {
  within = c.token_at-token.ensures.within;
  same = token_more c.args.text.now c.loop-at.tokens.items (tokens_of c.args.text.now) c.push.new.self.items c.loop-at.at c.token_at-token.result c.loop-at-test.true
      (sym c.is_white.ensures ∙ c.if-is_white.false) c.token_at-token.ensures.token c.token_at-token.ensures.within c.loop-at.invariant.same c.in_ok-push.ensures.items;
}

pub returns-clause-within : goal.returns-clause-within
returns-clause-within c =
    let same : c.from_vec.result ≡ tokens_of c.args.text.now = grind (arith, common_steps) in
    subst (λ (ts : List Token). All (λ t. (t.from < t.to) × (t.to ≤ length c.args.text.now)) ts) (sym same) (tokens_within c.args.text.now)
