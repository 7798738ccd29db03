-- The token behind the white bytes is the first.
use Rattle.std.proofs.Common.{sym, ◌∙◌, ap, subst}
use Rattle.hv_model.specs.Lexemes.{IsOf}
use Rattle.hv_model.specs.Lexed.{what_of}
use Rattle.hv_sql.specs.Next.{what_seen}
use Rattle.hv_sql.proofs.LexingFirst.{token_sorted, first_lexeme}
use Rattle.hv_sql.proofs.unlexed.Unlexed.first.Goals as goal

pub look_at-what-requires : goal.look_at-what-requires
look_at-what-requires c =
    subst (IsOf c.token_at-token.result.sort) (sym c.token_bytes.ensures)
    (token_sorted c.self.inside.text.now c.past_white-from.result c.token_at-token.result c.token_at-token.ensures.token)

pub returns-then-from-text : goal.returns-then-from-text
returns-then-from-text c =
    sym c.self.view_is
    ∙ first_lexeme c.self.inside.text.now c.self.inside.at c.past_white-from.result c.token_at-token.result (what_seen c.look_at-what.result) c.past_white-from.ensures.same
    c.if-from-text.true (c.past_white-from.ensures.dark c.if-from-text.true) c.token_at-token.ensures.token c.token_at-token.ensures.within
    (c.look_at-what.ensures ∙ ap (what_of c.token_at-token.result.sort) c.token_bytes.ensures)
