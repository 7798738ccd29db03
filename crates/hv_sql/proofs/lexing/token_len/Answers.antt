-- the first byte tells how the token goes on
use Rattle.std.proofs.Common.{sym, ◌∙◌, arith}
use Rattle.std.proofs.lemmas.List.Sums.{prefix_len-le-length}
use Rattle.hv_model.specs.Token.{is_digit, is_name_byte}
use Rattle.hv_sql.proofs.LexingLengths.{name_length, number_length, quoted_length, symbol_length}
use Rattle.hv_sql.proofs.lexing.token_len.Goals as goal

pub returns-then-begins_name-clause-same : goal.returns-then-begins_name-clause-same
returns-then-begins_name-clause-same c = c.name_len.ensures ∙ sym (name_length c.args.rest.now 0 c.requires (sym c.begins_name.ensures ∙ c.if-begins_name.true))

pub returns-then-begins_name-clause-within : goal.returns-then-begins_name-clause-within
returns-then-begins_name-clause-within c = omega (arith, c.name_len.ensures, prefix_len-le-length is_name_byte c.args.rest.now)

pub returns-then-is_digit-clause-same : goal.returns-then-is_digit-clause-same
returns-then-is_digit-clause-same c = c.digits_len.ensures ∙ sym (number_length c.args.rest.now 0 c.requires (sym c.is_digit.ensures ∙ c.if-is_digit.true))

pub returns-then-is_digit-clause-within : goal.returns-then-is_digit-clause-within
returns-then-is_digit-clause-within c = omega (arith, c.digits_len.ensures, prefix_len-le-length is_digit c.args.rest.now)

pub returns-then-first-eq39-clause-same : goal.returns-then-first-eq39-clause-same
returns-then-first-eq39-clause-same c =
    sym (quoted_length c.args.rest.now c.split_at.result.1.now 0 c.closing_len.result c.requires c.if-first-eq39.true c.split_at.ensures.back c.closing_len.ensures.within
    c.closing_len.ensures.closes c.closing_len.ensures.longest)

pub returns-else-first-eq39-clause-same : goal.returns-else-first-eq39-clause-same
returns-else-first-eq39-clause-same c =
    sym (symbol_length c.args.rest.now 0 c.symbol_len.result c.requires (sym c.begins_name.ensures ∙ c.if-begins_name.false) (sym c.is_digit.ensures ∙ c.if-is_digit.false) c.if-first-eq39.false
    c.symbol_len.ensures.within c.symbol_len.ensures.one_or_two c.symbol_len.ensures.longest)
