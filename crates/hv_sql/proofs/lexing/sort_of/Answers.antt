-- the tests in turn
use Rattle.std.proofs.Common.{sym, ◌∙◌}
use Rattle.hv_sql.proofs.LexingSorts.{number_sort, text_sort, symbol_sort, other_sort}
use Rattle.hv_sql.proofs.lexing.sort_of.Goals as goal

pub returns-then-is_number : goal.returns-then-is_number
returns-then-is_number c = number_sort c.args.bytes.now (sym c.is_run.ensures ∙ c.if-is_run.false) (sym c.is_number.ensures ∙ c.if-is_number.true)

pub returns-then-is_text : goal.returns-then-is_text
returns-then-is_text c =
    text_sort c.args.bytes.now (sym c.is_run.ensures ∙ c.if-is_run.false) (sym c.is_number.ensures ∙ c.if-is_number.false) (sym c.is_text.ensures ∙ c.if-is_text.true)

pub returns-then-is_symbol : goal.returns-then-is_symbol
returns-then-is_symbol c =
    symbol_sort c.args.bytes.now (sym c.is_run.ensures ∙ c.if-is_run.false) (sym c.is_number.ensures ∙ c.if-is_number.false) (sym c.is_text.ensures ∙ c.if-is_text.false)
    (sym c.is_symbol.ensures ∙ c.if-is_symbol.true)

pub returns-else-is_symbol : goal.returns-else-is_symbol
returns-else-is_symbol c =
    other_sort c.args.bytes.now (sym c.is_run.ensures ∙ c.if-is_run.false) (sym c.is_number.ensures ∙ c.if-is_number.false) (sym c.is_text.ensures ∙ c.if-is_text.false)
    (sym c.is_symbol.ensures ∙ c.if-is_symbol.false)
