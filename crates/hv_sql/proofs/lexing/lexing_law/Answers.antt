-- The law, part by part.
use Rattle.hv_sql.proofs.LexingLaws.{tokens_in_order, nothing_lost, tokens_longest, lexeme_of, texts_written, values_read}
use Rattle.hv_sql.proofs.lexing.lexing_law.Goals as goal

pub returns-clause-order : goal.returns-clause-order
returns-clause-order c = tokens_in_order

pub returns-clause-white : goal.returns-clause-white
returns-clause-white c = nothing_lost

pub returns-clause-longest : goal.returns-clause-longest
returns-clause-longest c = tokens_longest

pub returns-clause-hold : goal.returns-clause-hold
returns-clause-hold c = lexeme_of

pub returns-clause-written : goal.returns-clause-written
returns-clause-written c = texts_written

pub returns-clause-read : goal.returns-clause-read
returns-clause-read c = values_read
