-- The law, part by part.
use Rattle.hv_sql.proofs.LexingClasses.{keyword_found, symbol_found}
use Rattle.hv_sql.proofs.LexingWords.{keyword_spelled, symbol_written}
use Rattle.hv_sql.proofs.words.words_law.Goals as goal

pub returns-clause-keywords : goal.returns-clause-keywords
returns-clause-keywords c = keyword_found

pub returns-clause-spelled : goal.returns-clause-spelled
returns-clause-spelled c = keyword_spelled

pub returns-clause-symbols : goal.returns-clause-symbols
returns-clause-symbols c = symbol_found

pub returns-clause-written : goal.returns-clause-written
returns-clause-written c = symbol_written
