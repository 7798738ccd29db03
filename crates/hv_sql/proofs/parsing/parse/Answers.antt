-- Each clause is a law of what the reading of the rules gives.
use Rattle.std.proofs.Common.{rules, length}
use Rattle.hv_model.specs.SqlReading.{tree_at}
use Rattle.hv_sql.specs.Answer.{Answers}
use Rattle.hv_model.specs.Lexed as spec
use Rattle.hv_sql.proofs.Answering.{answer_read, answer_found, answer_only, answer_told, answer_fault}
use Rattle.hv_sql.proofs.parsing.parse.Goals as goal

pub returns : goal.returns
returns c =
    let end = length c.args.text.now in
    let lexemes = spec.lexemes c.args.text.now in
    let read : Answers c.answer.result end (tree_at lexemes) = search rules in
    record {
      read = answer_read c.answer.result end (tree_at lexemes) read;
      found = answer_found c.answer.result end lexemes read;
      only = answer_only c.answer.result end lexemes read;
      told = answer_told c.answer.result end lexemes read;
      fault = answer_fault c.answer.result end lexemes read;
    }
