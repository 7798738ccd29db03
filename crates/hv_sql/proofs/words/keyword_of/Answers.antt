use Rattle.std.proofs.Common.{ap, ◌∙◌}
use Rattle.std.specs.List.{find}
use Rattle.hv_model.specs.Token.{is_word}
use Rattle.hv_model.specs.Lexemes.{keyword_spelling}
use Rattle.hv_sql.proofs.WordLengths.{found_by_length}
use Rattle.hv_sql.proofs.words.keyword_of.Goals as goal

pub returns : goal.returns
returns c =
    c.found_among.ensures ∙ ap (find (λ w. is_word (keyword_spelling w) c.args.bytes.now)) c.keywords_of_length.ensures ∙ found_by_length c.args.bytes.now
