-- A word at fault has its line; good words go on to the script.
use Rattle.std.proofs.Common.{false, refl, sym, ◌∙◌}
use Rattle.hv_script.specs.Words.{options}
use Rattle.oodb.specs.Outcome.{around}
use Rattle.oodb.proofs.Running.{word_over}
use Rattle.oodb.proofs.run.run_words.Goals as goal

pub returns-in-Err : goal.returns-in-Err
returns-in-Err g c = word_over _ (options false c.args.words.now)
    (around g.S.Source g.K.Sink g.D.Device c.args.script.now c.args.out.now c.args.dev.now)
    (around g.S.Source g.K.Sink g.D.Device c.args.script.now c.put_word_line.new.out c.args.dev.now)
    c.in-Err.word c.written_status.result (sym c.read_words.ensures ∙ c.in-Err.is) refl refl (c.written_status.ensures _ _ _ c.put_word_line.ensures)
