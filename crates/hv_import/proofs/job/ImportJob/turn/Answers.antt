-- a turn with no row left makes the chunk; after a fault the job is over
use Rattle.std.proofs.Common.{◌≡◌, [], true, length, ap, sym, ◌∙◌}
use Rattle.std.specs.Prelude.{is_none}
use Rattle.hv_import.specs.Job.{pages_of}
use Rattle.hv_import.proofs.Finishing.{has_taken, built_all}
use Rattle.hv_import.proofs.job.ImportJob.turn.Goals.{in-Ok, in-Err}
use Rattle.hv_import.proofs.job.ImportJob.turn.Goals as goal

pub returns-then-self-len-clause-turn : goal.returns-then-self-len-clause-turn
returns-then-self-len-clause-turn g c =
    let over : (is_none c.take.new.self ≡ true) × (pages_of c.take.new.self ≡ []) = (ap is_none c.take.ensures.after, ap pages_of c.take.ensures.after) in
    let has = has_taken c.self.inside.rows c.self.inside.pushed c.self.inside.builder c.take.result c.unwrap-builder.result c.self.invariant.has c.take.ensures.value c.unwrap-builder.ensures in
    let all : c.self.inside.pushed ≡ length c.self.inside.rows.rows = c.if-self-len.true ∙ c.len.ensures in
    elim c.match-finish.branch [
      | in-Ok w ↦ rw (w.result-is, sym c.self.view_is) (all, built_all _ _ c.self.inside.rows c.self.inside.pushed c.unwrap-builder.result w.in-Ok.chunk has all w.in-Ok.ensures.built, over, w.in-Ok.ensures.calm)
      | in-Err w ↦ rw w.result-is (w.failed.ensures _ _ _ _ _ _ w.in-Err.ensures.cause over)
    ]

pub returns-in-Err-push_page-clause-turn : goal.returns-in-Err-push_page-clause-turn
returns-in-Err-push_page-clause-turn g c =
    let over : (is_none c.take.new.self ≡ true) × (pages_of c.take.new.self ≡ []) = (ap is_none c.take.ensures.after, ap pages_of c.take.ensures.after) in
    c.failed-in-Err-push_page.ensures _ _ _ _ _ _ c.in-Err-push_page.ensures.cause over
