-- A byte begins a line where none is open.
use Rattle.std.proofs.Common.{◌≡◌, true, false, length, take, inl, sym, arith}
use Rattle.hv_model.specs.Script.{line_list}
use Rattle.hv_script.proofs.LineCount.{open_line, lines_more, open_more, closed_lines}
use Rattle.hv_script.proofs.lines.lines_len.Goals as goal
use Rattle.hv_script.proofs.lines.lines_len.Goals.{then-not-open+else-lines-wanted, else-not-open}

pub returns-then-lines-wanted : goal.returns-then-lines-wanted
returns-then-lines-wanted c =
    let all : length (line_list (take c.loop-at.at c.args.bytes.now)) ≡ c.args.wanted = cc in
    let shut : open_line (take c.loop-at.at c.args.bytes.now) ≡ false = cc in
    (omega arith, all, inl (closed_lines (take c.loop-at.at c.args.bytes.now) _ c.requires all shut))

pub loop-at-preserved : goal.loop-at-preserved
loop-at-preserved c =
    let more = lines_more c.args.bytes.now c.loop-at.at (omega arith) in
    record {
      counted = elim c.if-not-open.branch [
        | then-not-open+else-lines-wanted w ↦
            let shut : open_line (take c.loop-at.at c.args.bytes.now) ≡ false = cc in
            let n = rw shut at more in omega (arith, n)
        | else-not-open w ↦
            let open_now : open_line (take c.loop-at.at c.args.bytes.now) ≡ true = cc in
            let n = rw open_now at more in omega (arith, n)
      ];
      within = elim c.if-not-open.branch [ then-not-open+else-lines-wanted w ↦ omega arith | else-not-open w ↦ omega arith ];
      within_line = sym (open_more c.args.bytes.now c.loop-at.at (omega arith));
    }
