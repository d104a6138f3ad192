use Rattle.line_words.proofs.Splitting.{cut_at, cut_nowhere}
use Rattle.line_words.proofs.lines.cut_line.Goals as goal

pub returns : goal.returns
returns c = cut_at c.args.text.now c.in_ok-end.end c.in_ok-end.ensures

pub returns-in_err-end : goal.returns-in_err-end
returns-in_err-end c = rw c.from_residual.ensures (cut_nowhere c.args.text.now c.in_err-end.ensures)
