use Rattle.line_words.proofs.Splitting.{cut_word_at, one_word}
use Rattle.line_words.proofs.reading.cut_word.Goals as goal

pub returns : goal.returns
returns c = cut_word_at c.args.line.now c.in_ok-end.end c.in_ok-end.ensures

pub returns-in_err-end : goal.returns-in_err-end
returns-in_err-end c = rw c.from_residual.ensures (one_word c.args.line.now c.in_err-end.ensures)
