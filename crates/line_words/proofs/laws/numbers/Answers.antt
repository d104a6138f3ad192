use Rattle.line_words.proofs.Decimals.{spelled, only}
use Rattle.line_words.proofs.laws.numbers.Goals as goal

pub returns-clause-spelled : goal.returns-clause-spelled
returns-clause-spelled c = spelled

pub returns-clause-only : goal.returns-clause-only
returns-clause-only c = only
