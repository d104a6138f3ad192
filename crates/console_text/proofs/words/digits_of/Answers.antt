use Rattle.std.proofs.Common.{sym, arith}
use Rattle.console_text.proofs.Decimals.{one_digit, has_digits}
use Rattle.console_text.proofs.words.digits_of.Goals as goal

pub returns-then-number-lt10-clause-value : goal.returns-then-number-lt10-clause-value
returns-then-number-lt10-clause-value c = sym (one_digit c.args.number (omega arith))

pub returns-else-number-lt10-clause-value : goal.returns-else-number-lt10-clause-value
returns-else-number-lt10-clause-value c = sym (has_digits 1 c.args.number (omega arith) (omega arith) (omega arith))

pub returns-then-number-lt1000-clause-value : goal.returns-then-number-lt1000-clause-value
returns-then-number-lt1000-clause-value c = sym (has_digits 2 c.args.number (omega arith) (omega arith) (omega arith))

pub returns-else-number-lt1000-clause-value : goal.returns-else-number-lt1000-clause-value
returns-else-number-lt1000-clause-value c = sym (has_digits 3 c.args.number (omega arith) (omega arith) (omega arith))

pub returns-then-number-lt100000-clause-value : goal.returns-then-number-lt100000-clause-value
returns-then-number-lt100000-clause-value c = sym (has_digits 4 c.args.number (omega arith) (omega arith) (omega arith))

pub returns-else-number-lt100000-clause-value : goal.returns-else-number-lt100000-clause-value
returns-else-number-lt100000-clause-value c = sym (has_digits 5 c.args.number (omega arith) (omega arith) (omega arith))

pub returns-then-number-lt10000000-clause-value : goal.returns-then-number-lt10000000-clause-value
returns-then-number-lt10000000-clause-value c = sym (has_digits 6 c.args.number (omega arith) (omega arith) (omega arith))

pub returns-else-number-lt10000000-clause-value : goal.returns-else-number-lt10000000-clause-value
returns-else-number-lt10000000-clause-value c = sym (has_digits 7 c.args.number (omega arith) (omega arith) (omega arith))
