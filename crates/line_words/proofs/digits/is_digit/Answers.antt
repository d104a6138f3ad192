use Rattle.std.proofs.Common.{arith}
use Rattle.line_words.proofs.Letters.{letter_or_none}
use Rattle.line_words.proofs.digits.is_digit.Goals as goal

pub returns-else-byte-lt10 : goal.returns-else-byte-lt10
returns-else-byte-lt10 c = letter_or_none c.args.byte (omega (arith, c.ranges.byte.fits)) c.if-byte-lt10.false
