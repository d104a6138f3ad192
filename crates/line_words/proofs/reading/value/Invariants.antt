use Rattle.std.proofs.Common.{◌≡◌, drop}
use Rattle.line_words.specs.Words.{value_from}
use Rattle.line_words.proofs.reading.value.Given as goal

abbrev pub invariant-loop-digit : goal.invariant-loop-digit
invariant-loop-digit l = value_from (drop l.digit-index l.digits) l.value ≡ value_from l.digits 0
