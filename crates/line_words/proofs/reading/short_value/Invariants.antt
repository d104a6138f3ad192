use Rattle.std.proofs.Common.{◌≡◌, ◌<◌, ◌^◌, drop}
use Rattle.line_words.specs.Words.{value_from}
use Rattle.line_words.proofs.reading.short_value.Given as goal

abbrev pub invariant-loop-digit : goal.invariant-loop-digit
invariant-loop-digit l = (value_from (drop l.digit-index l.digits) l.value ≡ value_from l.digits 0) × (l.value < 10 ^ l.digit-index)
