use Rattle.std.proofs.Common.{◌≡◌, ◌&&◌, drop}
use Rattle.std.specs.List.{list_all}
use Rattle.lease_session.specs.Reading.{is_printable}
use Rattle.lease_session.proofs.asked.is_printable.Given as goal

abbrev pub invariant-loop-letter : goal.invariant-loop-letter
invariant-loop-letter l = (l.all && list_all is_printable (drop l.letter-index l.word)) ≡ list_all is_printable l.word
