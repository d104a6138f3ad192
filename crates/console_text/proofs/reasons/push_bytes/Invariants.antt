use Rattle.std.proofs.Common.{◌≡◌, ◌++◌, drop}
use Rattle.console_text.specs.Reasons.{bytes_shown}
use Rattle.console_text.proofs.reasons.push_bytes.Given as goal

abbrev pub invariant-loop-byte : goal.invariant-loop-byte
invariant-loop-byte l = l.text.items ++ bytes_shown (drop l.byte-index l.bytes) ≡ l.fn.text.items ++ bytes_shown l.bytes
