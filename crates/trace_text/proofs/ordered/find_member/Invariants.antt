use Rattle.std.proofs.Common.{◌≡◌, ℕ, ◌≤◌, length, None, option_map}
use Rattle.json.specs.Json.{members, parse_map, value}
use Rattle.trace_text.specs.Ordered.{words_from}
use Rattle.trace_text.proofs.ordered.find_member.Given as goal

abbrev pub invariant-members : goal.invariant-members
invariant-members l =
    (n : ℕ) × (length l.reader ≤ n)
    × (parse_map (words_from None) (members (value 126) (length l.initial.reader) l.initial.reader)
    ≡ parse_map (words_from (option_map (λ s. s.now) l.found)) (members (value 126) n l.reader))

abbrev pub decreases-members : goal.decreases-members
decreases-members l = length l.reader
