use Rattle.std.proofs.Common.{◌≡◌, ℕ, List, map, string_bytes, take}
use Rattle.command_line.specs.Obeyed.{names_of}
use Rattle.command_line.proofs.obeying.records_of.Given as goal

abbrev pub invariant-loop-path : goal.invariant-loop-path
invariant-loop-path g l = names_of l.files.items ≡ map string_bytes (take l.path-index l.paths)
