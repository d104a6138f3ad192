use Rattle.std.proofs.Common.{◌≡◌, ℕ, List, map, string_bytes, take}
use Rattle.std.specs.Borrow.{Bor}
use Rattle.command_line.proofs.asking.texts_of.Given as goal

abbrev pub invariant-loop-word : goal.invariant-loop-word
invariant-loop-word l = map string_bytes l.texts.items ≡ map (λ (word : Bor (List ℕ)). word.now) (take l.word-index l.words)
