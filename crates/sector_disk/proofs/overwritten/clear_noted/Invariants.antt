use Rattle.std.proofs.Common.{ℕ, get_or, drop, IsTrue, false}
use Rattle.sector_disk.specs.Undo.{has_touched}
use Rattle.sector_disk.proofs.overwritten.clear_noted.Given as goal

abbrev pub invariant-loop-i : goal.invariant-loop-i
invariant-loop-i l = (k : ℕ) → IsTrue (get_or l.unsynced k false) → IsTrue (has_touched (drop l.i l.notes) k)
