use Rattle.std.proofs.Common.{replicate, ◌-◌, ◌≤◌}
use Rattle.std.specs.Io.KnownBytes.{Appends}
use Rattle.file_disk.proofs.zeros.write_zeros.Given as goal

-- what isn't left was written
abbrev pub invariant-loop-left : goal.invariant-loop-left
invariant-loop-left g l =
    let contents = g.W.Write.contents in
    (l.left ≤ l.count) × Appends (contents l.fn.writer) (contents l.writer) (replicate (l.count - l.left) 0)

abbrev pub decreases-loop-left : goal.decreases-loop-left
decreases-loop-left g l = l.left
