use Rattle.std.proofs.Common.{◌≡◌, length}
use Rattle.sector_disk.specs.Undo.{undone}
use Rattle.sector_disk.proofs.overwritten.undo.Given as goal

abbrev pub invariant-loop-note : goal.invariant-loop-note
invariant-loop-note l = undone l.notes.since l.sectors ≡ undone l.initial.notes.since l.initial.sectors

abbrev pub decreases-loop-note : goal.decreases-loop-note
decreases-loop-note l = length l.notes.since
