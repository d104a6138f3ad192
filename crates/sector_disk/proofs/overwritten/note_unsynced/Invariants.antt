use Rattle.std.proofs.Common.{◌≡◌, ◌<◌, ◌⊎◌, ℕ, get_or, IsTrue, false}
use Rattle.sector_disk.specs.Undo.{undone, has_touched}
use Rattle.sector_disk.proofs.overwritten.note_unsynced.Given as goal

abbrev pub invariant-loop-at : goal.invariant-loop-at
invariant-loop-at l = record {
  times : l.notes.times ≡ l.initial.notes.times;
  same : undone l.notes.since l.sectors ≡ undone l.initial.notes.since l.sectors;
  unsynced : (k : ℕ) → IsTrue (has_touched l.notes.since k)
      → IsTrue (has_touched l.initial.notes.since k) ⊎ IsTrue (get_or l.unsynced k false);
  kept : (k : ℕ) → IsTrue (has_touched l.initial.notes.since k) → IsTrue (has_touched l.notes.since k);
  all : (k : ℕ) → k < l.at → IsTrue (get_or l.unsynced k false) → IsTrue (has_touched l.notes.since k);
}
