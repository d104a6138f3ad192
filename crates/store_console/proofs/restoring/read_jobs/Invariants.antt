use Rattle.std.proofs.Common.{◌≡◌, ◌+◌, ◌≤◌, ℕ, length}
use Rattle.job_journal.specs.Jobs.{Jobs, jobs_of}
use Rattle.line_words.specs.Lines.{lines_of}
use Rattle.store_console.specs.Restored.{IsFirstBad, TakesLines, begun_at}
use Rattle.store_console.proofs.restoring.read_jobs.Given as goal

abbrev pub invariant-loop-line : goal.invariant-loop-line
invariant-loop-line l = record {
  counted : l.number + length l.left ≤ length l.input;
  room : l.slots ≤ l.table.room;
  next : l.table.next ≡ l.next;
  fits : length l.table.pending + 2 ≤ l.slots;
  taken : (new : Jobs) → TakesLines l.slots (jobs_of l.table) (lines_of l.left) new
      → TakesLines l.slots (begun_at l.next) (lines_of l.input) new;
  bad : (bad : ℕ) → IsFirstBad l.slots (jobs_of l.table) l.number (lines_of l.left) bad
      → IsFirstBad l.slots (begun_at l.next) 0 (lines_of l.input) bad;
}

abbrev pub decreases-loop-line : goal.decreases-loop-line
decreases-loop-line l = length l.left
