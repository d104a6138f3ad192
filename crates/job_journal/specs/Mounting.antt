-- What a mounting answers of a journal.
use Rattle.std.specs.Prelude.{◌≡◌, ◌↔◌, ℕ, Some, Result, IsOkAnd, IsErrOf}
use Rattle.sector_disk.specs.Disk.{Image}
use Rattle.job_journal.specs.declared.fault.JournalFault.{JournalFault}
use Rattle.job_journal.specs.declared.fault.JournalFault.TheVariants.{Damaged}
use Rattle.job_journal.specs.Jobs.{Jobs, jobs_of}
use Rattle.job_journal.specs.Journal.{replay_in, jobs_in}
use Rattle.job_journal.specs.Mounted.{JournalState}
use Rattle.job_journal.specs.Readings.{Damage}

-- The answer is exactly what an image stands for: its jobs, or else the sector of the first thing that isn't allowed.
pub record AnswersFor (slots : ℕ) (image : Image) (answer : Result JournalState JournalFault) : Type 0 where
  pub jobs : (jobs : Jobs) → (IsOkAnd answer (λ journal. jobs_of journal.table ≡ jobs) ↔ (jobs_in slots image ≡ Some jobs))
  pub damaged : (sector : ℕ) → (IsErrOf answer (Damaged sector) ↔ (replay_in slots image ≡ Damage sector))
