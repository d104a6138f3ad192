-- Jobs read from lines, as `export` prints them, for a journal that is begun with them.
use Rattle.std.specs.Prelude.{◌≡◌, ◌⊎◌, ◌<◌, ◌≤◌, ℕ, ◌+◌, List, [], ◌∷◌, ◌++◌, length, bytes_eq, codes, if◌then◌else◌, Option, Some, None}
use Rattle.job_model.specs.declared.job.Job.{Job}
use Rattle.job_model.specs.declared.work.Work.{Work}
use Rattle.job_model.specs.Order.{IsInOrder}
use Rattle.job_journal.specs.Jobs.{Jobs}
use Rattle.line_words.specs.Words.{number_of, words_of}
use Rattle.line_words.specs.Lines.{lines_of}
use Rattle.line_words.specs.declared.lines.LineFault.{LineFault}
use Rattle.line_words.specs.declared.lines.LineFault.TheVariants.{BadLine, NoMemory}
use Rattle.schedule.specs.Acts.{of_two, work_of}
use Rattle.schedule.specs.Fields.{priority_of}

-- ---- a line

abbrev pub job : ℕ → Work → Job
job id work = record { id = id; work = work }

-- a job of this id, queue, payload and priority, where its line begins so
abbrev pub job_with : List ℕ → List ℕ → List ℕ → List ℕ → Option ℕ → Option Job
job_with name id queue payload priority =
    if bytes_eq name (codes "job") then of_two job (number_of id) (work_of queue payload priority) else None

-- the job of these words
abbrev pub job_of : List (List ℕ) → Option Job
job_of [] = None
job_of (name ∷ []) = None
job_of (name ∷ a ∷ []) = None
job_of (name ∷ a ∷ b ∷ []) = None
job_of (name ∷ a ∷ b ∷ c ∷ []) = job_with name a b c (Some 0)
job_of (name ∷ a ∷ b ∷ c ∷ d ∷ []) = job_with name a b c (priority_of d)
job_of (name ∷ a ∷ b ∷ c ∷ d ∷ e ∷ rest) = None

-- ---- lines, one after the other

-- Behind some jobs a job is taken whose id is above theirs and below the next one, while there are fewer than an area has slots, less two.
pub record TakesJob (slots : ℕ) (old : Jobs) (job : Job) (new : Jobs) : Type 0 where
  pub in_order : IsInOrder old.pending job.id
  pub below : job.id < old.next
  pub fits : length old.pending + 3 ≤ slots
  pub taken : new ≡ record { next = old.next; pending = old.pending ++ job ∷ [] }

abbrev pub TakesRead : ℕ → Jobs → Option Job → Jobs → Type 0
TakesRead slots old None new = ⊥
TakesRead slots old (Some job) new = TakesJob slots old job new

-- an empty line is passed over
abbrev pub TakesLine : ℕ → Jobs → List ℕ → Jobs → Type 0
TakesLine slots old [] new = new ≡ old
TakesLine slots old (c ∷ line) new = TakesRead slots old (job_of (words_of (c ∷ line))) new

-- all of these lines are taken
abbrev pub TakesLines : ℕ → Jobs → List (List ℕ) → Jobs → Type 0
TakesLines slots old [] new = new ≡ old
TakesLines slots old (line ∷ lines) new = (mid : Jobs) × TakesLine slots old line mid × TakesLines slots mid lines new

abbrev pub IsNotTaken : ℕ → Jobs → List ℕ → Type 0
IsNotTaken slots old line = (new : Jobs) → TakesLine slots old line new → ⊥

-- of these lines, in front of which there were n, that of this number is the first that isn't taken
abbrev pub IsFirstBad : ℕ → Jobs → ℕ → List (List ℕ) → ℕ → Type 0
IsFirstBad slots old n [] bad = ⊥
IsFirstBad slots old n (line ∷ lines) bad =
    ((bad ≡ n + 1) × IsNotTaken slots old line) ⊎ ((mid : Jobs) × TakesLine slots old line mid × IsFirstBad slots mid (n + 1) lines bad)

-- no job yet, and this next id
abbrev pub begun_at : ℕ → Jobs
begun_at next = record { next = next; pending = [] }

-- the jobs of all lines of an input
abbrev pub TakesInput : ℕ → ℕ → List ℕ → Jobs → Type 0
TakesInput slots next input jobs = TakesLines slots (begun_at next) (lines_of input) jobs

-- the fault names the first line that isn't taken, or memory ran out
abbrev pub IsInputFault : ℕ → ℕ → List ℕ → LineFault → Type 0
IsInputFault slots next input (BadLine bad) = IsFirstBad slots (begun_at next) 0 (lines_of input) bad
IsInputFault slots next input NoMemory = Unit {0}

-- the fault names this line, which isn't taken
abbrev pub IsLineNotTaken : ℕ → Jobs → ℕ → List ℕ → LineFault → Type 0
IsLineNotTaken slots old n line (BadLine bad) = (bad ≡ n) × IsNotTaken slots old line
IsLineNotTaken slots old n line NoMemory = Unit {0}
