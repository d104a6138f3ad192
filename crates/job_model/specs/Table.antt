-- What contracts see of a table of jobs.
use Rattle.std.specs.Prelude.{ℕ, ◌≡◌, ◌+◌, ◌<◌, ◌-◌, ◌^◌, ◌++◌, true, List, length, take, drop, Option, is_some, IfSome, IfNone}
use Rattle.job_model.specs.declared.job.Job.{Job}
use Rattle.job_model.specs.declared.command.Command.{Command as Given}
use Rattle.job_model.specs.declared.command.Command.TheVariants.{Put as GivenPut, Done as GivenDone}
use Rattle.job_model.specs.declared.node_command.NodeCommand.{NodeCommand as Command}
use Rattle.job_model.specs.declared.node_command.NodeCommand.TheVariants.{Put, Done}
use Rattle.job_model.specs.Durable.{Durable}
use Rattle.job_model.specs.Fold.{is_pending, without_job}
use Rattle.job_model.specs.Order.{IsInOrder}

-- the id of the next job, the pending jobs in order of id, and for how many there is room
pub record Table : Type 0 where
  pub next : ℕ
  pub pending : List Job
  pub room : ℕ

-- what is kept where this table stands beside a counter
abbrev pub durable_of : ℕ → Table → Durable
durable_of counter table = record { counter = counter; next = table.next; pending = table.pending }

-- what a command of the code asks for
abbrev pub command_of : Given → Command
command_of (GivenPut work) = Put work
command_of (GivenDone id) = Done id

-- a job that is to be made pending finds room and an id, and one that is to be done is pending
abbrev pub CanApply : Table → Given → Type 0
CanApply table (GivenPut work) = (length table.pending < table.room) × (table.next < 2 ^ 64 - 1)
CanApply table (GivenDone id) = is_pending table.pending id ≡ true

-- a job of this id stands after those that are pending, and below the next one
abbrev pub CanKeep : Table → ℕ → Type 0
CanKeep table id = IsInOrder table.pending id × (id < table.next)

-- the place of the job of an id: what is left without that job, which is pending just where it has a place
pub record IsPlaceOf (jobs : List Job) (id : ℕ) (place : Option ℕ) : Type 0 where
  pub at_place : IfSome place (λ at. (at < length jobs) × (without_job jobs id ≡ take at jobs ++ drop (at + 1) jobs))
  pub none : IfNone place (without_job jobs id ≡ jobs)
  pub pending : is_some place ≡ is_pending jobs id
