-- Claims that hold of anything.
use Rattle.std.proofs.Common.{ℕ, List, [], ◌∷◌, Option, Some, None, IfSome}
use Rattle.job_model.specs.declared.work.Work.{Work}
use Rattle.group_task.specs.Group.{Group}
use Rattle.group_task.specs.Assignment.{Assignment}
use Rattle.job_model.specs.declared.job.Job.{Job}
use Rattle.wire_msg.specs.Envelope.{Envelope}
use Rattle.wire_msg.specs.declared.body.Body.{Body}
use Rattle.wire_msg.specs.declared.body.Body.TheVariants.{Work as WorkMessage}
use Rattle.node_core.specs.State.{State}
use Rattle.wire_msg.specs.Kinds.{group_in}
use Rattle.histories.specs.Named.{AllHold}
use Rattle.histories.proofs.Moves.{WorkIn, AllWork, JobsHold, GivenHold, Knows}

abbrev pub AnyGroup : Group → Type 0
AnyGroup group = Unit {0}

abbrev pub AnyWork : ℕ → ℕ → Work → Type 0
AnyWork origin id work = Unit {0}

any_task : (t : Option Assignment) → IfSome t (λ (x : Assignment). AnyGroup x.group)
any_task None = tt
any_task (Some t) = tt

any_named : (named : Option Group) → IfSome named AnyGroup
any_named None = tt
any_named (Some group) = tt

any_work : (sender : ℕ) (b : Body) → WorkIn AnyWork sender b
any_work sender (WorkMessage group id work) = tt
any_work sender b = tt

any_came : (ms : List Envelope) → AllHold AnyGroup ms
any_came [] = tt
any_came (m ∷ ms) = (any_named (group_in m.body), any_came ms)

pub all_any_work : (ms : List Envelope) → AllWork AnyWork ms
all_any_work [] = tt
all_any_work (m ∷ ms) = (any_work m.sender m.body, all_any_work ms)

any_given : (self : ℕ) (ks : List ℕ) → GivenHold AnyGroup self ks
any_given self [] = tt
any_given self (k ∷ ks) = (tt, any_given self ks)

pub any_pending : (self : ℕ) (jobs : List Job) → JobsHold AnyWork self jobs
any_pending self [] = tt
any_pending self (job ∷ jobs) = (tt, any_pending self jobs)

pub knows_any : (self : ℕ) (s : State) (given : List ℕ) (came : List Envelope) → Knows AnyGroup self s given came
knows_any self s given came = record { place = λ up. (tt, any_task s.task); fresh = any_given self given; heard = any_came came }
