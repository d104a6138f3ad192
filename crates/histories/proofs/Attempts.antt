-- Which command was tried is said without the work of a job, and with the event it is the whole command.
use Rattle.std.proofs.Common.{◌≡◌, ◌∙◌, ℕ, List, refl, ap, Option, Some, None, option_map}
use Rattle.job_model.specs.declared.job.Job.{Job}
use Rattle.job_model.specs.declared.work.Work.{Work}
use Rattle.job_model.specs.declared.node_command.NodeCommand.{NodeCommand as Command}
use Rattle.job_model.specs.declared.node_command.NodeCommand.TheVariants.{Raise}
use Rattle.node_core.specs.declared.event.Event.{Event}
use Rattle.node_core.specs.State.{State}
use Rattle.node_core.specs.Wants.{wants_of}
use Rattle.histories.specs.declared.command_kind.CommandKind.{CommandKind}
use Rattle.histories.specs.declared.command_kind.CommandKind.TheVariants as attempt
use Rattle.histories.specs.EventOutcomes.{IsTriedAt, attempt_of, command_for, command_with, work_of}
use Rattle.histories.proofs.Wanted.{MayWant, wants_none, raises, puts, ends, may_want}

-- what is said of a command, with this work beside it, is all of it
abbrev IsWhole : Option Work → Option Command → Type 0
IsWhole work command = command_with work (option_map attempt_of command) ≡ command

is_whole : (self : ℕ) (pending : List Job) (event : Event) (wants : Option Command) → MayWant self pending event wants
    → IsWhole (work_of event) wants
is_whole self pending event wants (wants_none is) = rw is refl
is_whole self pending event wants (raises is) = rw is refl
is_whole self pending event wants (puts work of is) = rw (is, of) refl
is_whole self pending event wants (ends id there why is) = rw is refl

-- the command that an event wants has no work but that of the event
pub wanted_whole : (self : ℕ) (pending : List Job) (event : Event) (s : State)
    → command_for event (option_map attempt_of (wants_of self pending event s)) ≡ wants_of self pending event s
wanted_whole self pending event s = is_whole self pending event (wants_of self pending event s) (may_want self pending event s)

pub tried_wanted : (self : ℕ) (pending : List Job) (event : Event) (s : State) (tried : Option CommandKind)
    → tried ≡ option_map attempt_of (wants_of self pending event s) → IsTriedAt event tried (wants_of self pending event s)
tried_wanted self pending event s tried is = record {
  which = is;
  whole = ap (λ (t : Option CommandKind). command_for event t) is
      ∙ wanted_whole self pending event s;
}

pub tried_raise : (event : Event) (tried : Option CommandKind) → tried ≡ Some attempt.Raise → IsTriedAt event tried (Some Raise)
tried_raise event tried is = record { which = is; whole = ap (λ (t : Option CommandKind). command_for event t) is }

pub tried_none : (event : Event) (tried : Option CommandKind) → tried ≡ None → IsTriedAt event tried None
tried_none event tried is = record { which = is; whole = ap (λ (t : Option CommandKind). command_for event t) is }
