-- What came of an event, and which command was tried at it, as they are said without the event.
use Rattle.std.specs.Prelude.{◌≡◌, Option, Some, None, option_map}
use Rattle.job_model.specs.declared.work.Work.{Work}
use Rattle.job_model.specs.declared.node_command.NodeCommand.{NodeCommand as Command}
use Rattle.job_model.specs.declared.node_command.NodeCommand.TheVariants.{Raise, Put, Done}
use Rattle.node_core.specs.declared.event.Event.{Event}
use Rattle.node_core.specs.declared.event.Event.TheVariants.{Submit}
use Rattle.histories.specs.declared.history_event.HistoryEvent.{HistoryEvent}
use Rattle.histories.specs.declared.history_event.HistoryEvent.TheVariants.{Did, Refused, Faulted, Recovered, MountFailed, RaiseFailed}
use Rattle.histories.specs.declared.history_event.HistoryEvent.TheVariants.{RaiseRefused}
use Rattle.histories.specs.declared.event_outcome.EventOutcome.{EventOutcome}
use Rattle.histories.specs.declared.event_outcome.EventOutcome.TheVariants as event_outcome
use Rattle.histories.specs.declared.command_kind.CommandKind.{CommandKind}
use Rattle.histories.specs.declared.command_kind.CommandKind.TheVariants as attempt

-- what came of this event: what a mounting says is the same whatever the event
abbrev pub what_of : Event → EventOutcome → HistoryEvent
what_of event event_outcome.Done = Did event
what_of event (event_outcome.Refused why) = Refused event why
what_of event event_outcome.Faulted = Faulted event
what_of event (event_outcome.Recovered kept) = Recovered kept
what_of event event_outcome.MountFailed = MountFailed
what_of event (event_outcome.RaiseFailed kept) = RaiseFailed kept
what_of event (event_outcome.RaiseRefused kept) = RaiseRefused kept

-- ---- the command that was tried

-- which command it is, without the work of a job
abbrev pub attempt_of : Command → CommandKind
attempt_of Raise = attempt.Raise
attempt_of (Put work) = attempt.Put
attempt_of (Done id) = attempt.Done id

-- the whole command, where this work was submitted: a Put is of that work
abbrev pub command_with : Option Work → Option CommandKind → Option Command
command_with work None = None
command_with work (Some attempt.Raise) = Some Raise
command_with work (Some attempt.Put) = option_map (λ (w : Work). Put w) work
command_with work (Some (attempt.Done id)) = Some (Done id)

-- the work that an event submits
abbrev pub work_of : Event → Option Work
work_of (Submit work) = Some work
work_of event = None

-- the whole command, where this was the event
abbrev pub command_for : Event → Option CommandKind → Option Command
command_for event tried = command_with (work_of event) tried

-- this command was tried at the event: which one is said, and with the event that is all of it
pub record IsTriedAt (event : Event) (tried : Option CommandKind) (command : Option Command) : Type 0 where
  pub which : tried ≡ option_map attempt_of command
  pub whole : command_for event tried ≡ command
