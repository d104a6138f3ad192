-- An entry as it is put into a history.
use Rattle.std.specs.Prelude.{⊤, List}
use Rattle.wire_msg.specs.Envelope.{Envelope}
use Rattle.trace_check.specs.declared.history.Given.{Given}
use Rattle.trace_check.specs.declared.history.Given.TheVariants as given
use Rattle.trace_check.specs.declared.trace.TraceAction.{TraceAction}
use Rattle.trace_check.specs.LentActions.{FitsPayload, action_lent}

abbrev pub action_given : Given → TraceAction
action_given (given.Made action sent) = action.now
action_given (given.Lent action sent) = action_lent action.now

abbrev pub sent_given : Given → List Envelope
sent_given (given.Made action sent) = sent.now
sent_given (given.Lent action sent) = sent.now

-- a payload that is lent is one of a job
abbrev pub FitsGiven : Given → Type 0
FitsGiven (given.Made action sent) = ⊤
FitsGiven (given.Lent action sent) = FitsPayload action.now
