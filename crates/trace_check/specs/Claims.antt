-- What an entry of a trace says, and where it is possible.
use Rattle.std.specs.Prelude.{ℕ, ◌≡◌, Bool, true, false, List, [], ◌∷◌, Option, Some, None, IsSomeAnd}
use Rattle.wire_msg.specs.Envelope.{Envelope}
use Rattle.node_core.specs.declared.event.Event.TheVariants as on
use Rattle.node_core.specs.State.{is_down}
use Rattle.histories.specs.NodeState.{NodeState}
use Rattle.histories.specs.declared.history_event.HistoryEvent.{HistoryEvent}
use Rattle.histories.specs.declared.history_event.HistoryEvent.TheVariants.{Did, Faulted, NoOp, Crashed, Recovered, MountFailed}
use Rattle.histories.specs.declared.history_event.HistoryEvent.TheVariants.{RaiseFailed}
use Rattle.histories.specs.declared.history_event.NoOpKind.TheVariants.{Nothing}
use Rattle.histories.specs.HistoryEvent.{brought}
use Rattle.histories.specs.After.{after, sent_at}
use Rattle.histories.specs.Possible.{IsPossible}
use Rattle.trace_check.specs.declared.trace.TraceAction.{TraceAction}
use Rattle.trace_check.specs.declared.trace.TraceAction.TheVariants as action
use Rattle.trace_check.specs.declared.trace.RecoverFault.TheVariants as recover

-- an entry of a trace without where it lies in memory: what was done, and what was sent
pub record Claim : Type 0 where
  pub action : TraceAction
  pub sent : List Envelope

-- what came of the action at a node that was down, or wasn't. None where the action contradicts itself
abbrev pub what_of : Bool → TraceAction → Option HistoryEvent
what_of down action.Nothing = Some (NoOp Nothing)
what_of down (action.Done event) = Some (Did event)
what_of down (action.Faulted event) = Some (Faulted event)
what_of down action.Crashed = Some Crashed
what_of true (action.Recovered kept) = Some (Recovered kept)
what_of false (action.Recovered false) = Some (Did on.Recover)
what_of false (action.Recovered true) = None
what_of true (action.NotRecovered false recover.Mount) = Some MountFailed
what_of true (action.NotRecovered true recover.Mount) = None
what_of true (action.NotRecovered kept recover.Raise) = Some (RaiseFailed kept)
what_of false (action.NotRecovered kept recover.Mount) = None
what_of false (action.NotRecovered false recover.Raise) = Some (Faulted on.Recover)
what_of false (action.NotRecovered true recover.Raise) = None

-- and so in this state
abbrev pub what_at : NodeState → Claim → Option HistoryEvent
what_at s c = what_of (is_down s.state.phase) c.action

-- the entry is possible at a node in this state: what it says may come there, and it sends what is sent then
abbrev pub MayCome : ℕ → ℕ → NodeState → Claim → Type 0
MayCome self nodes s c = IsSomeAnd (what_at s c) (λ (what : HistoryEvent). IsPossible self nodes s what
    × (c.sent ≡ sent_at self nodes s what))

abbrev pub after_what : ℕ → ℕ → NodeState → Option HistoryEvent → NodeState
after_what self nodes s None = s
after_what self nodes s (Some what) = after self nodes s what

-- the state after an entry
abbrev pub after_claim : ℕ → ℕ → NodeState → Claim → NodeState
after_claim self nodes s c = after_what self nodes s (what_at s c)

-- the state after these entries, from s on
abbrev pub state_after : ℕ → ℕ → NodeState → List Claim → NodeState
state_after self nodes s [] = s
state_after self nodes s (c ∷ cs) = state_after self nodes (after_claim self nodes s c) cs

-- the message that a action was brought
abbrev pub brought_by : TraceAction → List Envelope
brought_by action.Nothing = []
brought_by (action.Done event) = brought (Some event)
brought_by (action.Faulted event) = brought (Some event)
brought_by action.Crashed = []
brought_by (action.Recovered kept) = []
brought_by (action.NotRecovered kept fault) = []
