-- The trace of a run: each entry of the nodes' histories, as a trace has it.
use Rattle.std.specs.Prelude.{ℕ, ◌≡◌, false, List, [], ◌∷◌, ◌++◌, map, length, Option, Some, None}
use Rattle.wire_msg.specs.Envelope.{Envelope}
use Rattle.node_core.specs.declared.event.Event.{Event}
use Rattle.node_core.specs.declared.event.Event.TheVariants as on
use Rattle.histories.specs.declared.history_event.HistoryEvent.{HistoryEvent}
use Rattle.histories.specs.declared.history_event.HistoryEvent.TheVariants.{Did, Refused, Faulted, NoOp, Crashed, Recovered, MountFailed}
use Rattle.histories.specs.declared.history_event.HistoryEvent.TheVariants.{RaiseFailed, RaiseRefused}
use Rattle.histories.specs.HistoryEvent.{Entry}
use Rattle.schedule.specs.declared.act.Act.{Act}
use Rattle.trace_check.specs.declared.trace.TraceAction.{TraceAction}
use Rattle.trace_check.specs.declared.trace.TraceAction.TheVariants as action
use Rattle.trace_check.specs.declared.trace.RecoverFault.TheVariants as recover
use Rattle.trace_check.specs.declared.order.Order.{Order}
use Rattle.trace_check.specs.Claims.{Claim, brought_by}
use Rattle.trace_check.specs.Orders.{IsComplete, IsLegal}
use Rattle.runs.specs.World.{World, start}
use Rattle.runs.specs.Step.{Step, Takes, Changes, Denies, world_after}
use Rattle.runs.specs.Run.{histories_of, world_at}
use Rattle.runs.specs.Acts.{IsRunOf}
use Rattle.cluster_sim.specs.Acting.{IsActed}
use Rattle.cluster_sim.specs.World.{AreUnarmed, WorldView, StandsFor}

-- an event that was handled: a recovery of a node that is up has a name of its own
abbrev pub done : Event → TraceAction
done on.Recover = action.Recovered false
done event = action.Done event

-- and one in whose command the device failed
abbrev pub failed : Event → TraceAction
failed on.Recover = action.NotRecovered false recover.Raise
failed event = action.Faulted event

-- how what came stands in a trace: what was refused, and what leaves a node as it is, is nothing
abbrev pub action_of : HistoryEvent → TraceAction
action_of (Did event) = done event
action_of (Refused event fault) = action.Nothing
action_of (Faulted event) = failed event
action_of (NoOp rest) = action.Nothing
action_of Crashed = action.Crashed
action_of (Recovered kept) = action.Recovered kept
action_of MountFailed = action.NotRecovered false recover.Mount
action_of (RaiseFailed kept) = action.NotRecovered kept recover.Raise
action_of (RaiseRefused kept) = action.Nothing

abbrev pub claim_of : Entry → Claim
claim_of e = record { action = action_of e.what; sent = e.sent }

abbrev pub trace_in : List (List Entry) → List (List Claim)
trace_in hs = map (λ (h : List Entry). map claim_of h) hs

-- the acts had these steps at nodes over their disks, each of which found them as the one before it left them
abbrev pub AreActed : ℕ → WorldView → World → List Act → List Step → WorldView → Type 0
AreActed nodes view w [] [] end = end ≡ view
AreActed nodes view w (a ∷ acts) (step ∷ steps) end =
    (next : WorldView) × IsActed nodes view next w a step × AreActed nodes next (world_after nodes w step) acts steps end
AreActed nodes view w acts steps end = ⊥

-- the trace is that of some run of these acts, in a cluster of so many nodes whose disks have so many slots: they opened over disks that
-- aren't armed, and the acts are all that was done to them
pub record IsTraceOf (nodes slots : ℕ) (acts : List Act) (trace : List (List Claim)) : Type 0 where
  pub steps : List Step
  pub is_run : IsRunOf nodes slots (start nodes) acts steps
  pub of_histories : trace ≡ trace_in (histories_of nodes steps)
  pub first : WorldView
  pub last : WorldView
  pub opened : StandsFor first (start nodes)
  pub unarmed : AreUnarmed first.nodes
  pub acted : AreActed nodes first (start nodes) acts steps last

-- ---- the order of its turns

-- the node of each turn
abbrev pub nodes_in : List Step → List ℕ
nodes_in [] = []
nodes_in (Takes n number what ∷ steps) = n ∷ nodes_in steps
nodes_in (Changes net ∷ steps) = nodes_in steps
nodes_in (Denies n why ∷ steps) = nodes_in steps

-- the number of the message, where one was brought
abbrev pub message_if : List Envelope → ℕ → Option ℕ
message_if [] number = None
message_if (m ∷ ms) number = Some number

-- of each turn the number of the message that its node was brought; of one that it refused nothing stands in a trace
abbrev pub messages_in : List Step → List (Option ℕ)
messages_in [] = []
messages_in (Takes n number what ∷ steps) = message_if (brought_by (action_of what)) number ∷ messages_in steps
messages_in (Changes net ∷ steps) = messages_in steps
messages_in (Denies n why ∷ steps) = messages_in steps

-- the turns of these steps, in their order
pub record AreTurns (steps : List Step) (order : Order) : Type 0 where
  pub nodes : order.nodes.items ≡ nodes_in steps
  pub messages : order.messages.items ≡ messages_in steps

-- the order has this turn besides
pub record IsNext (n : ℕ) (message : Option ℕ) (old new : Order) : Type 0 where
  pub nodes : new.nodes.items ≡ old.nodes.items ++ n ∷ []
  pub messages : new.messages.items ≡ old.messages.items ++ message ∷ []

-- the trace is that of some run of these acts, and this is the order of that run's turns
pub record IsRecordOf (nodes slots : ℕ) (acts : List Act) (trace : List (List Claim)) (order : Order) : Type 0 where
  pub run : IsTraceOf nodes slots acts trace
  pub turns : AreTurns run.steps order

-- all entries can be taken in this order, the newest first
abbrev pub IsOrder : List (List Claim) → List ℕ → Type 0
IsOrder hs past = IsLegal hs past × IsComplete hs past

-- and the cluster is as that run left it
pub record IsSoFar (nodes slots : ℕ) (view : WorldView) (acts : List Act) (trace : List (List Claim)) (order : Order) : Type 0 where
  pub run : IsTraceOf nodes slots acts trace
  pub turns : AreTurns run.steps order
  pub slots_are : view.slots ≡ slots
  pub count : length (world_at nodes (start nodes) run.steps).states ≡ nodes
  pub stands : StandsFor view (world_at nodes (start nodes) run.steps)
  pub last_is : run.last ≡ view

-- the cluster stands for some world
abbrev pub HasWorld : WorldView → Type 0
HasWorld view = (w : World) × StandsFor view w
