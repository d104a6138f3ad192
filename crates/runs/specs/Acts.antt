-- The acts of a schedule, each with the step that it is and with its outcome.
use Rattle.std.specs.Prelude.{ℕ, ◌≡◌, ◌+◌, ◌&&◌, Bool, true, false, nat_lt, if◌then◌else◌, List, [], ◌∷◌, length, slice_get, Option, Some}
use Rattle.std.specs.Prelude.{None, MatchResult, option_map, unwrap_or}
use Rattle.wire_msg.specs.Envelope.{Envelope}
use Rattle.node_core.specs.declared.event.Event.{Event}
use Rattle.node_core.specs.declared.event.Event.TheVariants as on
use Rattle.node_core.specs.declared.fault.CoreFault.TheVariants.{Down}
use Rattle.node_core.specs.declared.fault.Refusal.TheVariants.{Core, Exhausted, AreaExhausted}
use Rattle.node_core.specs.declared.phase.Phase.TheVariants as phases
use Rattle.node_core.specs.State.{in_phase}
use Rattle.histories.specs.NodeState.{NodeState, wants_at, settled}
use Rattle.histories.specs.HistoryEvent.{IsOf}
use Rattle.job_model.specs.Answer.{answer_of}
use Rattle.histories.specs.declared.history_event.HistoryEvent.{HistoryEvent}
use Rattle.histories.specs.declared.history_event.HistoryEvent.TheVariants.{Did, Refused, NoOp, Crashed, Recovered, RaiseRefused}
use Rattle.histories.specs.declared.history_event.NoOpKind.TheVariants.{Nothing, CompactDown, CompactAreaExhausted}
use Rattle.histories.specs.After.{sent_at}
use Rattle.histories.specs.Possible.{IsPossible, IsOfSlots}
use Rattle.schedule.specs.declared.act.Act.{Act}
use Rattle.schedule.specs.declared.act.Act.TheVariants as act
use Rattle.sim_net.specs.Network.{Network, message_at, delivery, after_lost, after_cut, after_mend}
use Rattle.runs.specs.World.{World, node_in}
use Rattle.runs.specs.declared.outcome.Outcome.{Outcome}
use Rattle.runs.specs.declared.outcome.Outcome.TheVariants as outcome
use Rattle.runs.specs.declared.outcome.ActRefusal.TheVariants.{Node, Net as OfNet, Stranger}
use Rattle.runs.specs.Step.{Step, Takes, Changes, Denies, world_after}

-- it came of a compaction at a node in this state, which is done, is refused, or meets a device that fails: then a node that is up falls
-- as in a crash
abbrev pub IsCompaction : NodeState → HistoryEvent → Type 0
IsCompaction s (NoOp Nothing) = ⊥
IsCompaction s (NoOp rest) = Unit {0}
IsCompaction s Crashed = in_phase phases.Down s.state.phase ≡ false
IsCompaction s what = ⊥

-- what comes at a node, of the message of this number, if any: a node outside the cluster is refused
abbrev pub At : Bool → ℕ → ℕ → (HistoryEvent → Type 0) → Step → Type 0
At true n number P step = (what : HistoryEvent) × (step ≡ Takes n number what) × P what
At false n number P step = step ≡ Denies 0 Stranger

-- the receiver of a message, and node 0 where there is no message, or no such node
abbrev pub receiver_or_first : ℕ → Option Envelope → ℕ
receiver_or_first nodes message = unwrap_or (option_map (λ (m : Envelope). if nat_lt m.receiver nodes then m.receiver else 0) message) 0

-- the step that an act is, where E says what may come of an event at a node, and C what of a compaction. What is delivered is an event
-- of its receiver; what the network denies is no event
abbrev pub IsStepBy : (ℕ → Event → HistoryEvent → Type 0) → (ℕ → HistoryEvent → Type 0) → ℕ → Network → Act → Step → Type 0
IsStepBy E C nodes net (act.Timer n timer) step = At (nat_lt n nodes) n 0 (E n (on.Timer timer)) step
IsStepBy E C nodes net (act.Deliver k) step =
    MatchResult (delivery net k) (λ m. At (nat_lt m.receiver nodes) m.receiver k (E m.receiver (on.Deliver m)) step)
    (λ why. step ≡ Denies (receiver_or_first nodes (slice_get net.sent k)) (OfNet why))
IsStepBy E C nodes net (act.Lose k) step =
    MatchResult (message_at net k) (λ m. step ≡ Changes (after_lost net k)) (λ why. step ≡ Denies 0 (OfNet why))
IsStepBy E C nodes net (act.Cut a b) step =
    step ≡ (if nat_lt a nodes && nat_lt b nodes then Changes (after_cut net a b) else Denies 0 Stranger)
IsStepBy E C nodes net (act.Mend a b) step =
    step ≡ (if nat_lt a nodes && nat_lt b nodes then Changes (after_mend net a b) else Denies 0 Stranger)
IsStepBy E C nodes net (act.Submit n work) step = At (nat_lt n nodes) n 0 (E n (on.Submit work)) step
IsStepBy E C nodes net (act.Finish n origin id) step = At (nat_lt n nodes) n 0 (E n (on.Finish origin id)) step
IsStepBy E C nodes net (act.Arm n calls) step = At (nat_lt n nodes) n 0 (λ (what : HistoryEvent). what ≡ NoOp Nothing) step
IsStepBy E C nodes net (act.Crash n fill) step = At (nat_lt n nodes) n 0 (λ (what : HistoryEvent). what ≡ Crashed) step
IsStepBy E C nodes net (act.Recover n) step = At (nat_lt n nodes) n 0 (E n on.Recover) step
IsStepBy E C nodes net (act.Compact n) step = At (nat_lt n nodes) n 0 (C n) step

-- ---- a run of any length

-- the step that an act is
abbrev pub IsStepOf : ℕ → World → Act → Step → Type 0
IsStepOf nodes w a step = IsStepBy (λ (n : ℕ) (event : Event). IsOf event) (λ (n : ℕ). IsCompaction (node_in w.states n)) nodes w.net a step

-- what comes at a node may come there, where disks have so many slots
abbrev pub IsLawful : ℕ → ℕ → World → Step → Type 0
IsLawful slots nodes w (Takes n number what) = (s : NodeState) × (slice_get w.states n ≡ Some s) × IsPossible n nodes s what
    × IsOfSlots slots n nodes s what
IsLawful slots nodes w step = Unit {0}

-- the steps are a run of the acts, in a cluster whose disks have so many slots
abbrev pub IsRunOf : ℕ → ℕ → World → List Act → List Step → Type 0
IsRunOf nodes slots w [] [] = Unit {0}
IsRunOf nodes slots w (a ∷ acts) (step ∷ steps) =
    IsStepOf nodes w a step × IsLawful slots nodes w step × IsRunOf nodes slots (world_after nodes w step) acts steps
IsRunOf nodes slots w acts steps = ⊥

-- ---- the outcome of an act

-- the outcome of what came at a node, of this act, where so many messages were sent before it. In all else the device failed
abbrev pub what_outcome : ℕ → ℕ → ℕ → NodeState → HistoryEvent → Act → Outcome
what_outcome n nodes first s (Did event) a =
    outcome.Done (option_map (answer_of s.durable) (wants_at n nodes s event)) first (length (sent_at n nodes s (Did event)))
what_outcome n nodes first s (Refused event fault) a = outcome.Refused (Node fault)
what_outcome n nodes first s (NoOp CompactDown) a = outcome.Refused (Node (Core Down))
what_outcome n nodes first s (NoOp CompactAreaExhausted) a = outcome.Refused (Node AreaExhausted)
what_outcome n nodes first s (NoOp rest) a = outcome.Done None first 0
what_outcome n nodes first s Crashed (act.Compact m) = outcome.Faulted
what_outcome n nodes first s Crashed a = outcome.Done None first 0
what_outcome n nodes first s (Recovered kept) a = outcome.Done (Some ((settled kept s).counter + 1)) first 0
what_outcome n nodes first s (RaiseRefused kept) a = outcome.Refused (Node Exhausted)
what_outcome n nodes first s failed a = outcome.Faulted

-- the outcome of an act that had this step
abbrev pub act_outcome : ℕ → World → Act → Step → Outcome
act_outcome nodes w a (Takes n number what) = what_outcome n nodes (length w.net.sent) (node_in w.states n) what a
act_outcome nodes w a (Changes net) = outcome.Done None (length w.net.sent) 0
act_outcome nodes w a (Denies n why) = outcome.Refused why
