-- Only an act `finish` tells a node that a job is finished.
use Rattle.std.proofs.Common.{◌≡◌, ◌≢◌, ◌∙◌, ℕ, Bool, true, false, List, slice_get, Option, Some, None, refl, ap, subst, inl, inr}
use Rattle.std.specs.Prelude.{if◌then◌else◌, option_map, Result, Ok, Err, MatchResult}
use Rattle.wire_msg.specs.Envelope.{Envelope}
use Rattle.node_core.specs.declared.event.Event.{Event}
use Rattle.node_core.specs.declared.event.Event.TheVariants as on
use Rattle.histories.specs.Lists.{IsAmong}
use Rattle.histories.specs.declared.history_event.HistoryEvent.{HistoryEvent}
use Rattle.histories.specs.declared.history_event.HistoryEvent.TheVariants.{Did, Faulted}
use Rattle.histories.specs.Owners.{acted}
use Rattle.schedule.specs.declared.act.Act.{Act}
use Rattle.schedule.specs.declared.act.Act.TheVariants as act
use Rattle.sim_net.specs.declared.fault.NetFault.{NetFault}
use Rattle.sim_net.specs.Network.{Network}
use Rattle.runs.specs.World.{World, node_in}
use Rattle.runs.specs.declared.outcome.Outcome.TheVariants as outcome
use Rattle.runs.specs.declared.outcome.ActRefusal.{ActRefusal}
use Rattle.runs.specs.declared.outcome.ActRefusal.TheVariants.{Net as OfNet, Stranger}
use Rattle.runs.specs.Step.{Step, Takes, Changes, Denies}
use Rattle.histories.specs.NodeState.{NodeState}
use Rattle.histories.specs.HistoryEvent.{IsOf}
use Rattle.runs.specs.Acts.{what_outcome, IsCompaction, At, IsStepOf}
use Rattle.runs.proofs.Acting.{Rests, by_act, event_by, same_event}

abbrev pub SaysFinished : HistoryEvent → ℕ → ℕ → Type 0
SaysFinished what origin id = IsAmong (on.Finish origin id) (acted what)

pub taken_there : (known : Bool) (n k : ℕ) (P : HistoryEvent → Type 0) (m number : ℕ) (what : HistoryEvent)
    → At known n k P (Takes m number what) → (m ≡ n) × P what
taken_there true n k P m number what h =
    let step : Takes m number what ≡ Takes n k h.0 = h.1 in
    let node : m ≡ n = cc step in
    let same : what ≡ h.0 = cc step in
    (node, rw same h.2)
taken_there false n k P m number what h = absurd cc

event_said : (event : Event) (what : HistoryEvent) (origin id : ℕ) → IsOf event what → SaysFinished what origin id
    → event ≡ on.Finish origin id
event_said event (Did e) origin id is i = elim i [ inl same ↦ cc (is, same) | inr none ↦ absurd none ]
event_said event (Faulted e) origin id is i = elim i [ inl same ↦ cc (is, same) | inr none ↦ absurd none ]
event_said event _ origin id is i = absurd i

compaction_said : (s : NodeState) (what : HistoryEvent) (origin id : ℕ) → IsCompaction s what → SaysFinished what origin id → ⊥
compaction_said s (Did e) origin id is i = is
compaction_said s (Faulted e) origin id is i = is
compaction_said s _ origin id is i = i

pub loses_none : (net : Network) (d : Result Envelope NetFault) (m number : ℕ) (what : HistoryEvent)
    → MatchResult d (λ (x : Envelope). Takes m number what ≡ Changes net) (λ (why : NetFault). Takes m number what ≡ Denies 0 (OfNet why))
    → ⊥
loses_none net (Ok x) m number what h = absurd cc
loses_none net (Err why) m number what h = absurd cc

pub link_none : (known : Bool) (net : Network) (m number : ℕ) (what : HistoryEvent)
    → Takes m number what ≡ (if known then Changes net else Denies 0 Stranger) → ⊥
link_none true net m number what h = absurd cc
link_none false net m number what h = absurd cc

none_finishes : (message : Option Envelope) (n origin id : ℕ)
    → option_map {U = ℕ × Event} (λ (m : Envelope). (m.receiver, on.Deliver m)) message ≡ Some (n, on.Finish origin id) → ⊥
none_finishes None n origin id is = absurd cc
none_finishes (Some m) n origin id is =
    (let bad : on.Deliver m ≡ on.Finish origin id = (same_event m.receiver n (on.Deliver m) (on.Finish origin id) is).1 in absurd cc)

-- an act that is this event is `finish`
finishes : (sent : List Envelope) (a : Act) (n origin id : ℕ) → event_by sent a ≡ Some (n, on.Finish origin id) → a ≡ act.Finish n origin id
finishes sent (act.Finish m o i) n origin id is =
    let same = same_event m n (on.Finish o i) (on.Finish origin id) is in
    let of_origin : o ≡ origin = cc same.1 in
    let of_id : i ≡ id = cc same.1 in
    rw (same.0, of_origin, of_id) refl
finishes sent (act.Deliver k) n origin id is = absurd (none_finishes (slice_get sent k) n origin id is)
finishes sent _ n origin id is = (let bad = ap (option_map {U = Event} (λ (p : ℕ × Event). p.1)) is in absurd cc)

-- so is the act of a step that says so
abbrev OnlyFinishes : Act → Step → Type 0
OnlyFinishes a (Takes m number what) = (origin id : ℕ) → SaysFinished what origin id → a ≡ act.Finish m origin id
OnlyFinishes a _ = Unit {0}

rest_said : (w : World) (n : ℕ) (what : HistoryEvent) (origin id : ℕ) → Rests (λ (n : ℕ). IsCompaction (node_in w.states n)) n what
    → SaysFinished what origin id → ⊥
rest_said w n what o i rest says = elim rest [
  | inl c ↦ compaction_said (node_in w.states n) what o i c says
  | inr other ↦ elim other [
    | inl is ↦ subst (λ (x : HistoryEvent). SaysFinished x o i) is says
    | inr is ↦ subst (λ (x : HistoryEvent). SaysFinished x o i) is says
  ]
]

pub finish_act : (nodes : ℕ) (w : World) (a : Act) (m number : ℕ) (what : HistoryEvent) (origin id : ℕ)
    → IsStepOf nodes w a (Takes m number what) → SaysFinished what origin id → a ≡ act.Finish m origin id
finish_act nodes w a m number what origin id h =
    by_act (λ (n : ℕ) (event : Event). IsOf event) (λ (n : ℕ). IsCompaction (node_in w.states n)) nodes w OnlyFinishes
    (λ a n k event what known is of o i says. finishes w.net.sent a n o i
    (is.is ∙ ap (λ (x : Event). Some (n, x)) (event_said event what o i of says)))
    (λ a n what known none rest o i says. absurd (rest_said w n what o i rest says)) (λ a net none same. tt) (λ a n why no. tt)
    a (Takes m number what) h origin id

-- what a node didn't refuse isn't reported as refused
pub acted_outcome : (self nodes first : ℕ) (s : NodeState) (what : HistoryEvent) (a : Act) (event : Event) → IsAmong event (acted what)
    → (why : ActRefusal) → what_outcome self nodes first s what a ≢ outcome.Refused why
acted_outcome self nodes first s (Did e) a event i why is = absurd (let bad = is in cc)
acted_outcome self nodes first s (Faulted e) a event i why is = absurd (let bad = is in cc)
acted_outcome self nodes first s _ a event i why is = absurd i
