-- What came of a call of a node, as the cluster reports it.
use Rattle.std.proofs.Common.{◌≡◌, ℕ, ◌+◌, ◌*◌, ◌≤◌, length, refl, sym, ◌∙◌, ap, subst, arith, Option, Some, None, Result, Ok, ◌≢◌, inl}
use Rattle.std.proofs.Common.{inr, Err, IsSome, IsOk, IsErrOf, IfErr, ◌⊎◌, Bool, true, false, if◌then◌else◌}
use Rattle.durable_node.proofs.PublicLaws.{steps_and_forgets, counts_and_forgets}
use Rattle.sector_disk.specs.Memory.{Memory, state_of}
use Rattle.job_model.specs.Durable.{Durable}
use Rattle.sim_net.specs.Network.{Network, after_all_sent}
use Rattle.node_core.specs.declared.event.Event.{Event}
use Rattle.histories.specs.HistoryEvent.{IsOf}
use Rattle.histories.specs.EventOutcomes.{what_of}
use Rattle.node_store.specs.Store.{slots_for}
use Rattle.durable_node.specs.declared.fault.NodeFault.{NodeFault}
use Rattle.durable_node.specs.declared.fault.NodeFault.TheVariants as node
use Rattle.durable_node.specs.declared.step_report.StepReport.{StepReport}
use Rattle.durable_node.specs.Faults.{fault_of, answered, answered_as}
use Rattle.node_core.specs.declared.fault.Refusal.TheVariants.{Full, AreaExhausted}
use Rattle.durable_node.specs.Node.{Area, Node, Stands}
use Rattle.histories.specs.NodeState.{NodeState}
use Rattle.histories.specs.declared.event_outcome.EventOutcome.{EventOutcome}
use Rattle.histories.specs.declared.event_outcome.EventOutcome.TheVariants.{Done, Refused, Faulted, Recovered, MountFailed, RaiseFailed}
use Rattle.histories.specs.Possible.{IsOfSlots, IsPossible}
use Rattle.durable_node.specs.Stepping.{Does, Steps, CountsOf}
use Rattle.runs.specs.declared.outcome.Outcome.{Outcome}
use Rattle.runs.specs.declared.outcome.Outcome.TheVariants as outcome
use Rattle.runs.specs.Acts.{what_outcome, IsCompaction}
use Rattle.schedule.specs.declared.act.Act.{Act}
use Rattle.schedule.specs.declared.act.Act.TheVariants as act
use Rattle.cluster_sim.specs.Outcomes.{came_outcome, compaction_outcome}
use Rattle.cluster_sim.specs.World.{MayHaveForgotten, IsOfSize, IsSame, IsCounted, ActionOf, Comes, as_before, is_mounting}
use Rattle.cluster_sim.specs.World.{fate_in, bare}
use Rattle.cluster_sim.specs.declared.act_report.ActReport.{ActReport}
use Rattle.durable_node.specs.Compacting.{CompactionAnswers, IsMovedNode, IsFallenNode, StaysKept}
use Rattle.durable_node.specs.Refusing.{AnswersTo, compaction_refusal, is_last}
use Rattle.cluster_sim.specs.Operated.{IsCompacted, IsLeftBy, IsRefusedAs}
use Rattle.runs.specs.declared.outcome.ActRefusal.{ActRefusal}
use Rattle.histories.specs.declared.history_event.HistoryEvent.{HistoryEvent}
use Rattle.histories.specs.declared.history_event.HistoryEvent.TheVariants.{NoOp, Crashed}
use Rattle.histories.specs.declared.history_event.NoOpKind.TheVariants.{Nothing, Compacted}
use Rattle.histories.specs.After.{after, mounted_at, sent_at}
use Rattle.node_core.specs.declared.fault.CoreFault.TheVariants.{Down}
use Rattle.node_core.specs.State.{State, is_down}
use Rattle.runs.proofs.PublicLaws.{none_sent}

-- what came of an event has the outcome of what comes of it
pub what_outcome_is : (slots self nodes first : ℕ) (s : NodeState) (a : Act) (event : Event) (came : StepReport) (mounted : Option Durable)
    (event_outcome : EventOutcome) → Does slots self nodes s event came mounted (what_of event event_outcome)
    → came_outcome event_outcome first came ≡ what_outcome self nodes first s (what_of event event_outcome) a
what_outcome_is slots self nodes first s a event came mounted Done does = λ i. outcome.Done (does.answer i) first (length (does.sent i))
what_outcome_is slots self nodes first s a event came mounted (Recovered kept) does =
    λ i. outcome.Done (does.answer i) first (length (does.sent i))
what_outcome_is slots self nodes first s a event came mounted _ does = refl

-- ---- a node and its disk

pub some_of : {A : Type 0} (o : Option A) → IsSome o → (a : A) × (o ≡ Some a)
some_of (Some a) is = (a, refl)
some_of None is = absurd cc

pub same_by : {A : Type 0} (old new : Node Memory) (result : Result A NodeFault) → new.id ≡ old.id → new.nodes ≡ old.nodes
    → CountsOf state_of old.disk new.disk result → IsSame old new
same_by old new result id nodes counts = record {
  id = id;
  nodes = nodes;
  size = λ slots was_size now at. let was = some_of old.disk counts.was_there in
      (counts.counts was.0 now was.1 at).sectors ∙ was_size was.0 was.1;
}

-- an event was handled at the node, whose disk may then have forgotten the moments before
abbrev pub Leaves : Node Memory → Node Memory → Event → StepReport → Type 0
Leaves old last event came = IsSame old last × Steps state_of old last event came
    × CountsOf state_of old.disk last.disk (answered (Ok came))

pub left_so : (old new last : Node Memory) (event : Event) (came : StepReport) → MayHaveForgotten new last → new.id ≡ old.id
    → new.nodes ≡ old.nodes → CountsOf state_of old.disk new.disk (answered (Ok came))
    → Steps state_of old new event came → Leaves old last event came
left_so old new last event came (inl same) id nodes counts steps =
    subst (λ (n : Node Memory). Leaves old n event came) (sym same) (same_by old new _ id nodes counts, steps, counts)
left_so old new last event came (inr forgot) id nodes counts steps =
    let later = counts_and_forgets old.disk new.disk last.disk (answered (Ok came)) (λ i. (forgot i).disk) counts in (
      same_by old last _ ((λ i. (forgot i).id) ∙ id) ((λ i. (forgot i).nodes) ∙ nodes) later,
      steps_and_forgets old new last event came forgot steps,
      later,
    )

fate_is : (event : Event) (event_outcome : EventOutcome) → Some event_outcome ≡ fate_in (what_of event event_outcome)
fate_is event event_outcome = grind arith

pub comes_by : (event : Event) (old new : Node Memory) (net net' : Network) (came : StepReport) (action : ActReport) → IsSome old.disk
    → Steps state_of old new event came
    → action.event_outcome ≡ Some came.event_outcome → action.tried ≡ came.tried → action.acked ≡ came.answer
    → action.mounted ≡ is_mounting (what_of event came.event_outcome)
    → action.outcome ≡ came_outcome came.event_outcome (length net.sent) came → net' ≡ after_all_sent net came.sent.items
    → (slots : ℕ) (s : NodeState) (a : Act) → slots ≤ 4096 → IsOfSize slots old.disk → Stands state_of old s
    → Comes slots old.id old.nodes a (IsOf event) s action new net net'
comes_by event old new net net' came action has steps event_outcome tried acked mounted outcome_is sent slots s a most size stands =
    let was = some_of old.disk has in
    let step = steps was.0 s was.1 stands (λ _. refl) in
    let does = step.0 in
    let sized : slots_for (8 + 4 * slots) ≡ slots = grind (arith) in
    record {
      what = what_of event came.event_outcome;
      is = does.of;
      possible = does.possible;
      of_slots = subst (λ (n : ℕ). IsOfSlots n old.id old.nodes s (what_of event came.event_outcome))
          (ap slots_for (size was.0 was.1) ∙ sized) does.of_slots;
      outcome_is = outcome_is ∙ what_outcome_is (slots_for (state_of was.0).sectors) old.id old.nodes (length net.sent) s a event came
          new.mounted came.event_outcome does;
      reports = record {
        event_outcome = event_outcome ∙ fate_is event came.event_outcome;
        tried = tried ∙ does.tried.which;
        acked = acked
            ∙ does.answer;
        mounted = mounted;
      };
      sent = sent ∙ (λ i. after_all_sent net (does.sent i));
      mounted = does.mounted;
      stands = step.1;
    }

-- ---- the failures of the disk

-- an act faulted exactly where the node answers that its device failed
counted_by : {A : Type 0} (old new : Option Memory) (result : Result A NodeFault) (o : Outcome)
    → (o ≡ outcome.Faulted → result ≡ Err node.Device) → (result ≡ Err node.Device → o ≡ outcome.Faulted)
    → CountsOf state_of old new result → IsCounted as_before old new o
counted_by old new result o so back counts was now before after =
    let c = counts.counts was now before after in
    record {
      sectors = c.sectors;
      honest = c.honest;
      arms = c.arms;
      later = c.later;
      unchanged = λ not. c.unchanged (λ bad. not (back bad));
      cause = λ is. c.cause (so is);
    }

pub came_counted : (old new : Option Memory) (came : StepReport) (first : ℕ) (event_outcome : EventOutcome)
    → CountsOf state_of old new (answered_as came (fault_of event_outcome))
    → IsCounted as_before old new (came_outcome event_outcome first came)
came_counted old new came first Faulted counts = counted_by old new _ _ (λ _. refl) (λ _. refl) counts
came_counted old new came first MountFailed counts = counted_by old new _ _ (λ _. refl) (λ _. refl) counts
came_counted old new came first (RaiseFailed kept) counts = counted_by old new _ _ (λ _. refl) (λ _. refl) counts
came_counted old new came first (Refused Full) counts = counted_by old new _ _ (λ bad. absurd cc) (λ bad. absurd cc) counts
came_counted old new came first _ counts = counted_by old new _ _ (λ bad. absurd cc) (λ bad. absurd cc) counts

-- ---- a compaction

-- it has the outcome of what came of it
pub outcome_so : {A : Type 0} (self nodes first n : ℕ) (s : NodeState) (what : HistoryEvent) (result : Result A NodeFault)
    → CompactionAnswers what result
    → (result ≡ Err node.Device → is_down s.state.phase ≡ false)
    → IsCompaction s what × (compaction_outcome first result ≡ what_outcome self nodes first s what (act.Compact n))
outcome_so self nodes first n s (NoOp Nothing) result is up = absurd is
outcome_so self nodes first n s (NoOp Compacted) (Ok a) is up = (tt, refl)
outcome_so self nodes first n s (NoOp Compacted) (Err fault) is up = absurd cc
outcome_so self nodes first n s (NoOp _) result is up = (tt, rw is refl)
outcome_so self nodes first n s Crashed result is up = (up is, rw is refl)
outcome_so self nodes first n s _ result is up = absurd is

-- it sends, mounts and tries nothing
quiet_of : (slots id nodes : ℕ) (s : NodeState) (o : Outcome) (net : Network) (what : HistoryEvent) → IsCompaction s what
    → IsOfSlots slots id nodes s what × ActionOf id nodes s what (bare o)
    × (net ≡ after_all_sent net (sent_at id nodes s what)) × (None ≡ mounted_at s what)
quiet_of slots id nodes s o net (NoOp rest) is =
    (tt, record { event_outcome = refl; tried = refl; acked = refl; mounted = refl }, sym (none_sent net), refl)
quiet_of slots id nodes s o net Crashed is =
    (tt, record { event_outcome = refl; tried = refl; acked = refl; mounted = refl }, sym (none_sent net), refl)
quiet_of slots id nodes s o net _ is = absurd is

pub compacted_comes : (slots n id nodes : ℕ) (s : NodeState) (o : Outcome) (new : Node Memory) (net : Network) (what : HistoryEvent)
    → IsCompaction s what → IsPossible id nodes s what
    → o ≡ what_outcome id nodes (length net.sent) s what (act.Compact n) → new.mounted ≡ None → Stands state_of new (after id nodes s what)
    → Comes slots id nodes (act.Compact n) (IsCompaction s) s (bare o) new net net
compacted_comes slots n id nodes s o new net what is may shown none stands =
    let quiet = quiet_of slots id nodes s o net what is in
    record {
      what = what;
      is = is;
      possible = may;
      of_slots = quiet.0;
      outcome_is = shown;
      reports = quiet.1;
      sent = quiet.2;
      mounted = none ∙ quiet.3;
      stands = stands;
    }

-- nothing is mounted
pub nothing_mounted : (old new : Node Memory) (o : Outcome) → IsLeftBy o old new → new.mounted ≡ None
nothing_mounted old new (outcome.Done answer first many) left = λ i. (left.is i).mounted
nothing_mounted old new _ left = λ i. (left i).mounted

pub compact_counted : {A : Type 0} (old new : Option Memory) (first : ℕ) (result : Result A NodeFault) → CountsOf state_of old new result
    → IsCounted as_before old new (compaction_outcome first result)
compact_counted old new first (Err node.Device) counts = counted_by old new _ _ (λ _. refl) (λ _. refl) counts
compact_counted old new first _ counts = counted_by old new _ _ (λ bad. absurd cc) (λ bad. absurd cc) counts

-- ---- what a compaction leaves

compacted_left : {A : Type 0} (old new : Node Memory) (first : ℕ) (result : Result A NodeFault) → (IsOk result → IsMovedNode old new)
    → (IsErrOf result node.Device → IsFallenNode old new)
    → IfErr result (λ fault. fault ≢ node.Device → new ≡ record old { mounted = None }) → IsLeftBy (compaction_outcome first result) old new
compacted_left old new first (Ok a) moved fallen refused = moved refl
compacted_left old new first (Err node.Device) moved fallen refused = fallen refl
compacted_left old new first (Err _) moved fallen refused = refused (λ bad. cc)

never_refused : {A : Type 0} (first : ℕ) (result : Result A NodeFault) → IsOk result ⊎ IsErrOf result node.Device → (why : ActRefusal)
    → compaction_outcome first result ≢ outcome.Refused why
never_refused first (Ok a) either why bad = cc
never_refused first (Err node.Device) either why bad = cc
never_refused first (Err _) (inl ok) why bad = absurd (let no = ok in cc)
never_refused first (Err _) (inr device) why bad = absurd (let no = device in cc)

pub compacted_refused : {A : Type 0} (area : Option Area) (first : ℕ) (result : Result A NodeFault)
    → AnswersTo (compaction_refusal area) result → IsRefusedAs (compaction_refusal area) (compaction_outcome first result)
compacted_refused None first result is = rw is refl
compacted_refused (Some area) first result is = by_last (is_last area) is
  where
    by_last : (b : Bool) → AnswersTo (if b then Some AreaExhausted else None) result
        → IsRefusedAs (if b then Some AreaExhausted else None) (compaction_outcome first result)
    by_last true is = rw is refl
    by_last false either = never_refused first result either

pub compacted : {A : Type 0} (old new : Node Memory) (first : ℕ) (result : Result A NodeFault)
    → AnswersTo (compaction_refusal old.area) result → (IsOk result → IsMovedNode old new)
    → (IsErrOf result node.Device → IsFallenNode old new) → IfErr result (λ fault. fault ≢ node.Device
    → new ≡ record old { mounted = None }) → StaysKept state_of old new → IsCompacted old new (compaction_outcome first result)
compacted old new first result answers moved fallen refused kept =
    record {
      refused = compacted_refused old.area first result answers;
      left = compacted_left old new first result moved fallen refused;
      kept = kept;
    }

-- only a node that is up meets a device
pub meets_up : {A : Type 0} (old : Node Memory) (s : NodeState) (result : Result A NodeFault) → Stands state_of old s
    → AnswersTo (compaction_refusal old.area) result → (is_down old.state.phase ≡ true → old.area ≡ None)
    → result ≡ Err node.Device → is_down s.state.phase ≡ false
meets_up old s result stands answers hidden device = by_phase (is_down old.state.phase) refl
  where
    by_phase : (b : Bool) → is_down old.state.phase ≡ b → is_down s.state.phase ≡ false
    by_phase true is = (let refused : result ≡ Err (node.Core Down) = rw (hidden is) at answers in let both = sym refused ∙ device in
        absurd cc)
    by_phase false is = ap (λ (x : State). is_down x.phase) (sym stands.state) ∙ is
