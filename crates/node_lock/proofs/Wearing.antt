-- What a turn does to the areas of its node's disk, and to its count of failures.
use Rattle.std.proofs.Common.{◌≡◌, ◌≢◌, ◌⊎◌, inl, inr, ⊎_elim, ℕ, ◌+◌, ◌-◌, ◌^◌, ◌<◌, ◌≤◌, ◌==◌, Bool, true, false, List, [], length, refl}
use Rattle.std.proofs.Common.{sym, ◌∙◌, ap, subst, arith, Option, Some, None, IsSome, Result, Ok, Err, IsErrOf, ◌&&◌}
use Rattle.std.specs.Prelude.{nat_le, nat_lt}
use Rattle.std.proofs.lemmas.Bool.{cases_Bool, cond_both, eqb-true}
use Rattle.std.proofs.lemmas.Bool.Decides.{nat_tests}
use Rattle.std.proofs.lemmas.Option.{same_Some}
use Rattle.wire_msg.specs.Envelope.{Envelope}
use Rattle.job_journal.specs.Journal.{AllWithin, AllNumbered}
use Rattle.job_model.specs.declared.node_command.NodeCommand.{NodeCommand as Command}
use Rattle.job_model.specs.declared.node_command.NodeCommand.TheVariants.{Raise, Put, Done as JobDone}
use Rattle.job_model.specs.Durable.{Durable}
use Rattle.sector_disk.specs.Disk.{IsImage}
use Rattle.sector_disk.specs.Memory.{Memory, state_of}
use Rattle.node_core.specs.declared.event.Event.{Event}
use Rattle.node_core.specs.declared.fault.CoreFault.{CoreFault}
use Rattle.node_core.specs.declared.fault.Refusal.{Refusal}
use Rattle.node_core.specs.declared.fault.Refusal.TheVariants.{Core, Full, Exhausted, AreaExhausted}
use Rattle.node_core.specs.NodeStep.{IsAppended, IsSpent}
use Rattle.node_core.specs.Start.{down}
use Rattle.node_core.specs.State.{is_down}
use Rattle.node_core.specs.Wants.{wants_of}
use Rattle.histories.specs.NodeState.{NodeState}
use Rattle.histories.specs.Possible.{IsPossible}
use Rattle.histories.specs.declared.event_outcome.EventOutcome.{EventOutcome}
use Rattle.histories.specs.declared.event_outcome.EventOutcome.TheVariants as outcome
use Rattle.histories.specs.declared.history_event.HistoryEvent.{HistoryEvent}
use Rattle.histories.specs.declared.history_event.HistoryEvent.TheVariants as what
use Rattle.histories.specs.declared.history_event.NoOpKind.TheVariants.{Nothing}
use Rattle.histories.specs.EventOutcomes.{what_of}
use Rattle.histories.proofs.PublicLaws.{at_down}
use Rattle.durable_node.specs.Arming.{armed_disk}
use Rattle.durable_node.specs.Forgetting.{forgotten_disk}
use Rattle.durable_node.specs.declared.step_report.StepReport.{StepReport}
use Rattle.durable_node.specs.declared.fault.NodeFault.{NodeFault}
use Rattle.durable_node.specs.declared.fault.NodeFault.TheVariants as node
use Rattle.durable_node.specs.Faults.{answered, answered_as, fault_of}
use Rattle.durable_node.specs.Node.{Area, Node, Stands}
use Rattle.durable_node.specs.Refusing.{AnswersEvent, area_refusal, disk_refusal, is_last}
use Rattle.node_core.specs.Refusals.{refusal_of}
use Rattle.node_lock.specs.Asking.{Asked, Hand, NoEvent, Arm, Crash}
use Rattle.node_lock.specs.Doing.{Did, StandsForSome, TurnDid}
use Rattle.node_lock.proofs.Comings.{some_of}
use Rattle.node_lock.specs.Wearing.{AreaRises, AreaWithin, Fails, IsAreaExhausted}

-- ---- why a disk can't take a command

area_not_spent : (area : Area) → area_refusal area ≡ Some Exhausted → ⊥
area_not_spent area is = cond_both (area.used == area.slots && is_last area) _ _ (λ (o : Option Refusal). o ≡ Some Exhausted → ⊥)
    (λ _ e. absurd cc) (λ _ e. absurd cc) is

refused_spent : (d : Durable) (area : Area) (wants : Option Command) → d.next < 2 ^ 64 → disk_refusal d area wants ≡ Some Exhausted
    → IsSpent d wants
refused_spent d area None few is = absurd cc
refused_spent d area (Some Raise) few is = cond_both (d.counter == 2 ^ 64 - 1) _ _ (λ (o : Option Refusal). o ≡ Some Exhausted
    → d.counter ≡ 2 ^ 64 - 1) (λ same _. eqb-true d.counter (2 ^ 64 - 1) same) (λ _ e. absurd cc) is
refused_spent d area (Some (Put work)) few is =
    cond_both (nat_le (2 ^ 64 - 1) d.next) _ _ (λ (o : Option Refusal). o ≡ Some Exhausted → d.next ≡ 2 ^ 64 - 1)
    (λ last _. grind (arith, nat_tests, last, few))
    (λ _. cond_both (nat_lt area.slots (length d.pending + 3)) _ _ (λ (o : Option Refusal). o ≡ Some Exhausted → d.next ≡ 2 ^ 64 - 1)
    (λ _ e. absurd cc) (λ _ e. absurd (area_not_spent area e))) is
refused_spent d area (Some (JobDone id)) few is = absurd (area_not_spent area is)

-- where the area can be raised it isn't used up
area_free : (area : Area) → is_last area ≡ false → area_refusal area ≢ Some AreaExhausted
area_free area free is = elim (cases_Bool (area.used == area.slots)) [
  | inl all ↦ (let none : area_refusal area ≡ None = rw (all, free) refl in let bad = sym none ∙ is in absurd cc)
  | inr some ↦ (let none : area_refusal area ≡ None = rw some refl in let bad = sym none ∙ is in absurd cc)
]

not_area_exhausted : (d : Durable) (area : Area) (wants : Option Command) → is_last area ≡ false
    → disk_refusal d area wants ≢ Some AreaExhausted
not_area_exhausted d area None free is = absurd cc
not_area_exhausted d area (Some Raise) free is = cond_both (d.counter == 2 ^ 64 - 1) _ _ (λ (o : Option Refusal). o ≢ Some AreaExhausted)
    (λ _ e. absurd cc) (λ _ e. absurd cc) is
not_area_exhausted d area (Some (Put work)) free is =
    cond_both (nat_le (2 ^ 64 - 1) d.next) _ _ (λ (o : Option Refusal). o ≢ Some AreaExhausted) (λ _ e. absurd cc)
    (λ _. cond_both (nat_lt area.slots (length d.pending + 3)) _ _ (λ (o : Option Refusal). o ≢ Some AreaExhausted) (λ _ e. absurd cc)
    (λ _. area_free area free)) is
not_area_exhausted d area (Some (JobDone id)) free is = area_free area free is

-- what an event answers that the core lets pass, and that is told as exhausted
exhausted_why : (why : Option Refusal) → AnswersEvent {A = StepReport} None why (Err node.Exhausted)
    → (why ≡ Some Exhausted) ⊎ (why ≡ Some AreaExhausted)
exhausted_why None a = ⊎_elim (λ e. absurd (let bad = e in cc))
    (λ or. ⊎_elim (λ e. absurd (let bad = e in cc)) (λ e. absurd (let bad = e in cc)) or) a
exhausted_why (Some (Core f)) a = ⊎_elim (λ e. absurd (let bad = e in cc)) (λ e. absurd cc) a
exhausted_why (Some Full) a = ⊎_elim (λ e. absurd (let bad = e in cc)) (λ e. absurd cc) a
exhausted_why (Some Exhausted) a = inl refl
exhausted_why (Some AreaExhausted) a = inr refl

area_exhausted_outcome : (event other : Event) (o : EventOutcome) → what_of event o ≡ what.Refused other AreaExhausted
    → o ≡ outcome.Refused AreaExhausted
area_exhausted_outcome event other (outcome.Refused why) is = (let same : why ≡ AreaExhausted = cc is in ap outcome.Refused same)
area_exhausted_outcome event other o is = absurd cc

-- ---- an event

-- what a node says of its disk where it is down and where it is up
pub record Shows (old : Node Memory) : Type 0 where
  pub fallen : is_down old.state.phase ≡ true → old.state ≡ down old.id
  pub up : is_down old.state.phase ≡ false → IsSome old.kept × IsSome old.area
  pub number : (disk : Memory) (area : Area) → old.disk ≡ Some disk → old.area ≡ Some area → AllNumbered area.number (state_of disk)
  pub ids : (d : Durable) → old.kept ≡ Some d → d.next < 2 ^ 64

-- the number that a node shows is within a bound of its disk's
shown_within : (was : Memory) (number bound : ℕ) → AllNumbered number (state_of was) → AllWithin bound (state_of was) → number ≤ bound
shown_within was number bound numbered within =
    let now : IsImage (state_of was) was.contents = record { size = refl; same = λ at still. refl } in
    within was.contents number now (numbered was.contents now)

can_rise : (area : Area) (bound : ℕ) → area.number ≤ bound → bound + 1 < 2 ^ 64 → is_last area ≡ false
can_rise area bound low more = grind (arith, nat_tests, low, more)

module _ (old new : Node Memory) (event : Event) (w : HistoryEvent) (sent : List Envelope) (did : Did old event w sent new)
    (shows : Shows old) (s : NodeState) (stands : Stands state_of old s) where
  abbrev came : StepReport
  came = did.came

  -- a node that is down refuses nothing so
  area_exhausted_down : is_down old.state.phase ≡ true → IsPossible old.id old.nodes s (what.Refused event AreaExhausted) → ⊥
  area_exhausted_down is possible =
      let fallen : s.state ≡ down old.id = sym stands.state ∙ shows.fallen is in
      let none = (at_down old.id old.nodes s event fallen possible.0 possible.1.0).wants in
      subst (λ (w : Option Command). IsAppended w) none possible.1.1.1

  area_exhausted_up : (bound : ℕ) → is_down old.state.phase ≡ false → IsPossible old.id old.nodes s (what.Refused event AreaExhausted)
      → answered (Ok came) ≡ Err node.Exhausted → AreaWithin bound old.disk → bound + 1 < 2 ^ 64 → ⊥
  area_exhausted_up bound is possible ends within more =
      let disk = some_of old.disk did.counts.was_there in
      let d = some_of old.kept (shows.up is).0 in
      let area = some_of old.area (shows.up is).1 in
      let low = shown_within disk.0 area.0.number bound (shows.number disk.0 area.0 disk.1 area.1) (within disk.0 disk.1) in
      let same : d.0 ≡ s.durable = same_Some d.0 s.durable (sym d.1 ∙ (stands.up is).0) in
      let core : refusal_of old.nodes old.id event old.state ≡ None =
      subst (λ x. refusal_of old.nodes old.id event x ≡ None) (sym stands.state) possible.1.0 in
      let unspent : IsSpent d.0 (wants_of old.id d.0.pending event old.state) → ⊥ =
      subst (λ x. IsSpent x (wants_of old.id x.pending event old.state) → ⊥) (sym same)
      (subst (λ x. IsSpent s.durable (wants_of old.id s.durable.pending event x) → ⊥) (sym stands.state) possible.1.1.0) in
      let why = disk_refusal d.0 area.0 (wants_of old.id d.0.pending event old.state) in
      let answers : AnswersEvent {A = StepReport} None why (Err node.Exhausted) =
      subst (λ (c : Option CoreFault). AnswersEvent {A = StepReport} c why (Err node.Exhausted)) core
      (subst (λ (r : Result StepReport NodeFault). AnswersEvent (refusal_of old.nodes old.id event old.state) why r) ends
      (did.answers d.0 area.0 d.1 area.1)) in
      ⊎_elim (λ e. unspent (refused_spent d.0 area.0 (wants_of old.id d.0.pending event old.state) (shows.ids d.0 d.1) e))
      (λ e. not_area_exhausted d.0 area.0 (wants_of old.id d.0.pending event old.state) (can_rise area.0 bound low more) e)
      (exhausted_why why answers)

  area_exhausted : (bound : ℕ) → AreaWithin bound old.disk → bound + 1 < 2 ^ 64 → IsAreaExhausted w → ⊥
  area_exhausted bound within more is =
      let disk = some_of old.disk did.counts.was_there in
      let ends : came.event_outcome ≡ outcome.Refused AreaExhausted =
      area_exhausted_outcome event is.0 came.event_outcome (sym did.written ∙ is.1) in
      let does = (did.steps disk.0 s disk.1 stands (λ _. refl)).0 in
      let possible : IsPossible old.id old.nodes s (what.Refused event AreaExhausted) =
      subst (λ o. IsPossible old.id old.nodes s (what_of event o)) ends does.possible in
      let told : answered (Ok came) ≡ Err node.Exhausted = ap (λ o. answered_as came (fault_of o)) ends in
      by_phase (is_down old.state.phase) refl possible told
    where
      by_phase : (b : Bool) → is_down old.state.phase ≡ b → IsPossible old.id old.nodes s (what.Refused event AreaExhausted)
          → answered (Ok came) ≡ Err node.Exhausted → ⊥
      by_phase true is possible told = area_exhausted_down is possible
      by_phase false is possible told = area_exhausted_up bound is possible told within more

forgotten_within : (bound : ℕ) (disk : Option Memory) → AreaWithin bound disk → AreaWithin bound (forgotten_disk disk)
forgotten_within bound None within d at = absurd cc
forgotten_within bound (Some was) within d at = subst (λ (m : Memory). AllWithin bound (state_of m))
    (same_Some (record was { spans = [] }) d at) (assumption (within was refl))

pub event_area : (old new : Node Memory) (event : Event) (w : HistoryEvent) (sent : List Envelope) → Did old event w sent new → Shows old
    → StandsForSome old → AreaRises old.disk new.disk w
event_area old new event w sent did shows stands bound within =
    let disk = some_of old.disk did.counts.was_there in (
      subst (λ (m : Option Memory). AreaWithin (bound + 1) m) (sym (ap (λ (n : Node Memory). n.disk) did.forgot))
          (forgotten_within (bound + 1) did.left.disk (λ now at. did.counts.rises disk.0 now disk.1 at refl bound (within disk.0 disk.1))),
      λ more is. area_exhausted old new event w sent did shows stands.0 stands.1 bound within more is,
    )

-- ---- turns without an event

more_within : (bound : ℕ) (disk : Option Memory) → AreaWithin bound disk → AreaWithin (bound + 1) disk
more_within bound disk within d at image number is cell = omega (arith, within d at image number is cell)

rests_never_area_exhausted : IsAreaExhausted (what.NoOp Nothing) → ⊥
rests_never_area_exhausted is = (let bad = is.1 in absurd cc)

pub rests_area : (disk : Option Memory) → AreaRises disk disk (what.NoOp Nothing)
rests_area disk bound within = (more_within bound disk within, λ more is. rests_never_area_exhausted is)

pub armed_area : (calls : ℕ) (disk : Option Memory) → AreaRises disk (armed_disk calls disk) (what.NoOp Nothing)
armed_area calls disk bound within = (
  more_within bound (armed_disk calls disk) (armed_within disk within),
  λ more is. rests_never_area_exhausted is,
)
  where
    armed_within : (disk : Option Memory) → AreaWithin bound disk → AreaWithin bound (armed_disk calls disk)
    armed_within None within d at = absurd cc
    armed_within (Some was) within d at = subst (λ (m : Memory). AllWithin bound (state_of m))
        (same_Some (record was { left = Some calls }) d at) (assumption (within was refl))

pub crashed_area : (old new : Option Memory) → IsSome old
    → ((was now : Memory) (bound : ℕ) → old ≡ Some was → new ≡ Some now → AllWithin bound (state_of was) → AllWithin bound (state_of now))
    → AreaRises old new what.Crashed
crashed_area old new there keeps bound within =
    let was = some_of old there in
    (more_within bound new (λ d at. keeps was.0 d bound was.1 at (within was.0 was.1)), λ more is. (let bad = is.1 in absurd cc))

-- ---- failures

-- the count after a call, by what came of its event
fails_by : (n m : ℕ) (came : StepReport) (event : Event) (sent : List Envelope) (o : EventOutcome)
    → ((IsErrOf (answered_as came (fault_of o)) node.Device → ⊥) → m ≡ n)
    → (IsErrOf (answered_as came (fault_of o)) node.Device → (n < m) ⊎ (m ≡ 2 ^ 64 - 1))
    → Fails n (record { what = what_of event o; sent = sent }) m
fails_by n m came event sent outcome.Faulted same rose = rose refl
fails_by n m came event sent outcome.MountFailed same rose = rose refl
fails_by n m came event sent (outcome.RaiseFailed kept) same rose = rose refl
fails_by n m came event sent (outcome.Refused (Core f)) same rose = same (λ e. absurd (let bad = e in cc))
fails_by n m came event sent (outcome.Refused why) same rose = same (λ e. absurd (let bad = e in cc))
fails_by n m came event sent o same rose = same (λ e. absurd (let bad = e in cc))

forgotten_failures : (disk : Option Memory) (d : Memory) → forgotten_disk disk ≡ Some d
    → (m : Memory) × (disk ≡ Some m) × (d.failures ≡ m.failures)
forgotten_failures None d at = absurd cc
forgotten_failures (Some m) d at = (m, refl, sym (ap (λ (x : Memory). x.failures) (same_Some (record m { spans = [] }) d at)))

armed_failures : (calls : ℕ) (disk : Option Memory) (was d : Memory) → disk ≡ Some was → armed_disk calls disk ≡ Some d
    → d.failures ≡ was.failures
armed_failures calls disk was d here at =
    sym (ap (λ (x : Memory). x.failures) (same_Some (record was { left = Some calls }) d (sym (ap (armed_disk calls) here) ∙ at)))

-- a turn's entry says whether the disk failed
pub turn_fails : (old new : Node Memory) (asked : Asked) (w : HistoryEvent) (sent : List Envelope) → TurnDid old asked w sent new
    → (was now : Memory) → old.disk ≡ Some was → new.disk ≡ Some now → Fails was.failures (record { what = w; sent = sent }) now.failures
turn_fails old new (Hand event) w sent did was now here there =
    let left = forgotten_failures did.left.disk now (sym (ap (λ (n : Node Memory). n.disk) did.forgot) ∙ there) in
    let counts = did.counts.counts was left.0 here left.1 in
    subst (λ (x : HistoryEvent). Fails was.failures (record { what = x; sent = sent }) now.failures) (sym did.written)
    (subst (λ (m : ℕ). Fails was.failures (record { what = what_of event did.came.event_outcome; sent = sent }) m) (sym left.2)
    (fails_by was.failures left.0.failures did.came event sent did.came.event_outcome counts.unchanged counts.cause))
turn_fails old new NoEvent w sent did was now here there =
    rw did.1 (ap (λ (m : Memory). m.failures) (sym (same_Some was now (sym here ∙ sym (ap (λ (n : Node Memory). n.disk) did.0) ∙ there))))
turn_fails old new (Arm calls) w sent did was now here there =
    rw did.1 (armed_failures calls old.disk was now here (sym (ap (λ (n : Node Memory). n.disk) did.0.armed) ∙ there))
turn_fails old new (Crash fill) w sent did was now here there =
    rw did.1 (ap (λ (m : Memory). m.failures) (did.0.disk was now here there).1)

-- the disk is there before a turn
pub disk_before : (old new : Node Memory) (asked : Asked) (w : HistoryEvent) (sent : List Envelope) → TurnDid old asked w sent new
    → (now : Memory) → new.disk ≡ Some now → (was : Memory) × (old.disk ≡ Some was)
disk_before old new (Hand event) w sent did now there = some_of old.disk did.counts.was_there
disk_before old new NoEvent w sent did now there = (now, sym (ap (λ (n : Node Memory). n.disk) did.0) ∙ there)
disk_before old new (Arm calls) w sent did now there = was_there old.disk (sym (ap (λ (n : Node Memory). n.disk) did.0.armed) ∙ there)
  where
    was_there : (disk : Option Memory) → armed_disk calls disk ≡ Some now → (was : Memory) × (disk ≡ Some was)
    was_there None at = absurd cc
    was_there (Some was) at = (was, refl)
disk_before old new (Crash fill) w sent did now there = some_of old.disk did.0.there
