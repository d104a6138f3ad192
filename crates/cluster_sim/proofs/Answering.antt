-- What an event at a node is answered, and what an act does to the number of its area.
use Rattle.std.proofs.Common.{◌≡◌, ◌≢◌, ◌⊎◌, inl, inr, ⊎_elim, ℕ, ◌+◌, ◌-◌, ◌^◌, ◌<◌, ◌≤◌, ◌==◌, Bool, true, false, List, length, slice_get}
use Rattle.std.proofs.Common.{refl, sym, ◌∙◌, ap, subst, arith, Option, Some, None, Result, Ok, Err, IsOk, IsErrOf, IfOk, if◌then◌else◌}
use Rattle.std.proofs.Common.{◌&&◌}
use Rattle.std.specs.Prelude.{nat_le, nat_lt}
use Rattle.std.proofs.lemmas.Bool.Decides.{nat_tests}
use Rattle.job_journal.specs.Journal.{AllWithin, AllNumbered}
use Rattle.job_model.specs.declared.node_command.NodeCommand.{NodeCommand as Command}
use Rattle.job_model.specs.declared.node_command.NodeCommand.TheVariants.{Raise, Put, Done as JobDone}
use Rattle.job_model.specs.Durable.{Durable}
use Rattle.node_store.specs.Store.{slots_for}
use Rattle.sector_disk.specs.Disk.{IsImage}
use Rattle.sector_disk.specs.Memory.{Memory, state_of}
use Rattle.node_core.specs.declared.event.Event.{Event}
use Rattle.node_core.specs.declared.fault.CoreFault.{CoreFault}
use Rattle.node_core.specs.declared.fault.CoreFault.TheVariants.{NoMemory}
use Rattle.node_core.specs.declared.fault.Refusal.{Refusal}
use Rattle.node_core.specs.declared.fault.Refusal.TheVariants.{Core, Full, Exhausted, AreaExhausted}
use Rattle.node_core.specs.NodeStep.{IsAppended, IsSpent}
use Rattle.node_core.specs.Refusals.{refusal_of}
use Rattle.node_core.specs.Start.{down}
use Rattle.node_core.specs.State.{is_down}
use Rattle.node_core.specs.Wants.{wants_of}
use Rattle.histories.specs.NodeState.{NodeState, wants_at}
use Rattle.histories.specs.declared.event_outcome.EventOutcome.{EventOutcome}
use Rattle.histories.specs.declared.event_outcome.EventOutcome.TheVariants.{Refused, Faulted, Recovered, MountFailed, RaiseFailed}
use Rattle.histories.specs.declared.event_outcome.EventOutcome.TheVariants.{RaiseRefused}
use Rattle.histories.specs.EventOutcomes.{what_of}
use Rattle.histories.proofs.PublicLaws.{at_down}
use Rattle.sim_net.specs.Network.{Network}
use Rattle.schedule.specs.declared.act.Act.{Act}
use Rattle.schedule.specs.declared.act.Act.TheVariants as act
use Rattle.runs.specs.Events.{event_at}
use Rattle.durable_node.specs.Arming.{armed_disk}
use Rattle.std.proofs.lemmas.Option.{slice_get_within}
use Rattle.std.specs.Prelude.{slice_set}
use Rattle.durable_node.specs.declared.step_report.StepReport.{StepReport}
use Rattle.durable_node.specs.declared.fault.NodeFault.{NodeFault}
use Rattle.durable_node.specs.declared.fault.NodeFault.TheVariants as node
use Rattle.durable_node.specs.Faults.{answered, answered_as, fault_of, shown}
use Rattle.durable_node.specs.Node.{Area, Node, Stands}
use Rattle.durable_node.specs.Refusing.{Answers, AnswersEvent, compaction_refusal, disk_refusal, area_refusal, is_last}
use Rattle.durable_node.specs.Stepping.{CountsOf, Does, Steps, Stuck}
use Rattle.durable_node.proofs.PublicLaws.{is_some}
use Rattle.runs.specs.declared.outcome.Outcome.{Outcome}
use Rattle.runs.specs.declared.outcome.Outcome.TheVariants as outcome
use Rattle.runs.specs.declared.outcome.ActRefusal.TheVariants.{Node as OfNode}
use Rattle.cluster_sim.specs.Answering.{IsAnswered, IsAnsweredAt, IsAnsweredBy, event_by, first_of}
use Rattle.cluster_sim.specs.declared.act_report.ActReport.{ActReport}
use Rattle.cluster_sim.specs.Operated.{IsRefusedAs}
use Rattle.cluster_sim.specs.Outcomes.{came_outcome}
use Rattle.cluster_sim.specs.World.{AreaRises, AreaWithin, AreasRise, AreasWithin, IsUntouched, IsUntouchedNode, WorldView}
use Rattle.cluster_sim.proofs.Members.{at_each}
use Rattle.runs.proofs.PublicLaws.{at_place}
use Rattle.histories.proofs.PublicLaws.{eq_nat}

-- ---- why a disk can't take a command

spent_refused : (d : Durable) (area : Area) (wants : Option Command) → IsSpent d wants → disk_refusal d area wants ≡ Some Exhausted
spent_refused d area None spent = absurd spent
spent_refused d area (Some Raise) spent = grind (arith, nat_tests, spent)
spent_refused d area (Some (Put work)) spent = grind (arith, nat_tests, spent)
spent_refused d area (Some (JobDone id)) spent = absurd spent

area_not_spent : (area : Area) → area_refusal area ≡ Some Exhausted → ⊥
area_not_spent area is = by_room (area.used == area.slots && is_last area) is
  where
    by_room : (b : Bool) → (if b then Some AreaExhausted else None) ≡ Some Exhausted → ⊥
    by_room true is = absurd cc
    by_room false is = absurd cc

put_spent : (next : ℕ) (full : Bool) (area : Area) → next < 2 ^ 64
    → (if nat_le (2 ^ 64 - 1) next then Some Exhausted else (if full then Some Full else area_refusal area)) ≡ Some Exhausted
    → next ≡ 2 ^ 64 - 1
put_spent next full area few is = by_next (nat_le (2 ^ 64 - 1) next) refl full is
  where
    by_next : (b : Bool) → nat_le (2 ^ 64 - 1) next ≡ b → (c : Bool)
        → (if b then Some Exhausted else (if c then Some Full else area_refusal area)) ≡ Some Exhausted → next ≡ 2 ^ 64 - 1
    by_next true eq c is = grind (arith, nat_tests, eq, few)
    by_next false eq true is = absurd cc
    by_next false eq false is = absurd (area_not_spent area is)

refused_spent : (d : Durable) (area : Area) (wants : Option Command) → d.next < 2 ^ 64 → disk_refusal d area wants ≡ Some Exhausted
    → IsSpent d wants
refused_spent d area None few is = absurd cc
refused_spent d area (Some Raise) few is = by_counter (d.counter == 2 ^ 64 - 1) refl is
  where
    by_counter : (b : Bool) → (d.counter == 2 ^ 64 - 1) ≡ b → (if b then Some Exhausted else None) ≡ Some Exhausted → d.counter ≡ 2 ^ 64 - 1
    by_counter true eq is = grind (arith, nat_tests, eq)
    by_counter false eq is = absurd cc
refused_spent d area (Some (Put work)) few is = put_spent d.next (nat_lt area.slots (length d.pending + 3)) area few is
refused_spent d area (Some (JobDone id)) few is = absurd (area_not_spent area is)

area_free : (area : Area) → is_last area ≡ false → area_refusal area ≡ None
area_free area free = by_room (area.used == area.slots)
  where
    by_room : (b : Bool) → (if b && is_last area then Some AreaExhausted else None) ≡ None
    by_room true = rw free refl
    by_room false = refl

-- where the area can be raised it isn't used up
not_area_exhausted : (d : Durable) (area : Area) (wants : Option Command) → is_last area ≡ false
    → disk_refusal d area wants ≢ Some AreaExhausted
not_area_exhausted d area None free is = absurd cc
not_area_exhausted d area (Some Raise) free is = by_counter (d.counter == 2 ^ 64 - 1) is
  where
    by_counter : (b : Bool) → (if b then Some Exhausted else None) ≡ Some AreaExhausted → ⊥
    by_counter true is = absurd cc
    by_counter false is = absurd cc
not_area_exhausted d area (Some (Put work)) free is = by_both (nat_le (2 ^ 64 - 1) d.next) (nat_lt area.slots (length d.pending + 3)) is
  where
    by_both : (b c : Bool) → (if b then Some Exhausted else (if c then Some Full else area_refusal area)) ≡ Some AreaExhausted → ⊥
    by_both false false is = (let none = sym (area_free area free) ∙ is in absurd cc)
    by_both _ _ is = absurd cc
not_area_exhausted d area (Some (JobDone id)) free is = (let none = sym (area_free area free) ∙ is in absurd cc)

-- ---- an event at a node that is up

module _ (slots self nodes first : ℕ) (s : NodeState) (event : Event) (came : StepReport) (shows : Option Durable)
    (up : is_down s.state.phase ≡ false) where
  -- its vector refuses it
  by_core : (fault : CoreFault) (end : EventOutcome) → answered_as came (fault_of end) ≡ Err (node.Core fault)
      → came_outcome end first came ≡ outcome.Refused (OfNode (Core fault))
  by_core fault (Refused (Core f)) is = (let same : f ≡ fault = cc is in ap (λ (x : CoreFault). outcome.Refused (OfNode (Core x))) same)
  by_core fault _ is = absurd cc

  -- nothing refuses it
  by_none : (end : EventOutcome) → refusal_of nodes self event s.state ≡ None → Does slots self nodes s event came shows (what_of event end)
      → IsErrOf (answered_as came (fault_of end)) (node.Core NoMemory)
      ⊎ (IsOk (answered_as came (fault_of end)) ⊎ IsErrOf (answered_as came (fault_of end)) node.Device)
      → IsRefusedAs None (came_outcome end first came)
  by_none (RaiseRefused kept) core does either why is = absurd (let both : true ≡ false = sym does.possible.0 ∙ up in cc)
  by_none (Refused (Core f)) core does either why is = absurd (let both = sym core ∙ does.possible.1 in cc)
  by_none (Refused _) core does either why is = ⊎_elim (λ e. absurd (let bad = e in cc))
      (λ or. ⊎_elim (λ e. absurd (let bad = e in cc)) (λ e. absurd (let bad = e in cc)) or) either
  by_none _ core does either why is = cc

  -- its disk refuses it
  by_disk : (area : Area) (why : Refusal) (end : EventOutcome) → s.durable.next < 2 ^ 64 → refusal_of nodes self event s.state ≡ None
      → disk_refusal s.durable area (wants_at self nodes s event) ≡ Some why
      → Does slots self nodes s event came shows (what_of event end)
      → IsErrOf (answered_as came (fault_of end)) (node.Core NoMemory) ⊎ (answered_as came (fault_of end) ≡ Err (shown why))
      → came_outcome end first came ≡ outcome.Refused (OfNode why)
  by_disk area why (Recovered kept) few core is does either = absurd (let both : true ≡ false = sym does.possible.0 ∙ up in cc)
  by_disk area why MountFailed few core is does either = absurd (let both : true ≡ false = sym does.possible ∙ up in cc)
  by_disk area why (RaiseFailed kept) few core is does either = absurd (let both : true ≡ false = sym does.possible.0 ∙ up in cc)
  by_disk area why (RaiseRefused kept) few core is does either = absurd (let both : true ≡ false = sym does.possible.0 ∙ up in cc)
  by_disk area why (Refused (Core f)) few core is does either = absurd (let both = sym core ∙ does.possible.1 in cc)
  by_disk area why (Refused Exhausted) few core is does either =
      (let same : Exhausted ≡ why = cc (sym (spent_refused s.durable area (wants_at self nodes s event) does.possible.1.1) ∙ is) in
      ap (λ (x : Refusal). outcome.Refused (OfNode x)) same)
  by_disk area Full (Refused Full) few core is does either = refl
  by_disk area AreaExhausted (Refused AreaExhausted) few core is does either = refl
  by_disk area Exhausted (Refused AreaExhausted) few core is does either =
      absurd (does.possible.1.1.0 (refused_spent s.durable area (wants_at self nodes s event) few is))
  by_disk area (Core f) Faulted few core is does either = ⊎_elim (λ e. absurd (let bad = e in cc)) (λ e. absurd cc) either
  by_disk area _ _ few core is does either = ⊎_elim (λ e. absurd (let bad = e in cc)) (λ e. absurd cc) either

  pub refused_so : (area : Area) → s.durable.next < 2 ^ 64 → Does slots self nodes s event came shows (what_of event came.event_outcome)
      → AnswersEvent (refusal_of nodes self event s.state) (disk_refusal s.durable area (wants_at self nodes s event))
      (answered_as came (fault_of came.event_outcome))
      → IsRefusedAs (first_of (refusal_of nodes self event s.state) (disk_refusal s.durable area (wants_at self nodes s event)))
      (came_outcome came.event_outcome first came)
  refused_so area few does answers = by_both (refusal_of nodes self event s.state) refl
      (disk_refusal s.durable area (wants_at self nodes s event)) refl answers
    where
      by_both : (core : Option CoreFault) → refusal_of nodes self event s.state ≡ core → (why : Option Refusal)
          → disk_refusal s.durable area (wants_at self nodes s event) ≡ why
          → AnswersEvent core why (answered_as came (fault_of came.event_outcome))
          → IsRefusedAs (first_of core why) (came_outcome came.event_outcome first came)
      by_both (Some fault) core why is answers = by_core fault came.event_outcome answers
      by_both None core None is answers = by_none came.event_outcome core does answers
      by_both None core (Some why) is answers = by_disk area why came.event_outcome few core is does answers

-- ---- at the node

-- what a node answers, as its cluster reports it
pub answered_so : (old new : Node Memory) (event : Event) (came : StepReport) (first : ℕ) (s : NodeState)
    → (disk : Memory) × (old.disk ≡ Some disk) → Steps state_of old new event came → Answers old event (answered (Ok came))
    → (is_down old.state.phase ≡ true → (old.kept ≡ None) × (old.area ≡ None)) → ((d : Durable) → old.kept ≡ Some d → d.next < 2 ^ 64)
    → Stands state_of old s → IsAnswered old event (came_outcome came.event_outcome first came)
answered_so old new event came first s has steps answers down_shows few stands d area kept at =
    let does = (steps has.0 s has.1 stands (λ _. refl)).0 in
    by_phase (is_down old.state.phase) refl does
  where
    by_phase : (b : Bool) → is_down old.state.phase ≡ b → Does (slots_for (state_of has.0).sectors) old.id old.nodes s event came
        new.mounted (what_of event came.event_outcome)
        → IsRefusedAs (first_of (refusal_of old.nodes old.id event old.state)
        (disk_refusal d area (wants_of old.id d.pending event old.state))) (came_outcome came.event_outcome first came)
    by_phase true is does = absurd (let none = sym (down_shows is).0 ∙ kept in cc)
    by_phase false is does =
        let same : d ≡ s.durable = is_some d s.durable (sym kept ∙ (stands.up is).0) in
        rw (same, stands.state) (refused_so _ old.id old.nodes first s event came new.mounted (rw stands.state at is) area
        (rw same at (few d kept)) does (rw (same, stands.state) at (answers d area kept at)))

-- ---- an area that can be raised

-- nothing but an area that is used up is refused as area_exhausted
area_exhausted_alone : (core : Option CoreFault) (disk : Option Refusal) (o : Outcome) → IsRefusedAs (first_of core disk) o
    → o ≡ outcome.Refused (OfNode AreaExhausted) → disk ≡ Some AreaExhausted
area_exhausted_alone (Some fault) disk o is area_exhausted = (let both = sym is ∙ area_exhausted in absurd cc)
area_exhausted_alone None None o is area_exhausted = absurd (is (OfNode AreaExhausted) area_exhausted)
area_exhausted_alone None (Some why) o is area_exhausted = (let both = sym is ∙ area_exhausted in cc)

-- the number that a node shows is within a bound of its disk's
shown_within : (was : Memory) (number bound : ℕ) → AllNumbered number (state_of was) → AllWithin bound (state_of was) → number ≤ bound
shown_within was number bound numbered within =
    let now : IsImage (state_of was) was.contents = record { size = refl; same = λ at still. refl } in
    within was.contents number now (numbered was.contents now)

can_rise : (area : Area) (bound : ℕ) → area.number ≤ bound → bound + 1 < 2 ^ 64 → is_last area ≡ false
can_rise area bound low more = grind (arith, nat_tests, low, more)

-- what a node says of its disk where it is down and where it is up
pub record Shows (old : Node Memory) : Type 0 where
  pub fallen : is_down old.state.phase ≡ true → old.state ≡ down old.id
  pub up : is_down old.state.phase ≡ false → ((d : Durable) × (old.kept ≡ Some d)) × ((area : Area) × (old.area ≡ Some area))
  pub number : (disk : Memory) (area : Area) → old.disk ≡ Some disk → old.area ≡ Some area → AllNumbered area.number (state_of disk)

module _ (old new : Node Memory) (event : Event) (came : StepReport) (first : ℕ) (s : NodeState) (disk : Memory)
    (at_disk : old.disk ≡ Some disk) (shows : Shows old) (stands : Stands state_of old s) where
  -- a node that is down refuses nothing so
  area_exhausted_down : (slots : ℕ) (end : EventOutcome) → is_down old.state.phase ≡ true
      → Does slots old.id old.nodes s event came new.mounted (what_of event end)
      → came_outcome end first came ≡ outcome.Refused (OfNode AreaExhausted) → ⊥
  area_exhausted_down slots (Refused AreaExhausted) is does area_exhausted =
      let fallen : s.state ≡ down old.id = sym stands.state ∙ shows.fallen is in
      let none = (at_down old.id old.nodes s event fallen does.possible.0 does.possible.1.0).wants in
      subst (λ (w : Option Command). IsAppended w) none does.possible.1.1.1
  area_exhausted_down slots _ is does area_exhausted = absurd cc

  area_exhausted_up : (bound : ℕ) → is_down old.state.phase ≡ false → IsAnswered old event (came_outcome came.event_outcome first came)
      → AreaWithin bound old.disk → bound + 1 < 2 ^ 64 → came_outcome came.event_outcome first came ≡ outcome.Refused (OfNode AreaExhausted)
      → ⊥
  area_exhausted_up bound is answered within more area_exhausted =
      let shown = shows.up is in
      let d = shown.0.0 in
      let area = shown.1.0 in
      let low = shown_within disk area.number bound (shows.number disk area at_disk shown.1.1) (within disk at_disk) in
      not_area_exhausted d area (wants_of old.id d.pending event old.state) (can_rise area bound low more)
      (area_exhausted_alone _ _ _ (answered d area shown.0.1 shown.1.1) area_exhausted)

  pub areas_so : Steps state_of old new event came → CountsOf state_of old.disk new.disk (answered (Ok came))
      → IsAnswered old event (came_outcome came.event_outcome first came)
      → AreaRises old.disk new.disk (came_outcome came.event_outcome first came)
  areas_so steps counts answered bound within = (
    λ now at. counts.rises disk now at_disk at refl bound (within disk at_disk),
    λ more area_exhausted. by_phase (is_down old.state.phase) refl more area_exhausted,
  )
    where
      by_phase : (b : Bool) → is_down old.state.phase ≡ b → bound + 1 < 2 ^ 64
          → came_outcome came.event_outcome first came ≡ outcome.Refused (OfNode AreaExhausted) → ⊥
      by_phase true is more area_exhausted = area_exhausted_down (slots_for (state_of disk).sectors) came.event_outcome is
          (steps disk s at_disk stands (λ _. refl)).0 area_exhausted
      by_phase false is more area_exhausted = area_exhausted_up bound is answered within more area_exhausted

-- ---- an event that comes to nothing

pub stuck_so : (old new : Node Memory) (event : Event) (fault : NodeFault) (disk : Memory) → old.disk ≡ Some disk
    → Stuck state_of old new event fault → (s : NodeState) → Stands state_of old s → IsUntouchedNode old new
stuck_so old new event (node.Core fault) disk at stuck s stands = inr stuck.1
stuck_so old new event node.Full disk at stuck s stands = absurd stuck
stuck_so old new event node.Exhausted disk at stuck s stands = absurd stuck
stuck_so old new event node.Device disk at stuck s stands = absurd stuck
stuck_so old new event _ disk at stuck s stands = absurd (stuck.strange disk s at stands refl)

-- ---- an act of the operator

-- where nothing is refused as area_exhausted, and the area stays
pub area_stays : (old new : Option Memory) (o : Outcome) → o ≢ outcome.Refused (OfNode AreaExhausted)
    → ((bound : ℕ) → AreaWithin bound old → AreaWithin bound new) → AreaRises old new o
area_stays old new o other stays bound within = (
  λ d at image number is cell. omega (arith, stays bound within d at image number is cell),
  λ _. other,
)

pub armed_within : (calls : ℕ) (old new : Option Memory) → new ≡ armed_disk calls old → (bound : ℕ) → AreaWithin bound old
    → AreaWithin bound new
armed_within calls None new is bound within d at = absurd (let none = sym is ∙ at in cc)
armed_within calls (Some was) new is bound within d at =
    subst (λ (m : Memory). AllWithin bound (state_of m)) (is_some (record was { left = Some calls }) d (sym is ∙ at))
    (assumption (within was refl))

pub compacted_areas : {A : Type 0} (old new : Node Memory) (result : Result A NodeFault) (o : Outcome) (disk : Memory)
    → old.disk ≡ Some disk → CountsOf state_of old.disk new.disk result → IsRefusedAs (compaction_refusal old.area) o
    → ((d : Memory) (area : Area) → old.disk ≡ Some d → old.area ≡ Some area → AllNumbered area.number (state_of d))
    → AreaRises old.disk new.disk o
compacted_areas old new result o disk at_disk counts refused numbers bound within = (
  λ now at. counts.rises disk now at_disk at refl bound (within disk at_disk),
  λ more area_exhausted. by_area old.area refl refused more area_exhausted,
)
  where
    by_last : (b : Bool) → b ≡ false → IsRefusedAs (if b then Some AreaExhausted else None) o → o ≡ outcome.Refused (OfNode AreaExhausted)
        → ⊥
    by_last true free is area_exhausted = absurd cc
    by_last false free is area_exhausted = is (OfNode AreaExhausted) area_exhausted

    by_area : (area : Option Area) → old.area ≡ area → IsRefusedAs (compaction_refusal area) o → bound + 1 < 2 ^ 64
        → o ≡ outcome.Refused (OfNode AreaExhausted) → ⊥
    by_area None at is more area_exhausted = (let both = sym is ∙ area_exhausted in cc)
    by_area (Some area) at is more area_exhausted =
        let low = shown_within disk area.number bound (numbers disk area at_disk at) (within disk at_disk) in
        by_last (is_last area) (can_rise area bound low more) is area_exhausted

-- ---- the cluster

-- an act that no node refuses, and that leaves all nodes as they are
pub idle_areas : (old new : List (Node Memory)) (o : Outcome) → new ≡ old → o ≢ outcome.Refused (OfNode AreaExhausted) → (bound : ℕ)
    → AreasWithin bound old → AreasWithin (bound + 1) new × (bound + 1 < 2 ^ 64 → o ≢ outcome.Refused (OfNode AreaExhausted))
idle_areas old new o same other bound within = (
  λ k node at d on image number is cell. omega (arith, within k node (rw same at at) d on image number is cell),
  λ _. other,
)

pub node_areas : (n : ℕ) (nodes : List (Node Memory)) (old new : Node Memory) (o : Outcome) → slice_get nodes n ≡ Some old
    → AreaRises old.disk new.disk o
    → (bound : ℕ) → AreasWithin bound nodes → AreasWithin (bound + 1) (slice_set nodes n new)
    × (bound + 1 < 2 ^ 64 → o ≢ outcome.Refused (OfNode AreaExhausted))
node_areas n nodes old new o at rises bound within =
    let here = rises bound (within n old at) in (
      at_each (λ (k : ℕ) (x : Node Memory). AreaWithin (bound + 1) x.disk) nodes n old new at here.0
          (λ k x other there d on image number is cell. omega (arith, within k x there d on image number is cell)),
      here.1,
    )

pub areas_if : {E : Type 0} (slots n : ℕ) (nodes : List (Node Memory)) (old new : Node Memory) (net net' : Network)
    (result : Result ActReport E) (now : WorldView) → record { slots = slots; nodes = nodes; net = net } ≡ now
    → slice_get nodes n ≡ Some old → IfOk result (λ (d : ActReport). AreaRises old.disk new.disk d.outcome)
    → IfOk result (λ (d : ActReport). AreasRise now (record { slots = slots; nodes = slice_set nodes n new; net = net' }) d.outcome)
areas_if slots n nodes old new net net' (Ok d) now viewed at rises = rw (← viewed) (node_areas n nodes old new d.outcome at rises)
areas_if slots n nodes old new net net' (Err e) now viewed at rises = tt

pub answers_if : {E : Type 0} (n : ℕ) (nodes : List (Node Memory)) (event : Event) (old : Node Memory) (result : Result ActReport E)
    → slice_get nodes n ≡ Some old → IfOk result (λ (d : ActReport). IsAnswered old event d.outcome)
    → IfOk result (λ (d : ActReport). IsAnsweredAt nodes n event d.outcome)
answers_if n nodes event old (Ok d) at is = λ was there. subst (λ (x : Node Memory). IsAnswered x event d.outcome)
    (is_some old was (sym at ∙ there)) is
answers_if n nodes event old (Err e) at is = tt

-- ---- the event that an act is

event_by_at : (net : Network) (a : Act) (e : ℕ × Event) → event_at a ≡ Some e → event_by net a ≡ Some e
event_by_at net (act.Deliver k) e is = absurd cc
event_by_at net _ e is = is

pub answered_by : (net : Network) (nodes : List (Node Memory)) (a : Act) (id : ℕ) (event : Event) (o : Outcome)
    → event_by net a ≡ Some (id, event) → IsAnsweredAt nodes id event o
    → (n : ℕ) (e : Event) → event_by net a ≡ Some (n, e) → IsAnsweredAt nodes n e o
answered_by net nodes a id event o is answered n e at =
    let same : ◌≡◌ {A = ℕ × Event} (id, event) (n, e) = is_some (id, event) (n, e) (sym is ∙ at) in
    subst (λ (p : ℕ × Event). IsAnsweredAt nodes p.0 p.1 o) same answered

pub event_answered : {E : Type 0} (net : Network) (nodes : List (Node Memory)) (a : Act) (id : ℕ) (event : Event)
    (result : Result ActReport E) → event_by net a ≡ Some (id, event)
    → IfOk result (λ (d : ActReport). IsAnsweredAt nodes id event d.outcome)
    → IfOk result (λ (d : ActReport). (n : ℕ) (e : Event) → event_by net a ≡ Some (n, e) → IsAnsweredAt nodes n e d.outcome)
event_answered net nodes a id event (Ok d) is answered = answered_by net nodes a id event d.outcome is answered
event_answered net nodes a id event (Err e) is answered = tt

pub act_answered : {E : Type 0} (net : Network) (nodes : List (Node Memory)) (a : Act) (id : ℕ) (event : Event)
    (result : Result ActReport E) → event_at a ≡ Some (id, event) → IfOk result (λ (d : ActReport). IsAnsweredAt nodes id event d.outcome)
    → IfOk result (λ (d : ActReport). (n : ℕ) (e : Event) → event_by net a ≡ Some (n, e) → IsAnsweredAt nodes n e d.outcome)
act_answered net nodes a id event result is answered = event_answered net nodes a id event result (event_by_at net a _ is) answered

none_by : (net : Network) (a : Act) → event_at a ≡ None → ((k : ℕ) → a ≢ act.Deliver k) → event_by net a ≡ None
none_by net (act.Deliver k) none other = absurd (other k refl)
none_by net _ none other = none

pub no_event : (view : WorldView) (a : Act) (o : Outcome) → event_at a ≡ None → ((k : ℕ) → a ≢ act.Deliver k) → IsAnsweredBy a view o
no_event view a o none other n event at = absurd (let both : None ≡ Some (n, event) = sym (none_by view.net a none other) ∙ at in cc)

-- ---- want of memory

untouched_disk : (bound : ℕ) (was now : Node Memory) → IsUntouchedNode was now → AreaWithin bound was.disk → AreaWithin bound now.disk
untouched_disk bound was now (inl same) within = subst (λ (n : Node Memory). AreaWithin bound n.disk) (sym same) within
untouched_disk bound was now (inr same) within = subst (λ (n : Node Memory). AreaWithin bound n.disk) (sym same) (assumption within)

-- the areas are as they were
pub untouched_areas : (at bound : ℕ) (old new : WorldView) → IsUntouched at old new → AreasWithin bound old.nodes
    → AreasWithin bound new.nodes
untouched_areas at bound old new same within k node on = by_place (k == at) refl
  where
    by_place : (b : Bool) → (k == at) ≡ b → AreaWithin bound node.disk
    by_place true is =
        let here : k ≡ at = eq_nat k at is in
        let node_at : slice_get new.nodes at ≡ Some node = subst (λ (j : ℕ). slice_get new.nodes j ≡ Some node) here on in
        let was = at_place old.nodes at (omega (arith, same.count, slice_get_within new.nodes at node node_at)) in
        untouched_disk bound was.0 node (same.here was.0 node was.1 node_at) (within at was.0 was.1)
    by_place false is =
        let ne : k ≢ at = grind (arith, nat_tests) in within k node (sym (same.elsewhere k ne) ∙ on)
