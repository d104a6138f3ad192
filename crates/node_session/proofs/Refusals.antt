-- What a call that was refused says of the node and its disk.
use Rattle.std.proofs.Common.{◌≡◌, ◌⊎◌, inl, inr, refl, sym, ap, ◌∙◌, subst, Option, Some, None, Result, Ok, Err}
use Rattle.std.specs.Prelude.{IsOk}
use Rattle.sector_disk.specs.Disk.{DiskState}
use Rattle.node_core.specs.declared.fault.CoreFault.{CoreFault}
use Rattle.node_core.specs.declared.fault.Refusal.{Refusal}
use Rattle.node_core.specs.declared.fault.Refusal.TheVariants.{Core, Full, Exhausted, AreaExhausted}
use Rattle.durable_node.specs.declared.fault.NodeFault.{NodeFault}
use Rattle.durable_node.specs.declared.fault.NodeFault.TheVariants as node
use Rattle.durable_node.specs.declared.step_report.StepReport.{StepReport}
use Rattle.durable_node.specs.Faults.{answered}
use Rattle.durable_node.specs.Refusing.{AnswersEvent, AnswersTo, disk_refusal}
use Rattle.node_core.specs.Refusals.{refusal_of}
use Rattle.node_core.specs.Wants.{wants_of}
use Rattle.node_session.specs.Turns.{compaction_end, ended_by}
use Rattle.node_session.specs.Exact.{DeviceWhereFailed, ExhaustedWhereNoneLeft}

-- the fault that ends a call is the one that it answers, and the other way round
step_fault : (r : Result StepReport NodeFault) (fault : NodeFault) → Err fault ≡ ended_by r → r ≡ Err fault
step_fault (Ok came) fault so = absurd cc
step_fault (Err other) fault so = cc

step_ends : (r : Result StepReport NodeFault) (fault : NodeFault) → r ≡ Err fault → ended_by r ≡ Err fault
step_ends r fault so = ap ended_by so

compaction_fault : (r : Result Unit NodeFault) (fault : NodeFault) → Err fault ≡ compaction_end r → r ≡ Err fault
compaction_fault (Ok done) fault so = absurd cc
compaction_fault (Err other) fault so = cc

compaction_ends : (r : Result Unit NodeFault) (fault : NodeFault) → r ≡ Err fault → compaction_end r ≡ Err fault
compaction_ends r fault so = ap compaction_end so

pub device_so : {Disk : Type 0} (disks : Disk → DiskState) → DeviceWhereFailed disks
device_so disks (Some event) old new sent ended was now call is at =
    let c = call.says.counts.counts was now is at in (
      λ so. c.cause (step_fault (answered call.reply) node.Device (sym so ∙ call.ended_so)),
      λ other. c.unchanged (λ failed. other (call.ended_so ∙ step_ends (answered call.reply) node.Device failed)),
    )
device_so disks None old new sent ended was now call is at =
    let c = call.says.counts.counts was now is at in (
      λ so. c.cause (compaction_fault call.result node.Device (sym so ∙ call.ended_so)),
      λ other. c.unchanged (λ failed. other (call.ended_so ∙ compaction_ends call.result node.Device failed)),
    )

by_refusal : (why : Option Refusal) (r : Result StepReport NodeFault) → r ≡ Err node.Exhausted → AnswersTo why r
    → (why ≡ Some Exhausted) ⊎ (why ≡ Some AreaExhausted)
by_refusal None r is (inl done) = (let bad = subst (λ (q : Result StepReport NodeFault). IsOk q) is done in absurd cc)
by_refusal None r is (inr failed) = (let both = sym is ∙ failed in absurd cc)
by_refusal (Some (Core fault)) r is so = (let both = sym is ∙ so in absurd cc)
by_refusal (Some Full) r is so = (let both = sym is ∙ so in absurd cc)
by_refusal (Some Exhausted) r is so = inl refl
by_refusal (Some AreaExhausted) r is so = inr refl

by_event : (core : Option CoreFault) (why : Option Refusal) (r : Result StepReport NodeFault) → r ≡ Err node.Exhausted
    → AnswersEvent core why r → (why ≡ Some Exhausted) ⊎ (why ≡ Some AreaExhausted)
by_event (Some fault) why r is so = (let both = sym is ∙ so in absurd cc)
by_event None why r is (inl none) = (let both = sym is ∙ none in absurd cc)
by_event None why r is (inr so) = by_refusal why r is so

pub exhausted_so : {Disk : Type 0} (disks : Disk → DiskState) → ExhaustedWhereNoneLeft disks
exhausted_so disks event old new sent d area call kept has =
    by_event (refusal_of old.nodes old.id event old.state) (disk_refusal d area (wants_of old.id d.pending event old.state))
    (answered call.reply)
    (step_fault (answered call.reply) node.Exhausted call.ended_so) (call.says.answers d area kept has)
