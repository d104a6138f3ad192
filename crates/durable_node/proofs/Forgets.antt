-- A node over a disk in memory that has forgotten its earlier moments.
use Rattle.std.proofs.Common.{◌≡◌, Option, Some, None, [], ap, refl, Result, IsErrOf}
use Rattle.sector_disk.specs.Disk.{Counts}
use Rattle.sector_disk.specs.Memory.{Memory, state_of}
use Rattle.job_journal.specs.Journal.{RisesByOne}
use Rattle.node_core.specs.declared.event.Event.{Event}
use Rattle.histories.specs.NodeState.{NodeState}
use Rattle.histories.specs.After.{after}
use Rattle.histories.specs.EventOutcomes.{what_of}
use Rattle.durable_node.specs.declared.step_report.StepReport.{StepReport}
use Rattle.durable_node.specs.declared.fault.NodeFault.{NodeFault}
use Rattle.durable_node.specs.Forgetting.{forgotten_disk}
use Rattle.durable_node.specs.Node.{IsLeft, Stands, Node}
use Rattle.durable_node.specs.Stepping.{Steps, CountsOf}
use Rattle.durable_node.specs.declared.fault.NodeFault.TheVariants as node
use Rattle.durable_node.proofs.Parts.{at_some}

left_forgotten : (disk : Option Memory) (s : NodeState) → ((d : Memory) → disk ≡ Some d → IsLeft (state_of d) s) → (d : Memory)
    → forgotten_disk disk ≡ Some d → IsLeft (state_of d) s
left_forgotten None s left d e = absurd cc
left_forgotten (Some was) s left d e = at_some (λ (m : Memory). IsLeft (state_of m) s)
    (record was { spans = [] }) d e (assumption (left was refl))

-- a node that forgot stands for what it stood for
pub forgets : (old new : Node Memory) (s : NodeState) → new ≡ record old { disk = forgotten_disk old.disk } → Stands state_of old s
    → Stands state_of new s
forgets old new s is stands = rw is (assumption (left_forgotten old.disk s stands.disk, stands))

counts_forgotten : {A : Type 0} (old new : Option Memory) (result : Result A NodeFault) → CountsOf state_of old new result
    → CountsOf state_of old (forgotten_disk new) result
counts_forgotten old None result counts = counts
counts_forgotten old (Some disk) result counts = record {
  was_there = counts.was_there;
  is_there = counts.is_there;
  counts = λ was now e f. at_some (λ (m : Memory). Counts (state_of was) (state_of m) (IsErrOf result node.Device)
      (IsErrOf result node.Device → ⊥)) (record disk { spans = [] }) now f (assumption (counts.counts was disk e refl));
  rises = λ was now e f. at_some (λ (m : Memory). RisesByOne (state_of was) (state_of m))
      (record disk { spans = [] }) now f (assumption (counts.rises was disk e refl));
}

-- a step after which the disk forgets is still one
pub steps_and_forgets : (old new last : Node Memory) (event : Event) (came : StepReport)
    → last ≡ record new { disk = forgotten_disk new.disk } → Steps state_of old new event came → Steps state_of old last event came
steps_and_forgets old new last event came is steps = λ disk s at stands honest.
    let step = steps disk s at stands honest in (
      rw (ap (λ (n : Node Memory). n.mounted) is) step.0,
      forgets new last (after old.id old.nodes s (what_of event came.event_outcome)) is step.1,
    )

-- and its failures are counted as they were
pub counts_and_forgets : {A : Type 0} (old new last : Option Memory) (result : Result A NodeFault) → last ≡ forgotten_disk new
    → CountsOf state_of old new result → CountsOf state_of old last result
counts_and_forgets old new last result is counts = rw is (counts_forgotten old new result counts)
