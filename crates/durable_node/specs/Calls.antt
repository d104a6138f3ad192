-- All that one call with an event does.
use Rattle.std.specs.Prelude.{◌≡◌, ◌≤◌, true, length, IfOk, IfErr, Result}
use Rattle.sector_disk.specs.Disk.{DiskState}
use Rattle.node_core.specs.declared.event.Event.{Event}
use Rattle.node_core.specs.declared.event.Event.TheVariants.{Recover}
use Rattle.node_core.specs.State.{is_down}
use Rattle.durable_node.specs.declared.fault.NodeFault.{NodeFault}
use Rattle.durable_node.specs.declared.step_report.StepReport.{StepReport}
use Rattle.durable_node.specs.Faults.{answered}
use Rattle.durable_node.specs.Node.{Node}
use Rattle.durable_node.specs.Reading.{ReadsDisk}
use Rattle.durable_node.specs.Refusing.{Answers}
use Rattle.durable_node.specs.Remounting.{IsMountedBy, Remounted}
use Rattle.durable_node.specs.Stepping.{AreaGoesOn, CountsOf, Steps, Stuck, most_by}

-- A call with an event: what came of it, the command that was tried with its answer, and the messages; or why it came to nothing.
pub record IsCall {Disk : Type 0} (disks : Disk → DiskState) (old new : Node Disk) (event : Event) (result : Result StepReport NodeFault) :
    Type 0 where
  pub step : IfOk result (Steps disks old new event)
  pub stuck : IfErr result (Stuck disks old new event)
  pub answers : Answers old event (answered result)
  pub counts : CountsOf disks old.disk new.disk (answered result)
  pub area : AreaGoesOn disks old new event (answered result)
  -- over any disk, honest or not
  pub mounting : is_down old.state.phase ≡ true → event ≡ Recover → Remounted old new (answered result) new.mounted
  pub mounted : is_down old.state.phase ≡ true → event ≡ Recover
      → IfOk result (λ came. IsMountedBy old.doubt came.event_outcome new.mounted)
      × ReadsDisk disks old.disk new.disk (answered result) new.mounted
  pub few : IfOk result (λ came. length came.sent.items ≤ most_by old.nodes old.kept)
