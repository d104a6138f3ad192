-- The premises can be met: two nodes, of which the first has two processes.
use Rattle.std.specs.Prelude.{◌≡◌, [], ◌∷◌, length}
use Rattle.wire_msg.specs.Envelope.{Envelope}
use Rattle.histories.specs.Lists.{IsAmong}
use Rattle.durable_node.specs.declared.group_view.GroupView.{GroupView}
use Rattle.processes.specs.Files.{at_first}
use Rattle.processes.specs.Processes.{NodeProcesses, AreProcessesOf, IsToldBy, delivered_to}

pub record ProcessesHappen : Type 0 where
  pub one : NodeProcesses
  pub other : NodeProcesses
  pub are : AreProcessesOf (one ∷ other ∷ [])
  pub again : length one.processes ≡ 2
  -- a message of each is delivered to the other
  pub asked : (m : Envelope) × (m.sender ≡ 0) × IsAmong m (delivered_to 1 2 (at_first 1 other.file) other.processes)
  pub answered : (m : Envelope) × (m.sender ≡ 1) × IsAmong m (delivered_to 0 2 (at_first 0 one.file) one.processes)
  -- and each tells its group
  pub told : (view : GroupView) × IsToldBy (one ∷ other ∷ []) 0 view
  pub told_too : (view : GroupView) × IsToldBy (one ∷ other ∷ []) 1 view
