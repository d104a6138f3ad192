-- What holds of what the processes of a cluster print.
use Rattle.std.specs.Prelude.{ℕ, ◌≡◌, List}
use Rattle.node_core.specs.declared.phase.Phase.TheVariants.{Normal}
use Rattle.histories.specs.Book.{IsInGroup}
use Rattle.durable_node.specs.declared.group_view.GroupView.{GroupView}
use Rattle.node_session.specs.Changes.{group_line}
use Rattle.processes.specs.Files.{AreOverFiles}
use Rattle.processes.specs.Processes.{NodeProcesses, AreProcessesOf, IsToldBy, histories_of}

-- the processes of a cluster are nodes over files, so what holds of these holds of them
abbrev pub AreACluster : Type 0
AreACluster = (cluster : List NodeProcesses) → AreProcessesOf cluster → AreOverFiles (histories_of cluster)

-- the coordinator in a `group` line is the node that the number names
abbrev pub NumberNamesLeader : Type 0
NumberNamesLeader = (cluster : List NodeProcesses) → AreProcessesOf cluster →
    (n : ℕ) (view : GroupView) → IsToldBy cluster n view → IsInGroup view.phase → view.coordinator ≡ view.group.creator

-- two `group` lines of one number name one coordinator
abbrev pub OneCoordinatorEach : Type 0
OneCoordinatorEach = (cluster : List NodeProcesses) → AreProcessesOf cluster →
    (n m : ℕ) (one other : GroupView) → IsToldBy cluster n one → IsToldBy cluster m other → IsInGroup one.phase → IsInGroup other.phase
    → one.group ≡ other.group → one.coordinator ≡ other.coordinator

-- and where both nodes work, they tell the same, by the same line: the same members, and so the same owner of each queue
abbrev pub OneLineEach : Type 0
OneLineEach = (cluster : List NodeProcesses) → AreProcessesOf cluster →
    (n m : ℕ) (one other : GroupView) → IsToldBy cluster n one → IsToldBy cluster m other → one.phase ≡ Normal → other.phase ≡ Normal
    → one.group ≡ other.group → (one ≡ other) × (group_line one ≡ group_line other)

-- a node that leads a group is the one node that does
abbrev pub OneLeaderEach : Type 0
OneLeaderEach = (cluster : List NodeProcesses) → AreProcessesOf cluster →
    (n m : ℕ) (one other : GroupView) → IsToldBy cluster n one → IsToldBy cluster m other → IsInGroup one.phase → IsInGroup other.phase →
    one.coordinator ≡ n → other.coordinator ≡ m → one.group ≡ other.group → n ≡ m
