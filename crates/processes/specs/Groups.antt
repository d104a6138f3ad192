-- What holds of the groups of a cluster over files.
use Rattle.std.specs.Prelude.{ℕ, ◌<◌, ◌≡◌, List, slice_get, Some}
use Rattle.group_task.specs.Group.{Group}
use Rattle.node_core.specs.declared.phase.Phase.TheVariants.{Normal}
use Rattle.node_core.specs.declared.in_hand.InHand.{InHand}
use Rattle.node_core.specs.State.{State}
use Rattle.histories.specs.Book.{IsInGroup}
use Rattle.histories.specs.Lists.{IsAmong}
use Rattle.processes.specs.Files.{FileHistory, AreOverFiles, IsGivenAt, IsMomentOf}

-- no number is given twice, and each is above the count that its file was formatted with
abbrev pub NumbersAreNew : Type 0
NumbersAreNew = (cluster : List FileHistory) → AreOverFiles cluster →
    (n m i j : ℕ) (group : Group) → IsGivenAt cluster n i group → IsGivenAt cluster m j group → (n ≡ m) × (i ≡ j)

abbrev pub NumbersAreAbove : Type 0
NumbersAreAbove = (cluster : List FileHistory) → AreOverFiles cluster →
    (n i : ℕ) (group : Group) (node : FileHistory) → slice_get cluster n ≡ Some node → IsGivenAt cluster n i group
    → (group.creator ≡ n) × (node.file.counter < group.count)

-- who is in a group, on the way into it or working, has its creator as coordinator
abbrev pub CreatorLeads : Type 0
CreatorLeads = (cluster : List FileHistory) → AreOverFiles cluster →
    (n : ℕ) (v : State) → IsMomentOf cluster n v → IsInGroup v.phase → v.coordinator ≡ v.group.creator

-- any two moments that work in one group have one task
abbrev pub OneTaskEach : Type 0
OneTaskEach = (cluster : List FileHistory) → AreOverFiles cluster →
    (n m : ℕ) (v w : State) → IsMomentOf cluster n v → IsMomentOf cluster m w → v.phase ≡ Normal → w.phase ≡ Normal → v.group ≡ w.group
    → v.task ≡ w.task

-- two moments that work in one group with jobs of one queue in hand are of one node
abbrev pub OneWorkerEach : Type 0
OneWorkerEach = (cluster : List FileHistory) → AreOverFiles cluster →
    (n m : ℕ) (v w : State) → IsMomentOf cluster n v → IsMomentOf cluster m w → v.phase ≡ Normal → w.phase ≡ Normal → v.group ≡ w.group →
    (a b : InHand) → IsAmong a v.hand → IsAmong b w.hand → a.work.queue ≡ b.work.queue → n ≡ m
