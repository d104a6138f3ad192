-- The book of groups: which members each group has, for all nodes and all time. It is a list of tasks, of which the
-- first for a group counts; nobody stores it, and no code computes it.
use Rattle.std.specs.Prelude.{ℕ, ◌≡◌, ◌⊎◌, true, List, [], ◌∷◌, if◌then◌else◌, Option, Some, None, IsSomeAnd}
use Rattle.group_task.specs.Group.{Group, same_group}
use Rattle.group_task.specs.Assignment.{Assignment}
use Rattle.group_task.specs.Ids.{has}
use Rattle.node_core.specs.declared.phase.Phase.{Phase}
use Rattle.node_core.specs.declared.phase.Phase.TheVariants.{Reorganization, Normal}
use Rattle.node_core.specs.State.{State}
use Rattle.histories.specs.HistoryEvent.{Entry}
use Rattle.histories.specs.Bundle.{Bundle}
use Rattle.histories.specs.Rising.{EachRises}
use Rattle.histories.specs.Moments.{IsMoment}

-- the members that the book has for a group
abbrev pub members_in : List Assignment → Group → Option (List ℕ)
members_in [] group = None
members_in (t ∷ ts) group = if same_group t.group group then Some t.members else members_in ts group

-- the task is that of the group, with the members that the book has, and the node among them
abbrev pub IsTaskOf : List Assignment → ℕ → Group → Option Assignment → Type 0
IsTaskOf book node group task =
    IsSomeAnd task (λ t. (t.group ≡ group) × (members_in book group ≡ Some t.members) × (has t.members node ≡ true))

-- in a group, on its way into it or working in it
abbrev pub IsInGroup : Phase → Type 0
IsInGroup phase = (phase ≡ Reorganization) ⊎ (phase ≡ Normal)

-- the book agrees with the state of a node: in a group, its creator is the coordinator, and a node that works has the task that the
-- book has
abbrev pub AgreesAt : List Assignment → ℕ → State → Type 0
AgreesAt book node v = (IsInGroup v.phase → v.coordinator ≡ v.group.creator) × (v.phase ≡ Normal → IsTaskOf book node v.group v.task)

-- the book agrees with all moments, the openings among them
abbrev pub Agrees : List Assignment → List (List Entry) → Type 0
Agrees book histories = (n : ℕ) (v : State) → IsMoment histories n v → AgreesAt book n v

-- in every bundle in which each node is rising, one book agrees with the openings and all moments
abbrev pub OneBook : Type 0
OneBook = (histories : List (List Entry)) → Bundle histories → EachRises histories → (book : List Assignment) × Agrees book histories

-- any two moments in one group have one coordinator
abbrev pub OneCoordinator : Type 0
OneCoordinator = (histories : List (List Entry)) → Bundle histories → EachRises histories →
    (n m : ℕ) (v w : State) → IsMoment histories n v → IsMoment histories m w →
    IsInGroup v.phase → IsInGroup w.phase → v.group ≡ w.group → v.coordinator ≡ w.coordinator

-- any two moments in Normal in one group have one task
abbrev pub OneTask : Type 0
OneTask = (histories : List (List Entry)) → Bundle histories → EachRises histories →
    (n m : ℕ) (v w : State) → IsMoment histories n v → IsMoment histories m w →
    v.phase ≡ Normal → w.phase ≡ Normal → v.group ≡ w.group → v.task ≡ w.task
