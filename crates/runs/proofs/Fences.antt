-- Group numbers as fences: one leader, one owner of each queue, one list of members.
use Rattle.std.proofs.Common.{◌≡◌, ◌⊎◌, ℕ, true, List, sym, ◌∙◌, ap, subst, inl, inr, Option, Some}
use Rattle.group_task.specs.Group.{Group}
use Rattle.group_task.specs.Assignment.{Assignment, owner_of}
use Rattle.group_task.specs.Ids.{has}
use Rattle.node_core.specs.declared.phase.Phase.TheVariants.{Reorganization, Normal}
use Rattle.node_core.specs.State.{State}
use Rattle.node_core.specs.Words.{members_of, task_of}
use Rattle.histories.specs.Book.{IsInGroup}
use Rattle.runs.specs.Reporting.{Report}
use Rattle.runs.specs.Headline.{Headline, IsWorking}
use Rattle.runs.specs.Uses.{OneCoordinator, OneTask, LeaderIsCreator, OneLeader, OneOwnerEach, MembersAgree, OneWorkerEach}
use Rattle.runs.proofs.Elements.{contains}

in_group : (s : State) → ((s.phase ≡ Normal) ⊎ (s.phase ≡ Reorganization)) → IsInGroup s.phase
in_group s either = elim either [ inl e ↦ inr e | inr e ↦ inl e ]

pub leader_is_creator : LeaderIsCreator
leader_is_creator nodes after r h n s by = sym (h.coordinator n s by.0 (in_group s by.1.0)) ∙ by.1.1

pub one_coordinator : OneCoordinator
one_coordinator nodes after r h n m s t a b in_s in_t same = h.coordinator n s a in_s
    ∙ (ap (λ (g : Group). g.creator) same ∙ sym (h.coordinator m t b in_t))

pub one_task : OneTask
one_task nodes after r h n m s t a b same = (h.task n s a).0
    ∙ (ap (λ (g : Group). Some (task_of g (h.members g))) same ∙ sym (h.task m t b).0)

pub one_leader : OneLeader
one_leader nodes after r h n m s t by_s by_t same =
    sym by_s.1.1
    ∙ (one_coordinator nodes after r h n m s t by_s.0 by_t.0 (in_group s by_s.1.0) (in_group t by_t.1.0) same ∙ by_t.1.1)

pub one_owner_each : OneOwnerEach
one_owner_each nodes after r h n m s t by_s by_t same queue =
    ap (λ (task : Option Assignment). owner_of (members_of task) queue) (one_task nodes after r h n m s t by_s by_t same)

-- a node that works has the members of the book, and is one of them
shown_by : (nodes : ℕ) (after : ℕ → Report) (r : Report) (h : Headline nodes after r) (n : ℕ) (s : State) → IsWorking r n s
    → (members_of s.task ≡ h.members s.group) × (has (members_of s.task) n ≡ true)
shown_by nodes after r h n s by =
    let task = h.task n s by in
    let same : members_of s.task ≡ h.members s.group = ap members_of task.0 in
    (same, subst (λ (ms : List ℕ). has ms n ≡ true) (sym same) task.1)

pub members_agree : MembersAgree
members_agree nodes after r h n m s t by_s by_t same =
    let of_s = shown_by nodes after r h n s by_s in
    let of_t = shown_by nodes after r h m t by_t in
    let equal : members_of s.task ≡ members_of t.task = of_s.0 ∙ (ap h.members same ∙ sym of_t.0) in
    (equal, of_s.1, rw equal of_t.1)

pub one_worker_each : OneWorkerEach
one_worker_each nodes after r h n m s t by_s by_t same a b in_s in_t queue =
    h.one_worker n m s t by_s by_t same a b (contains a s.hand in_s) (contains b t.hand in_t) queue
