-- What holds of the groups of a cluster over files.
use Rattle.std.proofs.Common.{◌≡◌, ℕ, zero, suc, ◌<◌, false, List, [], ◌∷◌, length, map, slice_get, refl, sym, ◌∙◌, ap, subst, inl, inr}
use Rattle.std.proofs.Common.{arith, Some}
use Rattle.group_task.specs.Group.{Group}
use Rattle.node_core.specs.declared.phase.Phase.{Phase}
use Rattle.node_core.specs.State.{is_down}
use Rattle.node_core.specs.Words.{own_group}
use Rattle.histories.specs.Book.{IsInGroup}
use Rattle.histories.specs.History.{counts_given}
use Rattle.histories.specs.Rising.{Rises}
use Rattle.histories.proofs.PublicLaws.{counts_rise, each_bundle_rises, one_book, one_task, one_worker}
use Rattle.processes.specs.Files.{FileHistory, at_first}
use Rattle.processes.specs.Groups.{NumbersAreNew, NumbersAreAbove, CreatorLeads, OneTaskEach, OneWorkerEach}
use Rattle.processes.proofs.Bundles.{covering}

-- ---- numbers

-- each count is above the last, and those behind it are above it
count_above : (last : ℕ) (ks : List ℕ) (i k : ℕ) → Rises last ks → slice_get ks i ≡ Some k → last < k
count_above last [] i k rises at = absurd cc
count_above last (x ∷ ks) zero k rises at = (let same : x ≡ k = cc at in subst (λ (y : ℕ). last < y) same rises.0)
count_above last (x ∷ ks) (suc i) k rises at = omega (arith, rises.0, count_above x ks i k rises.1 at)

count_once : (last : ℕ) (ks : List ℕ) (i j k : ℕ) → Rises last ks → slice_get ks i ≡ Some k → slice_get ks j ≡ Some k → i ≡ j
count_once last [] i j k rises at_i at_j = absurd cc
count_once last (x ∷ ks) zero zero k rises at_i at_j = refl
count_once last (x ∷ ks) zero (suc j) k rises at_i at_j =
    (let same : x ≡ k = cc at_i in absurd (omega (arith, same, count_above x ks j k rises.1 at_j)))
count_once last (x ∷ ks) (suc i) zero k rises at_i at_j =
    (let same : x ≡ k = cc at_j in absurd (omega (arith, same, count_above x ks i k rises.1 at_i)))
count_once last (x ∷ ks) (suc i) (suc j) k rises at_i at_j = ap suc (count_once x ks i j k rises.1 at_i at_j)

-- the number at a place is of this count
number_at : (n : ℕ) (ks : List ℕ) (i : ℕ) (g : Group) → slice_get (map (own_group n) ks) i ≡ Some g
    → (g.creator ≡ n) × (slice_get ks i ≡ Some g.count)
number_at n [] i g at = absurd cc
number_at n (k ∷ ks) zero g at = (let same : own_group n k ≡ g = cc at in
    (sym (ap (λ (x : Group). x.creator) same), ap (λ (x : Group). Some x.count) same))
number_at n (k ∷ ks) (suc i) g at = number_at n ks i g at

abbrev counts_of : List FileHistory → ℕ → FileHistory → List ℕ
counts_of cluster n node = counts_given n (length cluster) (at_first n node.file) node.entries

rise_of : (cluster : List FileHistory) (n : ℕ) (node : FileHistory) → Rises node.file.counter (counts_of cluster n node)
rise_of cluster n node = counts_rise n (length cluster) (at_first n node.file) node.entries node.file.counter (omega arith)

pub numbers_are_above : NumbersAreAbove
numbers_are_above cluster over n i g node at given =
    let number = number_at n (counts_of cluster n given.0) i g given.2 in
    let same : given.0 ≡ node = cc (given.1, at) in (
      number.0,
      subst (λ (x : FileHistory). x.file.counter < g.count) same
          (count_above given.0.file.counter (counts_of cluster n given.0) i g.count (rise_of cluster n given.0) number.1),
    )

pub numbers_are_new : NumbersAreNew
numbers_are_new cluster over n m i j g first second =
    let one = number_at n (counts_of cluster n first.0) i g first.2 in
    let two = number_at m (counts_of cluster m second.0) j g second.2 in
    let node : n ≡ m = sym one.0 ∙ two.0 in
    let at : slice_get cluster n ≡ Some second.0 = subst (λ (x : ℕ). slice_get cluster x ≡ Some second.0) (sym node) second.1 in
    let same : second.0 ≡ first.0 = cc (first.1, at) in
    let there : slice_get (counts_of cluster n first.0) j ≡ Some g.count =
    subst (λ (x : FileHistory). slice_get (counts_of cluster n x) j
    ≡ Some g.count) same (subst (λ (x : ℕ). slice_get (counts_of cluster x second.0) j ≡ Some g.count) (sym node) two.1) in
    (node, count_once first.0.file.counter (counts_of cluster n first.0) i j g.count (rise_of cluster n first.0) one.1 there)

-- ---- states

in_group_up : (phase : Phase) → IsInGroup phase → is_down phase ≡ false
in_group_up phase h = elim h [ inl e ↦ ap is_down e | inr e ↦ ap is_down e ]

pub creator_leads : CreatorLeads
creator_leads cluster over n v at in_v =
    let c = covering cluster over in
    ((one_book c.histories c.bundle (each_bundle_rises c.histories c.bundle)).1 n v (c.moments n v at (in_group_up v.phase in_v))).0 in_v

pub one_task_each : OneTaskEach
one_task_each cluster over n m v w at_v at_w in_v in_w same =
    let c = covering cluster over in
    one_task c.histories c.bundle (each_bundle_rises c.histories c.bundle) n m v w (c.moments n v at_v (ap is_down in_v))
    (c.moments m w at_w (ap is_down in_w)) in_v in_w same

pub one_worker_each : OneWorkerEach
one_worker_each cluster over n m v w at_v at_w in_v in_w same a b of_v of_w queue =
    let c = covering cluster over in
    one_worker c.histories c.bundle n m v w (c.moments n v at_v (ap is_down in_v))
    (c.moments m w at_w (ap is_down in_w)) in_v in_w same a b of_v of_w queue
