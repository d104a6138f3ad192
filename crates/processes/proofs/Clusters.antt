-- The processes of a cluster are nodes over files.
use Rattle.std.proofs.Common.{◌≡◌, ℕ, zero, suc, ◌+◌, List, [], ◌∷◌, length, slice_get, refl, sym, ◌∙◌, ap, subst, arith, Some}
use Rattle.wire_msg.specs.Envelope.{Envelope}
use Rattle.histories.specs.Lists.{IsAmong}
use Rattle.histories.specs.History.{Follows}
use Rattle.node_session.specs.Serving.{OneHistory}
use Rattle.processes.specs.Files.{FileHistory, IsFormatted, WasSent, at_first, taken_in}
use Rattle.processes.specs.Processes.{NodeProcesses, AreProcessesOf, WasPrinted, entries_of, histories_from, histories_of}
use Rattle.processes.specs.Printed.{AreACluster}
use Rattle.processes.proofs.Following.{all_follow, handed_sent, taken_delivered}

-- what came of a node
abbrev pub history_of : ℕ → ℕ → NodeProcesses → FileHistory
history_of n nodes node = record { file = node.file; entries = entries_of n nodes (at_first n node.file) node.processes }

pub history_at : (n nodes : ℕ) (xs : List NodeProcesses) (k m : ℕ) (node : NodeProcesses) → slice_get xs k ≡ Some node → m ≡ n + k
    → slice_get (histories_from n nodes xs) k ≡ Some (history_of m nodes node)
history_at n nodes [] k m node at is = absurd cc
history_at n nodes (x ∷ xs) zero m node at is =
    let same : x ≡ node = cc at in
    let number : n ≡ m = omega (arith, is) in
    ap (λ (j : ℕ). Some (history_of j nodes x)) number ∙ ap (λ (y : NodeProcesses). Some (history_of m nodes y)) same
history_at n nodes (x ∷ xs) (suc k) m node at is = history_at (suc n) nodes xs k m node at (omega (arith, is))

record ProcessesAt (nodes : ℕ) (xs : List NodeProcesses) (k m : ℕ) (x : FileHistory) : Type 0 where
  node : NodeProcesses
  at : slice_get xs k ≡ Some node
  is : history_of m nodes node ≡ x

processes_at : (n nodes : ℕ) (xs : List NodeProcesses) (k m : ℕ) (x : FileHistory) → slice_get (histories_from n nodes xs) k ≡ Some x
    → m ≡ n + k → ProcessesAt nodes xs k m x
processes_at n nodes [] k m x at is = absurd cc
processes_at n nodes (y ∷ xs) zero m x at is =
    let number : n ≡ m = omega (arith, is) in
    subst (λ (j : ℕ). ProcessesAt nodes (y ∷ xs) 0 j x) number (record { node = y; at = refl; is = cc at })
processes_at n nodes (y ∷ xs) (suc k) m x at is = (let it = processes_at (suc n) nodes xs k m x at (omega (arith, is)) in
    record { node = it.node; at = it.at; is = it.is })

pub as_many : (n nodes : ℕ) (xs : List NodeProcesses) → length (histories_from n nodes xs) ≡ length xs
as_many n nodes [] = refl
as_many n nodes (x ∷ xs) = ap suc (as_many (suc n) nodes xs)

printed_sent : (cluster : List NodeProcesses) → AreProcessesOf cluster → (m : Envelope) → WasPrinted cluster m
    → WasSent (histories_of cluster) m
printed_sent cluster are m printed = (
  printed.0,
  history_of printed.0 (length cluster) printed.1,
  history_at 0 (length cluster) cluster printed.0 printed.0 printed.1 printed.2 (omega arith),
  handed_sent printed.0 (length cluster) printed.1.slots m (at_first printed.0 printed.1.file) printed.1.processes
      (are.processes printed.0 printed.1 printed.2) printed.3,
)

pub are_a_cluster : OneHistory → AreACluster
are_a_cluster one cluster are = record {
  files = λ n x at. (let it = found n x at in subst (λ (y : FileHistory). IsFormatted y.file) it.is (are.files n it.node it.at));
  follows = λ n x at. (let it = found n x at in
      let follows = all_follow one n (length cluster) it.node.slots (at_first n it.node.file) it.node.processes
      (are.processes n it.node it.at) in
      subst (λ (y : FileHistory). Follows n (length (histories_of cluster)) (at_first n y.file) y.entries) it.is
      (subst (λ (k : ℕ). Follows n k (at_first n it.node.file) (entries_of n (length cluster) (at_first n it.node.file) it.node.processes))
      (sym (as_many 0 (length cluster) cluster)) follows));
  delivers = λ n x at m i. (let it = found n x at in
      let here : IsAmong m (taken_in (entries_of n (length cluster) (at_first n it.node.file) it.node.processes)) =
      subst (λ (y : FileHistory). IsAmong m (taken_in y.entries)) (sym it.is) i in
      printed_sent cluster are m
      (are.delivers n it.node it.at m (taken_delivered n (length cluster) it.node.slots m (at_first n it.node.file) it.node.processes
      (are.processes n it.node it.at) here)));
}
  where
    found : (n : ℕ) (x : FileHistory) → slice_get (histories_of cluster) n ≡ Some x → ProcessesAt (length cluster) cluster n n x
    found n x at = processes_at 0 (length cluster) cluster n n x at (omega arith)
