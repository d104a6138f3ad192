-- A cluster that opens, node by node, and its report.
use Rattle.std.proofs.Common.{◌≡◌, ℕ, suc, ◌+◌, ◌<◌, List, [], ◌∷◌, ◌++◌, replicate, slice_get, sym, ◌∙◌, ap, subst, arith, Some}
use Rattle.std.proofs.lemmas.List.{length-append, length-replicate}
use Rattle.std.proofs.Math.Nat.{zero-add}
use Rattle.sector_disk.specs.Memory.{Memory, state_of}
use Rattle.durable_node.specs.Node.{Node, Stands}
use Rattle.histories.specs.NodeState.{NodeState, opening}
use Rattle.runs.specs.World.{start}
use Rattle.cluster_sim.specs.World.{AreaWithin, IsUnarmed, WorldView, StandsFor, IsOfSize, IsMember, AreOpened}
use Rattle.runs.specs.Reporting.{first_report, report_of}
use Rattle.cluster_sim.specs.Cluster.{ClusterView, with_opening, AreCounted, Reports}
use Rattle.runs.proofs.PublicLaws.{all_more, counts_opened, length_openings, opened, opened_more as report_more, runs_open, starts_opened}
use Rattle.sim_net.specs.Network.{Network, silent}

-- ---- the nodes

pub nodes_more : (slots count so_far : ℕ) (nodes : List (Node Memory)) (node : Node Memory) → AreOpened slots count so_far nodes
    → node.id ≡ so_far → node.nodes ≡ count → IsOfSize slots node.disk → Stands state_of node (opening so_far) → AreaWithin 2 node.disk
    → IsUnarmed node.disk
    → AreOpened slots count (so_far + 1) (nodes ++ node ∷ [])
nodes_more slots count so_far nodes node so id_is nodes_is size opens number unarmed = record {
  len = length-append nodes (node ∷ []) ∙ ap (λ (n : ℕ). n + 1) so.len;
  member = all_more (λ (k : ℕ) (x : Node Memory). IsMember slots count k x) nodes node so.member
      (subst (λ (k : ℕ). IsMember slots count k node) (sym so.len) (record { id_is = id_is; nodes_is = nodes_is; size = size }));
  opens = all_more (λ (k : ℕ) (x : Node Memory). Stands state_of x (opening k)) nodes node so.opens
      (subst (λ (k : ℕ). Stands state_of node (opening k)) (sym so.len) opens);
  areas = all_more (λ (k : ℕ) (x : Node Memory). AreaWithin 2 x.disk) nodes node so.areas number;
  unarmed = all_more (λ (k : ℕ) (x : Node Memory). IsUnarmed x.disk) nodes node so.unarmed unarmed;
}

pub starts : (slots count : ℕ) (nodes : List (Node Memory)) (net : Network) → AreOpened slots count count nodes → net ≡ silent
    → StandsFor (record { slots = slots; nodes = nodes; net = net }) (start count)
starts slots count nodes net so is = record {
  count = so.len ∙ sym (length_openings 0 count);
  net = is;
  each = λ k node s at was. subst (λ (t : NodeState). Stands state_of node t) (sym (opened count 0 k s k (sym (zero-add k)) was))
      (so.opens k node at);
}

-- ---- their report

pub opened_more : (k : ℕ) → with_opening k (opening k).state (first_report k) ≡ first_report (k + 1)
opened_more k = report_more k ∙ ap first_report (let e : suc k ≡ k + 1 = omega arith in e)

-- the vector of a node that opened
pub opened_state : (view : WorldView) (nodes k : ℕ) (node : Node Memory) → StandsFor view (start nodes) → k < nodes
    → slice_get view.nodes k ≡ Some node → node.state ≡ (opening k).state
opened_state view nodes k node stands within at = (stands.each k node (opening k) at (starts_opened nodes k within)).state

pub opened_counts : (nodes : ℕ) → AreCounted nodes (report_of nodes [] []).commands (replicate nodes 1)
opened_counts nodes = record { as_many = length-replicate nodes 1; each = counts_opened nodes }

pub opened_reports : (c : ClusterView) (nodes : ℕ) → StandsFor c.world (start nodes) → c.report ≡ report_of nodes [] []
    → Reports c (start nodes)
opened_reports c nodes stands reported = record {
  stands = stands;
  left = rw (stands.count ∙ length_openings 0 nodes, reported) (runs_open nodes c.world.slots);
}
