-- A cluster of which one node took a step, or the network alone, or nothing.
use Rattle.std.proofs.Common.{◌≡◌, ◌≢◌, ℕ, ◌<◌, ◌≤◌, Bool, true, false, List, length, slice_get, nat_lt, refl, sym, ◌∙◌, ap, subst, subst₂}
use Rattle.std.proofs.Common.{arith, inl, inr, Some, Result, Ok, Err, ◌==◌, slice_set, IfOk, OnErr, Option}
use Rattle.std.proofs.lemmas.List.{length-set}
use Rattle.std.proofs.lemmas.Option.{slice_get_within}
use Rattle.sector_disk.specs.Memory.{Memory, state_of}
use Rattle.sim_net.specs.Network.{Network, after_all_sent}
use Rattle.durable_node.specs.Node.{Node, Stands}
use Rattle.histories.specs.NodeState.{NodeState}
use Rattle.histories.specs.declared.history_event.HistoryEvent.{HistoryEvent}
use Rattle.histories.specs.HistoryEvent.{event_of, brought, AreAddressed}
use Rattle.histories.specs.After.{after, sent_at, mounted_at}
use Rattle.durable_node.proofs.PublicLaws.{is_some}
use Rattle.runs.specs.declared.outcome.Outcome.TheVariants as outcome
use Rattle.runs.specs.declared.outcome.ActRefusal.TheVariants as refusal
use Rattle.runs.specs.World.{World, node_in}
use Rattle.runs.specs.declared.outcome.Outcome.{Outcome}
use Rattle.runs.specs.Step.{Takes, Denies}
use Rattle.runs.specs.Run.{IsBrought}
use Rattle.runs.specs.Acts.{At, what_outcome}
use Rattle.schedule.specs.declared.act.Act.{Act}
use Rattle.cluster_sim.specs.World.{WorldView, IsMember, IsWorld, IsUntouched, IsUntouchedNode, StandsFor, IsSame, Comes, ActionOf, Makes}
use Rattle.cluster_sim.specs.World.{bare, IsCounted, FaultsAt}
use Rattle.cluster_sim.specs.declared.act_report.ActReport.{ActReport}
use Rattle.runs.proofs.PublicLaws.{at_place, get_set_same, get_set_other, node_there}
use Rattle.histories.proofs.PublicLaws.{eq_nat}
use Rattle.cluster_sim.proofs.Doings.{denied}
use Rattle.std.proofs.lemmas.Bool.Decides.{nat_tests}
use Rattle.cluster_sim.specs.Names.{node_or_first}

-- ---- one place is written

-- what holds at the new place, and at the others, holds at all
pub at_each : {A : Type 0} (P : ℕ → A → Type 0) (xs : List A) (n : ℕ) (old new : A) → slice_get xs n ≡ Some old → P n new
    → ((k : ℕ) (x : A) → k ≢ n → slice_get xs k ≡ Some x → P k x)
    → (k : ℕ) (x : A) → slice_get (slice_set xs n new) k ≡ Some x → P k x
at_each {A} P xs n old new was here all k x at = by_place (k == n) refl
  where
    by_place : (b : Bool) → (k == n) ≡ b → P k x
    by_place true is =
        let same : k ≡ n = eq_nat k n is in
        let here_now : Some new ≡ Some x = sym (get_set_same xs n old new was) ∙ ap (λ (j : ℕ). slice_get (slice_set xs n new) j) (sym same)
        ∙ at in
        subst (λ (j : ℕ). P j x) (sym same) (subst (λ (y : A). P n y) (is_some new x here_now) here)
    by_place false is =
        let ne : k ≢ n = grind (arith, nat_tests) in
        all k x ne (sym (get_set_other xs k n new ne) ∙ at)

pub still_cluster : (slots n : ℕ) (nodes : List (Node Memory)) (old new : Node Memory) → IsWorld slots nodes → slice_get nodes n ≡ Some old
    → IsSame old new → IsWorld slots (slice_set nodes n new)
still_cluster slots n nodes old new cluster at same = record {
  least_slots = cluster.least_slots;
  most_slots = cluster.most_slots;
  least = rw (length-set nodes n new) cluster.least;
  most = rw (length-set nodes n new) cluster.most;
  members = rw (length-set nodes n new)
      (at_each (λ (k : ℕ) (x : Node Memory). IsMember slots (length nodes) k x) nodes n old new at
      (let is = cluster.members n old at in record {
        id_is = same.id ∙ is.id_is;
        nodes_is = same.nodes ∙ is.nodes_is;
        size = same.size slots is.size;
      }) (λ k x _. cluster.members k x));
}

-- ---- what the cluster stands for

-- node n goes to a new state, and the network too
pub moves : (slots n : ℕ) (nodes : List (Node Memory)) (old new : Node Memory) (net net' net'' : Network) (w : World) (s s' : NodeState)
    → slice_get nodes n ≡ Some old
    → StandsFor (record { slots = slots; nodes = nodes; net = net }) w → slice_get w.states n ≡ Some s → Stands state_of new s'
    → net' ≡ net''
    → StandsFor (record { slots = slots; nodes = slice_set nodes n new; net = net' })
    (record { states = slice_set w.states n s'; net = net'' })
moves slots n nodes old new net net' net'' w s s' at stands was is same_net = record {
  count = length-set nodes n new ∙ stands.count ∙ sym (length-set w.states n s');
  net = same_net;
  each = λ k node t at_k was_k. at_each (λ (j : ℕ) (x : Node Memory). (t : NodeState) → slice_get (slice_set w.states n s') j ≡ Some t
      → Stands state_of x t) nodes n old new at
      (λ t' was_n. subst (λ (z : NodeState). Stands state_of new z) (is_some s' t' (sym (get_set_same w.states n s s' was) ∙ was_n)) is)
      (λ j x ne at_j. (λ t' was_j. stands.each j x t' at_j (sym (get_set_other w.states j n s' ne) ∙ was_j))) k node at_k t was_k;
}

-- ---- a node takes a step

pub true_within : (n count : ℕ) → n < count → nat_lt n count ≡ true
true_within n count within = grind (arith, nat_tests)

pub takes : {E : Type 0} (slots n number : ℕ) (a : Act) (P : NodeState → HistoryEvent → Type 0) (nodes : List (Node Memory))
    (old new : Node Memory) (net net' : Network) (result : Result ActReport E) (w : World) → IsWorld slots nodes
    → slice_get nodes n ≡ Some old → StandsFor (record { slots = slots; nodes = nodes; net = net }) w
    → ((s : NodeState) (what : HistoryEvent) → P s what → IsBrought w number (brought (event_of what))
    × AreAddressed n (brought (event_of what)))
    → ((s : NodeState) → Stands state_of old s → IfOk result (λ (d : ActReport). Comes slots old.id old.nodes a (P s) s d new net net'))
    → IfOk result (λ (d : ActReport). Makes a (λ step. At (nat_lt n (length w.states)) n number (P (node_in w.states n)) step) w d
    (record { slots = slots; nodes = slice_set nodes n new; net = net' }))
takes slots n number a P nodes old new net net' (Ok action) w cluster at stands brings comes =
    let within : n < length w.states = subst (λ (k : ℕ). n < k) stands.count (slice_get_within nodes n old at) in
    let count = length w.states in
    let member = cluster.members n old at in
    let here = at_place w.states n within in
    let was = here.0 in
    let was_at = here.1 in
    let it : node_in w.states n ≡ was = node_there w.states n was was_at in
    let came : Comes slots n count a (P was) was action new net net' =
    subst₂ (λ (k l : ℕ). Comes slots k l a (P was) was action new net net') member.id_is (member.nodes_is ∙ stands.count)
    (comes was (stands.each n old was at was_at)) in
    record {
      step = Takes n number came.what;
      is = subst (λ (b : Bool). At b n number (P (node_in w.states n)) (Takes n number came.what)) (sym (true_within n count within))
          (came.what, refl, subst (λ (x : NodeState). P x came.what) (sym it) came.is);
      allowed = (was, was_at, came.possible, (brings was came.what came.is).0, (brings was came.what came.is).1);
      of_slots = rw it came.of_slots;
      outcome_is = came.outcome_is ∙ (λ i. what_outcome n count (length (stands.net i).sent) (sym it i) came.what a);
      shows = λ node s at_n was_n. ap (λ (x : Node Memory). x.mounted)
          (sym (is_some new node (sym (get_set_same nodes n old new at) ∙ at_n))) ∙ came.mounted
          ∙ ap (λ (x : NodeState). mounted_at x came.what) (is_some was s (sym was_at ∙ was_n));
      reports = λ s at_s. subst (λ (x : NodeState). ActionOf n count x came.what action) (is_some was s (sym was_at ∙ at_s)) came.reports;
      stands = rw it (moves slots n nodes old new net net' _ w was (after n count was came.what) at stands was_at came.stands
          (came.sent ∙ ap (λ (before : Network). after_all_sent before (sent_at n count was came.what)) stands.net));
    }
takes slots n number a P nodes old new net net' (Err e) w cluster at stands brings comes = tt

-- ---- a node that gave nothing, and a node outside the cluster

untouched_stands : (old new : Node Memory) (s : NodeState) → IsUntouchedNode old new → Stands state_of old s → Stands state_of new s
untouched_stands old new s (inl same) is = subst (λ (x : Node Memory). Stands state_of x s) (sym same) is
untouched_stands old new s (inr same) is = subst (λ (x : Node Memory). Stands state_of x s) (sym same)
    (record { state = is.state; doubt = is.doubt; up = is.up; disk = is.disk })

pub rests_if : {E : Type 0} (slots n : ℕ) (nodes : List (Node Memory)) (old new : Node Memory) (net net' : Network)
    (result : Result ActReport E) (w : World) → slice_get nodes n ≡ Some old
    → StandsFor (record { slots = slots; nodes = nodes; net = net }) w
    → OnErr result ((s : NodeState) → Stands state_of old s → IsUntouchedNode old new) → OnErr result (net' ≡ net)
    → OnErr result (StandsFor (record { slots = slots; nodes = slice_set nodes n new; net = net' }) w)
rests_if slots n nodes old new net net' (Ok o) w at stands keeps same = tt
rests_if slots n nodes old new net net' (Err e) w at stands keeps same_net = record {
  count = length-set nodes n new ∙ stands.count;
  net = same_net ∙ stands.net;
  each = λ k node t at_k was_k. at_each (λ (j : ℕ) (x : Node Memory). (t : NodeState) → slice_get w.states j ≡ Some t
      → Stands state_of x t) nodes n old new at
      (λ t' was_n. (let is = stands.each n old t' at was_n in untouched_stands old new t' (keeps t' is) is))
      (λ j x ne at_j t' was_j. stands.each j x t' at_j was_j) k node at_k t was_k;
}

-- one node is as it was, and the others too
pub untouched_if : {E : Type 0} (slots n : ℕ) (nodes : List (Node Memory)) (old new : Node Memory) (net net' : Network)
    (result : Result ActReport E) (w : World) (now : WorldView) → record { slots = slots; nodes = nodes; net = net } ≡ now
    → slice_get nodes n ≡ Some old → StandsFor (record { slots = slots; nodes = nodes; net = net }) w
    → OnErr result ((s : NodeState) → Stands state_of old s → IsUntouchedNode old new) → OnErr result (net' ≡ net)
    → OnErr result (IsUntouched (node_or_first (length now.nodes) n) now
    (record { slots = slots; nodes = slice_set nodes n new; net = net' }))
untouched_if slots n nodes old new net net' (Ok o) w now viewed at stands keeps same = tt
untouched_if slots n nodes old new net net' (Err e) w now viewed at stands keeps same_net =
    let s = at_place w.states n (subst (λ (k : ℕ). n < k) stands.count (slice_get_within nodes n old at)) in
    let known : node_or_first (length nodes) n ≡ n = rw (true_within n (length nodes) (slice_get_within nodes n old at)) refl in
    rw (← viewed, known) (record {
      count = length-set nodes n new;
      net = same_net;
      here = λ was now on_was on_now. subst (λ (x : Node Memory). IsUntouchedNode was x)
          (is_some new now (sym (get_set_same nodes n old new at) ∙ on_now))
          (subst (λ (x : Node Memory). IsUntouchedNode x new) (is_some old was (sym at ∙ on_was))
          (keeps s.0 (stands.each n old s.0 at s.1)));
      elsewhere = λ k other. get_set_other nodes k n new other;
    })

-- a node outside the cluster
pub denied_at : (w : World) (id number : ℕ) (a : Act) (P : HistoryEvent → Type 0) (view : WorldView) → StandsFor view w
    → length view.nodes ≤ id
    → Makes a (λ step. At (nat_lt id (length w.states)) id number P step) w (bare (outcome.Refused refusal.Stranger)) view
denied_at w id number a P view stands beyond =
    let many = stands.count in
    let stranger : nat_lt id (length w.states) ≡ false = grind (arith, nat_tests) in
    denied w a 0 refusal.Stranger _ view stands (subst (λ (b : Bool). At b id number P (Denies 0 refusal.Stranger)) (sym stranger) refl)

-- ---- the failures of its disk

pub faults_if : {E : Type 0} (arms : Outcome → Option ℕ → Option ℕ) (slots n : ℕ) (nodes : List (Node Memory)) (old new : Node Memory)
    (net net' : Network) (result : Result ActReport E) (now : WorldView) → record { slots = slots; nodes = nodes; net = net } ≡ now
    → slice_get nodes n ≡ Some old → IfOk result (λ (d : ActReport). IsCounted arms old.disk new.disk d.outcome)
    → IfOk result (λ (d : ActReport). FaultsAt arms (node_or_first (length now.nodes) n) now
    (record { slots = slots; nodes = slice_set nodes n new; net = net' }) d.outcome)
faults_if arms slots n nodes old new net net' (Ok d) now viewed at counted =
    let known : node_or_first (length nodes) n ≡ n = rw (true_within n (length nodes) (slice_get_within nodes n old at)) refl in
    rw (← viewed, known) (record {
      here = rw (at, get_set_same nodes n old new at) counted;
      elsewhere = λ k other. get_set_other nodes k n new other;
    })
faults_if arms slots n nodes old new net net' (Err e) now viewed at counted = tt
