-- The counts that a node gives in a run are those of its history.
use Rattle.std.proofs.Common.{◌≡◌, ◌≢◌, ℕ, zero, suc, ◌<◌, Bool, true, false, List, [], ◌∷◌, ◌++◌, map, slice_get, refl, sym, ◌∙◌, ap}
use Rattle.std.proofs.Common.{subst, arith, Some}
use Rattle.std.specs.Prelude.{if◌then◌else◌, ◌==◌, cond}
use Rattle.std.proofs.lemmas.Bool.Decides.{nat_tests}
use Rattle.group_task.specs.Group.{Group}
use Rattle.histories.specs.NodeState.{NodeState, opening}
use Rattle.histories.specs.After.{after, given_at, sent_at}
use Rattle.histories.specs.History.{counts_given}
use Rattle.histories.proofs.PublicLaws.{eq_nat}
use Rattle.std.specs.List.{filter, range_with_len}
use Rattle.runs.specs.World.{World, start, node_in}
use Rattle.runs.specs.Step.{Step, Takes, Changes, Denies, world_after}
use Rattle.runs.specs.Run.{history_in}
use Rattle.runs.specs.Given.{groups_from, groups_of}
use Rattle.runs.proofs.Own.{none_mine, append_own, one_each}
use Rattle.runs.proofs.Runs.{node_there, starts_opened, state_here, state_elsewhere}
use Rattle.node_core.specs.Words.{own_group}
use Rattle.histories.specs.Rising.{Rises}

-- the groups that a node gave, and their counts
abbrev of_node : ℕ → List Group → List Group
of_node n gs = filter (λ (g : Group). g.creator == n) gs

abbrev pub own_counts : ℕ → List Group → List ℕ
own_counts n gs = map (λ (g : Group). g.count) (of_node n gs)

counts_append : (n : ℕ) (xs ys : List Group) → own_counts n (xs ++ ys) ≡ own_counts n xs ++ own_counts n ys
counts_append n xs ys = append_own (λ (g : Group). g.creator) (λ (g : Group). g.count) n xs ys

counts_same : (m n : ℕ) (ks : List ℕ) → (m == n) ≡ true → own_counts n (map (own_group m) ks) ≡ ks
counts_same m n [] is = refl
counts_same m n (k ∷ ks) is = rw is (ap (λ (ys : List ℕ). k ∷ ys) (counts_same m n ks is))

counts_other : (m n : ℕ) (ks : List ℕ) → (m == n) ≡ false → own_counts n (map (own_group m) ks) ≡ []
counts_other m n ks is = none_mine (λ (g : Group). g.creator) (λ (g : Group). g.count) (own_group m) m n (λ k. refl) is ks

counts_from : (n nodes : ℕ) (steps : List Step) (w : World) (s : NodeState) → slice_get w.states n ≡ Some s
    → own_counts n (groups_from nodes w steps) ≡ counts_given n nodes s (history_in n nodes w steps)
counts_from n nodes [] w s at = refl
counts_from n nodes (Takes m number what ∷ steps) w s at =
    counts_append n (map (own_group m) (given_at m nodes (node_in w.states m) what))
    (groups_from nodes (world_after nodes w (Takes m number what)) steps)
    ∙ pick (m == n) refl (λ t u. counts_from n nodes steps (world_after nodes w (Takes m number what)) t u)
  where
    pick : (b : Bool) → (m == n) ≡ b
        → ((t : NodeState) → slice_get (world_after nodes w (Takes m number what)).states n ≡ Some t
        → own_counts n (groups_from nodes (world_after nodes w (Takes m number what)) steps)
        ≡ counts_given n nodes t (history_in n nodes (world_after nodes w (Takes m number what)) steps))
        → own_counts n (map (own_group m) (given_at m nodes (node_in w.states m) what))
        ++ own_counts n (groups_from nodes (world_after nodes w (Takes m number what)) steps)
        ≡ counts_given n nodes s ((if b then record { what = what; sent = sent_at m nodes (node_in w.states m) what } ∷ [] else [])
        ++ history_in n nodes (world_after nodes w (Takes m number what)) steps)
    pick true e rest =
        let same : m ≡ n = eq_nat m n e in
        let here : slice_get w.states m ≡ Some s = subst (λ (j : ℕ). slice_get w.states j ≡ Some s) (sym same) at in
        let mine : own_counts n (map (own_group m) (given_at m nodes (node_in w.states m) what)) ≡ given_at n nodes s what =
        counts_same m n (given_at m nodes (node_in w.states m) what) e
        ∙ ap (λ (x : NodeState). given_at m nodes x what) (node_there w.states m s here)
        ∙ ap (λ (j : ℕ). given_at j nodes s what) same in
        ap (λ (ks : List ℕ). ks ++ own_counts n (groups_from nodes (world_after nodes w (Takes m number what)) steps)) mine
        ∙ ap (λ (ks : List ℕ). given_at n nodes s what ++ ks) (rest (after n nodes s what) (state_here m n nodes what w.states s same at))
    pick false e rest =
        let ne : n ≢ m = grind (arith, nat_tests) in
        ap (λ (ks : List ℕ). ks ++ own_counts n (groups_from nodes (world_after nodes w (Takes m number what)) steps))
        (counts_other m n (given_at m nodes (node_in w.states m) what) e)
        ∙ rest s (state_elsewhere m n nodes what w.states ne ∙ at)
counts_from n nodes (Changes net ∷ steps) w s at = counts_from n nodes steps (world_after nodes w (Changes net)) s at
counts_from n nodes (Denies named why ∷ steps) w s at = counts_from n nodes steps w s at

-- the counts of a node in a run
pub own_counts_of : (nodes n : ℕ) (steps : List Step) → n < nodes
    → own_counts n (groups_of nodes steps) ≡ 1 ∷ counts_given n nodes (opening n) (history_in n nodes (start nodes) steps)
own_counts_of nodes n steps lt =
    counts_append n (map (λ (x : ℕ). own_group x 1) (range_with_len 0 nodes)) (groups_from nodes (start nodes) steps)
    ∙ ap (λ (ks : List ℕ). ks ++ own_counts n (groups_from nodes (start nodes) steps))
    (one_each (λ (g : Group). g.creator) (λ (g : Group). g.count) (λ (x : ℕ). own_group x 1) (λ i. refl) nodes 0 n (omega arith)
    (omega (arith, lt)))
    ∙ ap (λ (ks : List ℕ). 1 ∷ ks) (counts_from n nodes steps (start nodes) (opening n) (starts_opened nodes n lt))

-- ---- counts that rise, by the places of their groups

rises_lower : (low high : ℕ) (ks : List ℕ) → low < high → Rises high ks → Rises low ks
rises_lower low high [] lt h = tt
rises_lower low high (k ∷ ks) lt h = (omega (arith, lt, h.0), h.1)

not_equal : (a b : ℕ) → (a == b) ≡ false → a ≡ b → ⊥
not_equal a b is e = grind (arith, nat_tests)

-- each count of the node is above the last one before the list
pub above : (n : ℕ) (gs : List Group) (last : ℕ) → Rises last (own_counts n gs) → (j : ℕ) (h : Group) → slice_get gs j ≡ Some h
    → h.creator ≡ n → last < h.count
above n [] last rises j h at own = absurd cc
above n (x ∷ gs) last rises j h at own = pick (x.creator == n) refl rises j at (λ low risen i at_i. above n gs low risen i h at_i own)
  where
    pick : (b : Bool) → (x.creator == n) ≡ b → Rises last (map (λ (y : Group). y.count) (cond b (x ∷ of_node n gs) (of_node n gs)))
        → (j : ℕ) → slice_get (x ∷ gs) j ≡ Some h
        → ((low : ℕ) → Rises low (own_counts n gs) → (i : ℕ) → slice_get gs i ≡ Some h → low < h.count) → last < h.count
    pick true is rises zero at rest = (let same : x ≡ h = cc at in subst (λ (y : Group). last < y.count) same rises.0)
    pick true is rises (suc j) at rest = rest last (rises_lower last x.count (own_counts n gs) rises.0 rises.1) j at
    pick false is rises zero at rest = (let same : x ≡ h = cc at in
        absurd (not_equal x.creator n is (ap (λ (y : Group). y.creator) same ∙ own)))
    pick false is rises (suc j) at rest = rest last rises j at

pub rising_places : (n : ℕ) (gs : List Group) (last : ℕ) → Rises last (own_counts n gs) → (i j : ℕ) (g h : Group) → i < j
    → slice_get gs i ≡ Some g → slice_get gs j ≡ Some h
    → g.creator ≡ n → h.creator ≡ n → g.count < h.count
rising_places n [] last rises i j g h lt at_i at_j of_g of_h = absurd cc
rising_places n (x ∷ gs) last rises i zero g h lt at_i at_j of_g of_h = absurd (let bad : i < 0 = lt in omega (arith, bad))
rising_places n (x ∷ gs) last rises i (suc j) g h lt at_i at_j of_g of_h =
    pick (x.creator == n) refl rises i lt at_i (λ low risen k less at. rising_places n gs low risen k j g h less at at_j of_g of_h)
  where
    pick : (b : Bool) → (x.creator == n) ≡ b → Rises last (map (λ (y : Group). y.count) (cond b (x ∷ of_node n gs) (of_node n gs)))
        → (i : ℕ) → i < suc j → slice_get (x ∷ gs) i ≡ Some g
        → ((low : ℕ) → Rises low (own_counts n gs) → (k : ℕ) → k < j → slice_get gs k ≡ Some g → g.count < h.count) → g.count < h.count
    pick true is rises zero lt at rest = (let same : x ≡ g = cc at in
        subst (λ (y : Group). y.count < h.count) same (above n gs x.count rises.1 j h at_j of_h))
    pick true is rises (suc i) lt at rest = rest x.count rises.1 i (omega (arith, lt)) at
    pick false is rises zero lt at rest = (let same : x ≡ g = cc at in
        absurd (not_equal x.creator n is (ap (λ (y : Group). y.creator) same ∙ of_g)))
    pick false is rises (suc i) lt at rest = rest last rises i (omega (arith, lt)) at
