-- The states of a run are moments of its histories, so one book agrees with them.
use Rattle.std.proofs.Common.{◌≡◌, ◌≢◌, ℕ, Bool, true, false, List, [], ◌∷◌, ◌++◌, slice_get, refl, sym, subst, inl, inr, arith, Some}
use Rattle.std.specs.Prelude.{if◌then◌else◌, ◌==◌}
use Rattle.std.proofs.lemmas.Bool.Decides.{nat_tests}
use Rattle.histories.specs.Lists.{IsAmong}
use Rattle.histories.specs.NodeState.{NodeState, opening}
use Rattle.histories.specs.HistoryEvent.{Entry}
use Rattle.histories.specs.After.{after, sent_at}
use Rattle.histories.specs.History.{vectors}
use Rattle.histories.specs.Moments.{IsMoment}
use Rattle.histories.proofs.PublicLaws.{eq_nat, each_bundle_rises, one_book}
use Rattle.runs.specs.World.{World, start, node_in}
use Rattle.runs.specs.Step.{Step, Takes, Changes, Denies, world_after}
use Rattle.runs.specs.Run.{world_at, history_in, histories_of, RunBook}
use Rattle.runs.proofs.Runs.{state_here, state_elsewhere, was_node, opened, history_at, how_many, runs_are_bundles}

first_vector : (self nodes : ℕ) (s : NodeState) (es : List Entry) → IsAmong s.state (vectors self nodes s es)
first_vector self nodes s [] = inl refl
first_vector self nodes s (e ∷ es) = inl refl

-- a node was one at the start, and its vector is a moment of its history
run_moment : (nodes n : ℕ) (done left : List Step) (w : World) (t : NodeState) → slice_get (world_at nodes w done).states n ≡ Some t
    → (s : NodeState) × (slice_get w.states n ≡ Some s) × IsAmong t.state (vectors n nodes s (history_in n nodes w (done ++ left)))
run_moment nodes n [] left w t at = (t, at, first_vector n nodes t (history_in n nodes w left))
run_moment nodes n (Takes m number what ∷ done) left w t at =
    let rest = run_moment nodes n done left (world_after nodes w (Takes m number what)) t at in
    let was = was_node m n w.states _ rest.0 rest.1 in
    (was.0, was.1, by_node (m == n) refl was.0 was.1 rest.0 rest.1 rest.2)
  where
    by_node : (b : Bool) → (m == n) ≡ b → (s : NodeState) → slice_get w.states n ≡ Some s → (u : NodeState)
        → slice_get (world_after nodes w (Takes m number what)).states n ≡ Some u
        → IsAmong t.state (vectors n nodes u (history_in n nodes (world_after nodes w (Takes m number what)) (done ++ left)))
        → IsAmong t.state (vectors n nodes s ((if b then record { what = what; sent = sent_at m nodes (node_in w.states m) what } ∷ []
        else []) ++ history_in n nodes (world_after nodes w (Takes m number what)) (done ++ left)))
    by_node true is s at_s u at_u i =
        let now = state_here m n nodes what w.states s (eq_nat m n is) at_s in
        let same : u ≡ after n nodes s what = cc (at_u, now) in
        inr (subst (λ (x : NodeState). IsAmong t.state (vectors n nodes x
        (history_in n nodes (world_after nodes w (Takes m number what)) (done ++ left)))) same i)
    by_node false is s at_s u at_u i =
        let ne : n ≢ m = grind (arith, nat_tests) in
        let stays = state_elsewhere m n nodes what w.states ne in
        let same : u ≡ s = cc (at_u, stays, at_s) in
        subst (λ (x : NodeState). IsAmong t.state (vectors n nodes x
        (history_in n nodes (world_after nodes w (Takes m number what)) (done ++ left)))) same i
run_moment nodes n (Changes net ∷ done) left w t at = run_moment nodes n done left (world_after nodes w (Changes net)) t at
run_moment nodes n (Denies named why ∷ done) left w t at = run_moment nodes n done left w t at

pub state_moment : (nodes : ℕ) (steps done left : List Step) → done ++ left ≡ steps → (n : ℕ) (s : NodeState)
    → slice_get (world_at nodes (start nodes) done).states n ≡ Some s
    → IsMoment (histories_of nodes steps) n s.state
state_moment nodes steps done left whole n s at =
    let it = run_moment nodes n done left (start nodes) s at in
    let first : it.0 ≡ opening n = opened nodes 0 n it.0 n (omega arith) it.1 in
    let among : IsAmong s.state (vectors n nodes (opening n) (history_in n nodes (start nodes) steps)) =
    subst (λ (xs : List Step). IsAmong s.state (vectors n nodes (opening n) (history_in n nodes (start nodes) xs))) whole
    (subst (λ (x : NodeState). IsAmong s.state (vectors n nodes x (history_in n nodes (start nodes) (done ++ left)))) first it.2) in (
      history_in n nodes (start nodes) steps,
      history_at nodes 0 n nodes steps it.0 n (omega arith) it.1,
      subst (λ (k : ℕ). IsAmong s.state (vectors n k (opening n) (history_in n nodes (start nodes) steps)))
          (sym (how_many nodes 0 nodes steps)) among,
    )

pub run_book : RunBook
run_book nodes steps run =
    let hs : List (List Entry) = histories_of nodes steps in
    let bundle = runs_are_bundles nodes steps run in
    let book = one_book hs bundle (each_bundle_rises hs bundle) in
    (book.0, λ done left whole n s at. book.1 n s.state (state_moment nodes steps done left whole n s at))
