-- The marks of a run, picked out for one node, are those of its history.
use Rattle.std.proofs.Common.{◌≡◌, ◌≢◌, ℕ, suc, ◌+◌, ◌≤◌, Bool, true, false, List, [], ◌∷◌, ◌++◌, length, slice_get, refl, sym, ◌∙◌, ap}
use Rattle.std.proofs.Common.{subst, arith, Some, add-zero}
use Rattle.std.specs.Prelude.{if◌then◌else◌, ◌==◌}
use Rattle.std.proofs.lemmas.Bool.Decides.{nat_tests}
use Rattle.std.proofs.lemmas.List.{map-id}
use Rattle.histories.specs.NodeState.{NodeState, opening}
use Rattle.histories.specs.HistoryEvent.{Entry}
use Rattle.histories.specs.After.{after, sent_at}
use Rattle.histories.specs.Kept.{CommandsKept}
use Rattle.histories.specs.Marks.{Mark, commands_of, mountings_of, marks_at, marks_from, marks_of, opening_marks}
use Rattle.histories.proofs.PublicLaws.{eq_nat, each_kept}
use Rattle.runs.specs.World.{World, start, node_in}
use Rattle.runs.specs.Step.{Step, Takes, Changes, Denies, world_after}
use Rattle.runs.specs.Run.{history_in}
use Rattle.runs.specs.Tagged.{tagged, own, step_marks, counts_after, run_marks, RunsAreKept}
use Rattle.runs.proofs.Own.{append_own, all_mine, none_mine}
use Rattle.runs.proofs.Runs.{node_there, state_here, state_elsewhere, opened, history_follows}

own_more : (n : ℕ) (ps qs : List (ℕ × Mark)) → own n (ps ++ qs) ≡ own n ps ++ own n qs
own_more = append_own (λ (p : ℕ × Mark). p.0) (λ (p : ℕ × Mark). p.1)

own_all : (m n : ℕ) (ms : List Mark) → (m == n) ≡ true → own n (tagged m ms) ≡ ms
own_all m n ms is = all_mine (λ (p : ℕ × Mark). p.0) (λ (p : ℕ × Mark). p.1) (λ (x : Mark). (m, x)) m n (λ x. refl) is ms ∙ map-id ms

own_none : (m n : ℕ) (ms : List Mark) → (m == n) ≡ false → own n (tagged m ms) ≡ []
own_none m n ms is = none_mine (λ (p : ℕ × Mark). p.0) (λ (p : ℕ × Mark). p.1) (λ (x : Mark). (m, x)) m n (λ x. refl) is ms

pub run_own : (n nodes : ℕ) (steps : List Step) (w : World) (counts : ℕ → ℕ) (s : NodeState) (c : ℕ) → slice_get w.states n ≡ Some s
    → counts n ≡ c
    → own n (run_marks nodes w counts steps) ≡ marks_from n nodes s c (history_in n nodes w steps)
run_own n nodes [] w counts s c at is = refl
run_own n nodes (Takes m number what ∷ steps) w counts s c at is =
    pick (m == n) refl (λ t k u v. run_own n nodes steps (world_after nodes w (Takes m number what))
    (counts_after counts (step_marks nodes w counts (Takes m number what))) t k u v)
  where
    pick : (b : Bool) → (m == n) ≡ b
        → ((t : NodeState) (k : ℕ) → slice_get (world_after nodes w (Takes m number what)).states n ≡ Some t
        → counts_after counts (step_marks nodes w counts (Takes m number what)) n ≡ k
        → own n (run_marks nodes (world_after nodes w (Takes m number what))
        (counts_after counts (step_marks nodes w counts (Takes m number what))) steps)
        ≡ marks_from n nodes t k (history_in n nodes (world_after nodes w (Takes m number what)) steps))
        → own n (tagged m (marks_at m nodes (node_in w.states m) (counts m) what)
        ++ run_marks nodes (world_after nodes w (Takes m number what))
        (counts_after counts (step_marks nodes w counts (Takes m number what))) steps)
        ≡ marks_from n nodes s c ((if b then record { what = what; sent = sent_at m nodes (node_in w.states m) what } ∷ [] else [])
        ++ history_in n nodes (world_after nodes w (Takes m number what)) steps)
    pick true e rest =
        let same : m ≡ n = eq_nat m n e in
        let here : slice_get w.states m ≡ Some s = subst (λ (j : ℕ). slice_get w.states j ≡ Some s) (sym same) at in
        let mine : marks_at m nodes (node_in w.states m) (counts m) what ≡ marks_at n nodes s c what =
        ap (λ (x : NodeState). marks_at m nodes x (counts m) what) (node_there w.states m s here)
        ∙ (ap (λ (j : ℕ). marks_at j nodes s (counts j) what) same ∙ ap (λ (k : ℕ). marks_at n nodes s k what) is) in
        let all = own_all m n (marks_at m nodes (node_in w.states m) (counts m) what) e ∙ mine in
        let count : counts_after counts (step_marks nodes w counts (Takes m number what)) n
        ≡ c + length (commands_of (marks_at n nodes s c what)) =
        ap (λ (ms : List Mark). counts n + length (commands_of ms)) all
        ∙ ap (λ (k : ℕ). k + length (commands_of (marks_at n nodes s c what))) is in
        own_more n _ _ ∙ (ap (λ (ms : List Mark). ms ++ own n (run_marks nodes (world_after nodes w (Takes m number what))
        (counts_after counts (step_marks nodes w counts (Takes m number what))) steps)) all
        ∙ ap (λ (ms : List Mark). marks_at n nodes s c what ++ ms)
        (rest (after n nodes s what) (c + length (commands_of (marks_at n nodes s c what)))
        (state_here m n nodes what w.states s same at) count))
    pick false e rest =
        let ne : n ≢ m = grind (arith, nat_tests) in
        let nothing = own_none m n (marks_at m nodes (node_in w.states m) (counts m) what) e in
        let none : counts_after counts (step_marks nodes w counts (Takes m number what)) n ≡ c =
        ap (λ (ms : List Mark). counts n + length (commands_of ms)) nothing ∙ (add-zero (counts n) ∙ is) in
        own_more n _ _ ∙ (ap (λ (ms : List Mark). ms ++ own n (run_marks nodes (world_after nodes w (Takes m number what))
        (counts_after counts (step_marks nodes w counts (Takes m number what))) steps)) nothing
        ∙ rest s c (state_elsewhere m n nodes what w.states ne ∙ at) none)
run_own n nodes (Changes net ∷ steps) w counts s c at is =
    run_own n nodes steps (world_after nodes w (Changes net)) (counts_after counts []) s c at (add-zero (counts n) ∙ is)
run_own n nodes (Denies named why ∷ steps) w counts s c at is =
    run_own n nodes steps w (counts_after counts []) s c at (add-zero (counts n) ∙ is)

-- a node's history has an entry for each step at most
pub history_few : (n nodes : ℕ) (steps : List Step) (w : World) → length (history_in n nodes w steps) ≤ length steps
history_few n nodes [] w = omega arith
history_few n nodes (Takes m number what ∷ steps) w = pick (m == n) (history_few n nodes steps (world_after nodes w (Takes m number what)))
  where
    pick : (b : Bool) → length (history_in n nodes (world_after nodes w (Takes m number what)) steps) ≤ length steps
        → length ((if b then record { what = what; sent = sent_at m nodes (node_in w.states m) what } ∷ [] else [])
        ++ history_in n nodes (world_after nodes w (Takes m number what)) steps) ≤ suc (length steps)
    pick true h = omega (arith, h)
    pick false h = omega (arith, h)
history_few n nodes (Changes net ∷ steps) w = let few = history_few n nodes steps (world_after nodes w (Changes net)) in omega (arith, few)
history_few n nodes (Denies named why ∷ steps) w = let few = history_few n nodes steps w in omega (arith, few)

pub runs_are_kept : RunsAreKept
runs_are_kept nodes steps run few n s at =
    let first : s ≡ opening n = opened nodes 0 n s n (omega arith) at in
    let here : slice_get (start nodes).states n ≡ Some (opening n) = at ∙ ap (λ (x : NodeState). Some x) first in
    let h : List Entry = history_in n nodes (start nodes) steps in
    let kept : CommandsKept (commands_of (marks_of n nodes h)) (mountings_of (marks_of n nodes h)) =
    each_kept n nodes h (history_follows n nodes steps (start nodes) (opening n) here run)
    (omega (arith, few, history_few n nodes steps (start nodes))) in
    subst (λ (ms : List Mark). CommandsKept (commands_of (opening_marks ++ ms)) (mountings_of (opening_marks ++ ms)))
    (sym (run_own n nodes steps (start nodes) (λ (k : ℕ). 1) (opening n) 1 here refl)) kept
