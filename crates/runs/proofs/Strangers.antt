-- Nothing is sent to a node outside the cluster.
use Rattle.std.proofs.Common.{◌≡◌, ℕ, ◌<◌, List, [], ◌∷◌, sym, subst, arith, map}
use Rattle.std.proofs.lemmas.Option.{slice_get_within}
use Rattle.wire_msg.specs.Envelope.{Envelope}
use Rattle.histories.specs.NodeState.{NodeState, opening}
use Rattle.histories.proofs.PublicLaws.{each_append, IsInside, alone_inside, after_inside, sent_inside}
use Rattle.std.specs.List.{range_with_len}
use Rattle.runs.specs.World.{World, start, node_in}
use Rattle.runs.specs.Step.{Step, Takes, Changes, Denies, world_after}
use Rattle.runs.specs.Run.{IsAllowed, RunFrom, world_at}
use Rattle.runs.specs.Strangers.{NoStrangers}
use Rattle.histories.specs.Ends.{AreToNodes}
use Rattle.runs.proofs.Opened.{length_openings}
use Rattle.runs.proofs.Runs.{node_there, opened}
use Rattle.runs.proofs.Keeping.{AllStates, states_keep}
use Rattle.histories.specs.After.{sent_at}

-- ---- all nodes

record AllInside (nodes : ℕ) (w : World) : Type 0 where
  states : AllStates (IsInside nodes) w
  sent : AreToNodes nodes w.net.sent

step_inside : (nodes : ℕ) (w : World) (step : Step) → IsAllowed nodes w step → AllInside nodes w
    → AllInside nodes (world_after nodes w step)
step_inside nodes w (Takes n number what) allowed all =
    let s : NodeState = allowed.0 in
    let inside : IsInside nodes n s = all.states n s allowed.1 in
    let said : AreToNodes nodes (sent_at n nodes (node_in w.states n) what) =
    subst (λ (x : NodeState). AreToNodes nodes (sent_at n nodes x what)) (sym (node_there w.states n s allowed.1))
    (sent_inside nodes n s what allowed.2 inside) in
    record {
      states = states_keep (IsInside nodes) nodes w n number what s allowed.1 (record {
        node = inside.node;
        names = after_inside nodes n s what allowed.2 inside;
      }) all.states;
      sent = each_append (λ (m : Envelope). m.receiver < nodes) w.net.sent (sent_at n nodes (node_in w.states n) what) all.sent said;
    }
step_inside nodes w (Changes net) allowed all = record { states = all.states; sent = rw allowed all.sent }
step_inside nodes w (Denies named why) allowed all = all

run_inside : (nodes : ℕ) (steps : List Step) (w : World) → RunFrom nodes w steps → AllInside nodes w
    → AllInside nodes (world_at nodes w steps)
run_inside nodes [] w run all = all
run_inside nodes (step ∷ steps) w run all = run_inside nodes steps (world_after nodes w step) run.1 (step_inside nodes w step run.0 all)

start_inside : (nodes : ℕ) → AllInside nodes (start nodes)
start_inside nodes = record {
  states = λ n s at.
      (let first : s ≡ opening n = opened nodes 0 n s n (omega arith) at in
      let lt : n < nodes = omega (arith, slice_get_within (map opening (range_with_len 0 nodes)) n s at, length_openings 0 nodes) in
      subst (λ (x : NodeState). IsInside nodes n x) (sym first) (record { node = lt; names = alone_inside nodes n 1 lt }));
  sent = tt;
}

pub no_strangers : NoStrangers
no_strangers nodes steps run = (run_inside nodes steps (start nodes) run (start_inside nodes)).sent
