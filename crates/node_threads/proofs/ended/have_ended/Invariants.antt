use Rattle.node_threads.specs.Reasons.{FirstFit}
use Rattle.node_threads.proofs.ended.have_ended.Given as goal

abbrev pub invariant-loop-node : goal.invariant-loop-node
invariant-loop-node l = FirstFit l.node l.plans
