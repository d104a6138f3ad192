use Rattle.std.proofs.Common.{◌∙◌, ◌≢◌, ap, arith, rules, subst, sym}
use Rattle.std.proofs.lemmas.List.{length-set, get_or-set_other}
use Rattle.node_lock.specs.Drawing.{Counter, Numbers}
use Rattle.node_threads.specs.Wired.{HaveCounter}
use Rattle.node_threads.proofs.Links.{counter_more}
use Rattle.node_threads.proofs.Places.{polls_of}
use Rattle.node_threads.proofs.wiring.hold_nodes.Goals as goal

pub new-requires-in-loop-node-2-clause-intake : goal.new-requires-in-loop-node-2-clause-intake
new-requires-in-loop-node-2-clause-intake c =
    polls_of c.args.size c.args.plans.now c.run-run.result c.numbered.result c.loop-node.node c.index-plans-node.result c.in_ok-plan.plan
    c.requires.polls c.requires.nodes.0 c.loop-node-test.true c.index-plans-node.is c.in_ok-plan.ensures c.run-run.ensures
    c.numbered.ensures

pub loop-node-preserved : goal.loop-node-preserved
loop-node-preserved c =
    let old = c.loop-node.nodes.items in
    let kept = ap (λ (n : Numbers). n.counter) c.in_ok-try_clone.ensures.same in
    let own = c.in_ok-held.ensures.6 ∙ (c.in_ok-try_clone.ensures.none.1 ∙ sym kept) in
    let others = subst (λ (x : Counter). HaveCounter x old) (sym kept) c.loop-node.invariant.3 in (
      search rules,
      length-set c.loop-node.ends.items c.loop-node.node c.replace-mine.new.dest ∙ c.loop-node.invariant.1,
      λ n d le.
          let far : n ≢ c.loop-node.node = λ is. grind (arith, is, le) in
          let before = c.loop-node.invariant.2 n d (omega (arith, le)) in
          get_or-set_other c.loop-node.ends.items c.loop-node.node n c.replace-mine.new.dest d far ∙ before,
      counter_more c.try_clone-in-loop-node.new.self.counter old c.push.new.self.items c.in_ok-held.held c.in_ok-push.ensures.items own
          others,
    )
