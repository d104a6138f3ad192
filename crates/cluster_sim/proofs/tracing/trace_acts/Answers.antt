use Rattle.std.proofs.Common.{sym, ◌∙◌, arith}
use Rattle.std.proofs.lemmas.List.{take_all, take_more}
use Rattle.cluster_sim.proofs.tracing.trace_acts.Goals as goal

pub loop-act-preserved : goal.loop-act-preserved
loop-act-preserved c = record {
  world = c.in_ok-trace_act.ensures.world;
  many = c.in_ok-trace_act.ensures.many ∙ c.loop-act.invariant.many ∙ sym c.in_ok-trace_act.ensures.nodes;
  kept = c.in_ok-trace_act.ensures.many ∙ c.loop-act.invariant.kept;
  traced = λ nodes slots so. rw (take_more c.args.acts.now c.loop-act.act-index c.act-item.result c.loop-act-test.true, ← c.act-item.is)
      (c.in_ok-trace_act.ensures.traced nodes slots _ (c.loop-act.invariant.traced nodes slots so));
}

pub returns-clause-traced : goal.returns-clause-traced
returns-clause-traced c = λ nodes slots so. rw (take_all c.loop-act.act-index c.args.acts.now (omega (arith, c.loop-act-test.false))) at
    (c.loop-act.invariant.traced nodes slots so)
