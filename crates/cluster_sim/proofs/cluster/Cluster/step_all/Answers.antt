use Rattle.std.proofs.Common.{◌++◌, ◌∷◌, [], sym, ◌∙◌, append_assoc}
use Rattle.runs.specs.Growth.{acts_in}
use Rattle.cluster_sim.proofs.Promised.{ok_here, one_done}
use Rattle.cluster_sim.proofs.cluster.Cluster.step_all.Goals as goal

pub loop-act-preserved : goal.loop-act-preserved
loop-act-preserved c =
    let inv = c.loop-act.invariant in
    record {
      slots = c.step.ensures.slots ∙ inv.slots;
      rest = append_assoc c.loop-act.yielded (c.in-Some.act ∷ []) c.next.new.self.rest.items
          ∙ (λ i. c.loop-act.yielded ++ (sym c.in-Some.ensures.steps.0) i) ∙ inv.rest;
      run = λ nodes w many reports.
          (let before = acts_in c.args.self.now.report in
          let h = inv.run nodes w many reports in
          let on = ok_here _ c.step.result (sym c.if-is_err.ensures.value) (c.step.ensures.goes_on h.last h.reports) in
          rw (← append_assoc before c.loop-act.yielded (c.in-Some.act ∷ []))
          (one_done c.loop-act.self c.step.new.self nodes (before ++ c.loop-act.yielded) c.in-Some.act on.0 h on.1));
    }
