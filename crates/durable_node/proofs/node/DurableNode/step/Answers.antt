use Rattle.std.proofs.Common.{refl}
use Rattle.durable_node.proofs.node.DurableNode.step.Goals as goal

pub returns : goal.returns
returns g c =
    let e = c.advance.ensures.call in
    rw (← c.self.view_is) (record {
      id = refl;
      nodes = refl;
      step = e.step;
      stuck = e.stuck;
      answers = e.answers;
      counts = e.counts;
      area =
          e.area;
      mounting = e.mounting;
      mounted = e.mounted;
      few = e.few;
    })
