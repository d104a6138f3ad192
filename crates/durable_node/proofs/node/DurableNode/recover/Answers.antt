use Rattle.durable_node.proofs.node.DurableNode.recover.Goals as goal

pub returns-clause-call : goal.returns-clause-call
returns-clause-call g c =
    let e = c.step.ensures in
    record {
      step = e.step;
      stuck = e.stuck;
      answers = e.answers;
      counts = e.counts;
      area = e.area;
      mounting = e.mounting;
      mounted =
          e.mounted;
      few = e.few;
    }
