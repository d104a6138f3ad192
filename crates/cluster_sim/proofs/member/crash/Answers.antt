use Rattle.std.proofs.Common.{length, ◌∙◌, sym}
use Rattle.cluster_sim.proofs.Answering.{area_stays}
use Rattle.cluster_sim.proofs.Arming.{crash_counted}
use Rattle.cluster_sim.proofs.Coming.{some_of}
use Rattle.cluster_sim.proofs.member.crash.Goals as goal

pub returns-clause-same : goal.returns-clause-same
returns-clause-same c =
    let is = c.crash.ensures.down in
    let was = some_of c.args.node.now.disk c.crash.ensures.there in
    record {
      id = λ i. (is i).id;
      nodes = λ i. (is i).nodes;
      size = λ slots size d at. (c.crash.ensures.disk was.0 d was.1 at).0.size
          ∙ size was.0 was.1;
    }

pub returns-clause-counted : goal.returns-clause-counted
returns-clause-counted c = λ was now before after.
    let is = c.crash.ensures.disk was now before after in
    rw c.nothing_sent.ensures (crash_counted was now (length c.args.net.now.network.sent) is.0.size is.1)

pub returns-clause-left : goal.returns-clause-left
returns-clause-left c = rw (← c.as_slice.ensures) c.crash.ensures.disk

pub returns-clause-areas : goal.returns-clause-areas
returns-clause-areas c =
    let was = some_of c.args.node.now.disk c.crash.ensures.there in
    area_stays c.args.node.now.disk c.crash.new.self.disk c.nothing_sent.result (λ area_exhausted. let bad = sym c.nothing_sent.ensures
    ∙ area_exhausted in cc)
    (λ bound within now at. c.crash.ensures.number was.0 now bound was.1 at (within was.0 was.1))
