use Rattle.std.proofs.Common.{length, refl, ◌∙◌}
use Rattle.cluster_sim.proofs.Answering.{compacted_areas}
use Rattle.cluster_sim.specs.Operated.{IsCompacted}
use Rattle.cluster_sim.specs.Outcomes.{compaction_outcome}
use Rattle.cluster_sim.proofs.Coming.{some_of, same_by, compacted, compacted_refused, meets_up, compacted_comes, outcome_so}
use Rattle.cluster_sim.proofs.Coming.{nothing_mounted, compact_counted}
use Rattle.cluster_sim.proofs.member.compact.Goals as goal

pub returns-clause-same : goal.returns-clause-same
returns-clause-same c =
    let e = c.compact-answer.ensures in
    same_by c.args.node.now c.compact-answer.new.self c.compact-answer.result e.id e.nodes e.counts

-- what it leaves
leaves : (c : goal.After-compaction_outcome) → IsCompacted c.args.node.now c.compact-answer.new.self
    (compaction_outcome (length c.args.net.now.network.sent) c.compact-answer.result)
leaves c =
    let e = c.compact-answer.ensures in
    compacted c.args.node.now c.compact-answer.new.self (length c.args.net.now.network.sent) c.compact-answer.result e.answers e.moved
    e.fallen e.refused e.images

pub returns-clause-came : goal.returns-clause-came
returns-clause-came c = λ slots n s stands.
    let old = c.args.node.now in
    let e = c.compact-answer.ensures in
    let was = some_of old.disk e.counts.was_there in
    let came = e.step was.0 s was.1 stands in
    let reported = outcome_so old.id old.nodes (length c.args.net.now.network.sent) n s came.0 c.compact-answer.result came.1
    (meets_up old s c.compact-answer.result stands e.answers (λ down. (c.shows_its_disk.ensures.down down).1)) in
    compacted_comes slots n old.id old.nodes s c.compaction_outcome.result c.compact-answer.new.self c.args.net.now.network came.0
    reported.0 came.2 (c.compaction_outcome.ensures ∙ reported.1)
    (nothing_mounted old c.compact-answer.new.self _ (leaves c).left) came.3

pub returns-clause-counted : goal.returns-clause-counted
returns-clause-counted c =
    rw c.compaction_outcome.ensures (compact_counted c.args.node.now.disk c.compact-answer.new.self.disk
    (length c.args.net.now.network.sent) c.compact-answer.result c.compact-answer.ensures.counts)

pub returns-clause-compacted : goal.returns-clause-compacted
returns-clause-compacted c = rw c.compaction_outcome.ensures (leaves c)

pub returns-clause-areas : goal.returns-clause-areas
returns-clause-areas c =
    let old = c.args.node.now in
    let e = c.compact-answer.ensures in
    let was = some_of old.disk e.counts.was_there in
    compacted_areas old c.compact-answer.new.self c.compact-answer.result c.compaction_outcome.result was.0 was.1 e.counts
    (rw c.compaction_outcome.ensures (compacted_refused old.area (length c.args.net.now.network.sent) c.compact-answer.result e.answers))
    (λ d area on at. c.shows_its_disk.ensures.number d area on at refl)
