use Rattle.std.proofs.Common.{◌≡◌, List, [], ◌∷◌, ◌++◌, Some, length, slice_get, ◌∙◌, ap, refl}
use Rattle.std.proofs.lemmas.Option.{slice_get_read}
use Rattle.node_lock.specs.Kept.{Log}
use Rattle.node_threads.specs.Nodes.{NodeEnds, run_at}
use Rattle.node_threads.specs.Ended.{HasEnded}
use Rattle.node_threads.proofs.Facts.{ended_more}
use Rattle.node_threads.proofs.ended.take_all.Goals as goal

pub loop-node-preserved : goal.loop-node-preserved
loop-node-preserved c =
    let node = c.loop-node.node in
    let plans = c.args.plans.now in
    let plan = c.index-plans-node.result in
    let log = c.in_ok-history.history in
    let mine = c.in_ok-history.ends in
    let at : slice_get plans node ≡ Some plan = slice_get_read plans (length plans) node plan refl c.loop-node-test.true
    c.index-plans-node.is in
    let has : HasEnded (run_at c.args.size node) plan log mine = rw (c.run-run.ensures, c.numbered.ensures) at c.in_ok-history.ensures in
    ended_more node c.args.size plans c.loop-node.histories.items c.loop-node.left.items plan log mine c.push_reserved.new.self.items
    c.push_reserved-in-loop-node.new.self.items
    (c.push_reserved.ensures.items ∙ ap (λ (xs : List Log). xs ++ log ∷ []) c.reserve.ensures.items)
    (c.push_reserved-in-loop-node.ensures.items ∙ ap (λ (xs : List NodeEnds). xs ++ mine ∷ []) c.reserve-in-loop-node.ensures.items) at has
    c.loop-node.invariant
