use Rattle.std.proofs.Common.{◌≡◌, ◌<◌, Some, length, slice_get, refl, arith}
use Rattle.std.proofs.lemmas.Option.{slice_get_read}
use Rattle.node_threads.proofs.Facts.{ended_fits, one_more_fits}
use Rattle.node_threads.proofs.ended.have_ended.Goals as goal

pub loop-node-preserved : goal.loop-node-preserved
loop-node-preserved c =
    let node = c.loop-node.node in
    let plans = c.args.plans.now in
    let plan = c.index-plans-node.result in
    let test = c.loop-node-test.true in
    let within = c.requires.within in
    let lt : node < length plans = omega (arith, test, within) in
    let at : slice_get plans node ≡ Some plan = slice_get_read plans (length plans) node plan refl lt c.index-plans-node.is in
    one_more_fits node plans plan at (ended_fits c.run-run.result plan _ _ c.in-Ok.ensures) c.loop-node.invariant
