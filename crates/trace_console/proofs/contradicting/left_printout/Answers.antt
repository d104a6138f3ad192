use Rattle.std.proofs.Common.{rules}
use Rattle.trace_console.proofs.Stopped.{stopped_among}
use Rattle.trace_console.proofs.contradicting.left_printout.Goals as goal

pub stopped_printout-requires : goal.stopped_printout-requires
stopped_printout-requires c =
    let left = c.args.left.now in
    let l = c.in-Some.stopped.now in
    let found = stopped_among left l (search rules) in
    c.leftovers_stop.ensures c.args.trace.now left l c.requires found.0 found.1
