use Rattle.std.proofs.Common.{arith}
use Rattle.node_core.proofs.Holds.{absent}
use Rattle.node_core.proofs.hand.place_of.Goals as goal

pub returns-clause-none : goal.returns-clause-none
returns-clause-none c = λ none.
    absent c.args.jobs.now c.args.origin c.args.id (λ k d less. c.place_among-2.ensures.none none k d (omega arith) (omega (arith, less)))
