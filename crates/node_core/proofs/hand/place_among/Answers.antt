use Rattle.std.proofs.Common.{⊎_elim, arith}
use Rattle.std.proofs.lemmas.Bool.Decides.{leb_tells}
use Rattle.node_core.proofs.hand.place_among.Goals as goal

pub returns-clause-none : goal.returns-clause-none
returns-clause-none c = λ _ k d le less.
    ⊎_elim
    (λ from. c.loop-low.invariant.behind k d (omega (arith, from.1, c.loop-low-test.false)) less)
    (λ before. c.loop-low.invariant.before k d le (omega (arith, before.1)))
    (leb_tells c.loop-low.low k)
