use Rattle.std.proofs.Common.{Bool, length, sym, subst}
use Rattle.trace_check.specs.Claims.{MayCome}
use Rattle.trace_check.specs.Orders.{state_of}
use Rattle.trace_check.specs.Views.{claim_kept}
use Rattle.trace_check.specs.Twins.{Taken, Twin}
use Rattle.trace_check.proofs.Leftovers.{replayed_more}
use Rattle.trace_check.proofs.leaving.replayed.Goals as goal

pub unreachable-requires-then-not-branch : goal.unreachable-requires-then-not-branch
unreachable-requires-then-not-branch c =
    let hs = c.args.trace.now in
    let entry = claim_kept c.in-Some.kept in
    let possible : MayCome c.args.node (length hs) (state_of hs c.args.node c.loop-place.place) entry =
    c.requires.before c.loop-place.place entry c.loop-place-test.true c.in-Some.ensures.some in
    subst (λ (b : Bool). Taken c.loop-place.node_model c.take_kept.new.self entry b) c.if-not-branch.true c.in_ok-take_kept.ensures.taken
    (subst (λ (t : Twin). MayCome t.id t.nodes t.node entry) (sym c.loop-place.invariant) possible)

pub loop-place-preserved : goal.loop-place-preserved
loop-place-preserved c =
    let entry = claim_kept c.in-Some.kept in
    let taken_is = subst (λ (b : Bool). Taken c.loop-place.node_model c.take_kept.new.self entry b) c.if-not-branch.false
    c.in_ok-take_kept.ensures.taken in
    replayed_more c.args.trace.now c.args.node c.loop-place.place c.loop-place.node_model c.take_kept.new.self entry c.loop-place.invariant
    c.in-Some.ensures.some c.in_ok-take_kept.ensures.id c.in_ok-take_kept.ensures.nodes taken_is.1
