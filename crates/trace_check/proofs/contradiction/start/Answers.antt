use Rattle.std.proofs.Common.{Bool, ℕ, ◌+◌, length, sym, subst}
use Rattle.trace_check.specs.Claims.{MayCome}
use Rattle.trace_check.specs.Contradictions.{IsLastOpening}
use Rattle.trace_check.specs.Orders.{state_of}
use Rattle.trace_check.specs.Views.{claim_kept}
use Rattle.trace_check.specs.Twins.{Taken, Twin}
use Rattle.trace_check.proofs.Contradictions.{not_true, opened_at, opens_no_more, opens_now, unopened_at}
use Rattle.trace_check.proofs.Leftovers.{replayed_more}
use Rattle.trace_check.proofs.contradiction.start.Goals.{then-is_opened, else-is_opened}
use Rattle.trace_check.proofs.contradiction.start.Goals as goal

pub unreachable-requires-then-not-branch : goal.unreachable-requires-then-not-branch
unreachable-requires-then-not-branch c =
    let hs = c.args.trace.now in
    let entry = claim_kept c.in-Some.kept in
    let possible : MayCome c.args.node (length hs) (state_of hs c.args.node c.loop-place.place) entry =
    c.requires.before c.loop-place.place entry c.loop-place-test.true c.in-Some.ensures.some in
    subst (λ (b : Bool). Taken c.loop-place.node_model c.take_kept.new.self entry b) c.if-not-branch.true c.in_ok-take_kept.ensures.taken
    (subst (λ (t : Twin). MayCome t.id t.nodes t.node entry) (sym c.loop-place.invariant.0) possible)

pub loop-place-preserved : goal.loop-place-preserved
loop-place-preserved c =
    let hs = c.args.trace.now in
    let n = c.args.node in
    let k = c.loop-place.place in
    let t = c.take_kept.new.self in
    let entry = claim_kept c.in-Some.kept in
    let taken_is = subst (λ (b : Bool). Taken c.loop-place.node_model t entry b) c.if-not-branch.false c.in_ok-take_kept.ensures.taken in
    let next = replayed_more hs n k c.loop-place.node_model t entry c.loop-place.invariant.0 c.in-Some.ensures.some
    c.in_ok-take_kept.ensures.id c.in_ok-take_kept.ensures.nodes taken_is.1 in (
      next,
      elim c.if-is_opened.branch [
        | then-is_opened w ↦
            subst (λ (f : ℕ). IsLastOpening hs n (k + 1) f) (sym w.opening-is)
            (opens_now hs n (k + 1) (opened_at hs n (k + 1) t next (c.is_opened.ensures.0 w.if-is_opened.true)))
        | else-is_opened w ↦
            subst (λ (f : ℕ). IsLastOpening hs n (k + 1) f) (sym w.opening-is)
            (opens_no_more hs n k c.loop-place.opening c.loop-place.invariant.1
            (unopened_at hs n (k + 1) t next (λ stands. not_true c.is_opened.result w.if-is_opened.false
            (c.is_opened.ensures.1 stands))))
      ],
    )
