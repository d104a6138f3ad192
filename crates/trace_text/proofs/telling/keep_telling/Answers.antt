use Rattle.std.proofs.Common.{refl}
use Rattle.trace_text.specs.Tellings.{telling_by}
use Rattle.trace_text.proofs.Kept.{grows_then, kept_more, telling_kept}
use Rattle.trace_text.proofs.telling.keep_telling.Goals as goal

pub returns-in_err-took-clause-grown : goal.returns-in_err-took-clause-grown
returns-in_err-took-clause-grown c = grows_then _ _ _ c.in_ok-group.ensures.grown c.in_err-took.ensures.grown

pub returns-in_err-dropped-clause-grown : goal.returns-in_err-dropped-clause-grown
returns-in_err-dropped-clause-grown c = grows_then _ _ _ c.in_ok-group.ensures.grown
    (grows_then _ _ _ c.in_ok-took.ensures.grown c.in_err-dropped.ensures.grown)

pub returns-in_err-gone-clause-grown : goal.returns-in_err-gone-clause-grown
returns-in_err-gone-clause-grown c = grows_then _ _ _ c.in_ok-group.ensures.grown
    (grows_then _ _ _ c.in_ok-took.ensures.grown (grows_then _ _ _ c.in_ok-dropped.ensures.grown c.in_err-gone.ensures.grown))

pub returns-in_err-id-clause-grown : goal.returns-in_err-id-clause-grown
returns-in_err-id-clause-grown c = grows_then _ _ _ c.in_ok-group.ensures.grown
    (grows_then _ _ _ c.in_ok-took.ensures.grown (grows_then _ _ _ c.in_ok-dropped.ensures.grown
    (grows_then _ _ _ c.in_ok-gone.ensures.grown c.in_err-id.ensures.grown)))

pub returns-in_err-kept-clause-grown : goal.returns-in_err-kept-clause-grown
returns-in_err-kept-clause-grown c = grows_then _ _ _ c.in_ok-group.ensures.grown
    (grows_then _ _ _ c.in_ok-took.ensures.grown (grows_then _ _ _ c.in_ok-dropped.ensures.grown
    (grows_then _ _ _ c.in_ok-gone.ensures.grown (grows_then _ _ _ c.in_ok-id.ensures.grown c.in_err-kept.ensures.grown))))

pub returns-clause-grown : goal.returns-clause-grown
returns-clause-grown c = grows_then _ _ _ c.in_ok-group.ensures.grown
    (grows_then _ _ _ c.in_ok-took.ensures.grown (grows_then _ _ _ c.in_ok-dropped.ensures.grown
    (grows_then _ _ _ c.in_ok-gone.ensures.grown (grows_then _ _ _ c.in_ok-id.ensures.grown c.in_ok-kept.ensures.grown))))

pub returns-clause-kept : goal.returns-clause-kept
returns-clause-kept c =
    let after_id = c.in_ok-kept.ensures.grown in
    let after_gone = grows_then _ _ _ c.in_ok-id.ensures.grown after_id in
    let after_dropped = grows_then _ _ _ c.in_ok-gone.ensures.grown after_gone in
    let after_took = grows_then _ _ _ c.in_ok-dropped.ensures.grown after_dropped in
    let after_group = grows_then _ _ _ c.in_ok-took.ensures.grown after_took in
    telling_kept _ _ (telling_by c.args.telling.now) refl (kept_more _ _ _ _ after_group c.in_ok-group.ensures.kept)
    (kept_more _ _ _ _ after_took c.in_ok-took.ensures.kept) (kept_more _ _ _ _ after_dropped c.in_ok-dropped.ensures.kept)
    (kept_more _ _ _ _ after_gone c.in_ok-gone.ensures.kept) (kept_more _ _ _ _ after_id c.in_ok-id.ensures.kept) c.in_ok-kept.ensures.kept
