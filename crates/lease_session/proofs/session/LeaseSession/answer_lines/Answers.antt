use Rattle.std.proofs.Common.{◌++◌, ◌∷◌, [], refl, ◌∙◌}
use Rattle.lease_session.proofs.Feeding.{answered_more, line_more}
use Rattle.lease_session.proofs.session.LeaseSession.answer_lines.Goals as goal

pub loop-line-init : goal.loop-line-init
loop-line-init g c = record { unread = refl; so = ([], refl, refl) }

pub loop-line-preserved : goal.loop-line-preserved
loop-line-preserved g c =
    let so = c.loop-line.invariant.so in
    let line = c.in-Some.line.now in
    record {
      unread = c.answer_line.ensures.unread ∙ c.loop-line.invariant.unread;
      so = (
        so.0 ++ line ∷ [],
        line_more c.args.whole.now c.loop-line.left.now c.in-Some.behind.now so.0 line so.1 c.in-Some.ensures.lines,
        answered_more so.0 line _ _ _ so.2 c.in_ok-answer_line.ensures.line,
      );
    }
