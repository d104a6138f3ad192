use Rattle.std.proofs.Common.{List, ℕ, [], append-nil, ap, subst, sym}
use Rattle.node_session.specs.Serving.{Progress}
use Rattle.node_server.specs.Served.{IsAnswered}
use Rattle.node_server.proofs.Bytes.{keeps_same, on_err}
use Rattle.node_server.proofs.Pieces.{GoesOn, all_out, begins, broken_before, broken_in, broken_on, line_on, lost_behind}
use Rattle.node_server.proofs.serving.answer.Goals as goal

pub loop-line-init : goal.loop-line-init
loop-line-init g c = record {
  goes = begins g.D.SectorDisk.state c.args.session.now c.args.piece.now (g.W.Write.contents c.args.output.now);
}

pub returns-in-Some-2-clause-ended : goal.returns-in-Some-2-clause-ended
returns-in-Some-2-clause-ended g c = (
    let lost = rw c.in-Some-2.is at c.in_ok-loss.ensures.ended in
    lost_behind g.D.SectorDisk.state c.args.session.now c.loop-line.session c.answer_line.new.session c.args.piece.now c.loop-line.left.now
    c.split_at.result.0.now c.split_at.result.1.now _ _ _
    c.loop-line.invariant.goes c.split_at.ensures.by_index.0 lost.0 lost.1)

pub loop-line-preserved : goal.loop-line-preserved
loop-line-preserved g c = record {
  goes = line_on g.D.SectorDisk.state c.any_cutting.ensures c.any_clearing.ensures _ _ _ _ c.split_at.result.0.now c.split_at.result.1.now _
      _ _
      (subst (λ (l : List ℕ). GoesOn g.D.SectorDisk.state c.args.session.now c.loop-line.session c.args.piece.now l
      (g.W.Write.contents c.args.output.now) (g.W.Write.contents c.loop-line.output))
      c.split_at.ensures.by_index.0 c.loop-line.invariant.goes)
      (rw c.in_default-2.is at c.in_ok-loss.ensures.ended);
}

pub returns-clause-ended : goal.returns-clause-ended
returns-clause-ended g c = (
  subst (λ (s : Progress _). IsAnswered g.D.SectorDisk.state c.args.session.now s c.args.piece.now (g.W.Write.contents c.args.output.now)
      (g.W.Write.contents c.write_out.new.output))
      (sym c.in_ok-write_out.ensures.cleared)
      (all_out g.D.SectorDisk.state _ _ _ _ _ _ _ _ c.loop-line.invariant.goes (c.at_once_is_fed.ensures _ _ _ c.in_ok-feed.ensures)
      c.in_ok-write_out.ensures.printed),
  ap (λ (s : Progress _). s.text) c.in_ok-write_out.ensures.cleared,
)

pub returns-in_err-begun-clause-broken : goal.returns-in_err-begun-clause-broken
returns-in_err-begun-clause-broken g c =
    on_err _ (broken_before g.D.SectorDisk.state c.args.session.now c.args.session.now c.args.piece.now c.args.piece.now _ _ _
    (begins g.D.SectorDisk.state c.args.session.now c.args.piece.now (g.W.Write.contents c.args.output.now))
    (keeps_same (g.W.Write.contents c.args.output.now)))

pub returns-in_err-loss-clause-broken : goal.returns-in_err-loss-clause-broken
returns-in_err-loss-clause-broken g c =
    on_err _ (broken_on g.D.SectorDisk.state c.args.session.now c.loop-line.session c.args.piece.now c.loop-line.left.now
    c.split_at.result.0.now c.split_at.result.1.now _ _ _
    c.loop-line.invariant.goes c.split_at.ensures.by_index.0 c.in_err-loss.ensures.broken)

pub returns-in_err-write_out-clause-broken : goal.returns-in_err-write_out-clause-broken
returns-in_err-write_out-clause-broken g c =
    on_err _ (broken_in g.D.SectorDisk.state c.args.session.now c.loop-line.session c.feed.new.self c.args.piece.now c.loop-line.left.now
    c.loop-line.left.now [] _ _ _
    c.loop-line.invariant.goes (sym (append-nil c.loop-line.left.now))
    (c.at_once_is_fed.ensures _ _ _ c.in_ok-feed.ensures) c.in_err-write_out.ensures.broken)
