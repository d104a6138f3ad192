use Rattle.node_server.proofs.Bytes.{keeps_same, on_err}
use Rattle.node_server.proofs.Pieces.{ends_with_device, ends_with_loss, off_between, off_within, so_far_more, so_far_none}
use Rattle.node_server.proofs.serving.serve.Goals as goal

pub loop-read-init : goal.loop-read-init
loop-read-init g c = record {
  served = so_far_none g.D.SectorDisk.state c.args.session.now (g.R.Read.remaining c.args.input.now)
      (g.W.Write.contents c.args.output.now) c.requires.fresh;
  clear = c.requires.clear;
  going = c.requires.going;
}

pub returns-in-Some-clause-served : goal.returns-in-Some-clause-served
returns-in-Some-clause-served g c = ends_with_loss g.D.SectorDisk.state c.any_clearing.ensures _ _ _ _ _ _ _ _ _ _ c.in-Some.loss
    c.loop-read.invariant.served c.loop-read.invariant.clear c.in_ok-count.ensures.bytes.0 (rw c.in-Some.is at c.in_ok-loss.ensures.ended)

pub returns-then-has_stopped-clause-served : goal.returns-then-has_stopped-clause-served
returns-then-has_stopped-clause-served g c = (
    let answered = rw c.in_default.is at c.in_ok-loss.ensures.ended in
    ends_with_device g.D.SectorDisk.state _ _ _ _ _ _
    (so_far_more g.D.SectorDisk.state c.any_clearing.ensures _ _ _ _ _ _ _ _ _ _ c.loop-read.invariant.served c.loop-read.invariant.clear
    c.in_ok-count.ensures.bytes.0 answered.0)
    answered.1 search)

pub loop-read-preserved : goal.loop-read-preserved
loop-read-preserved g c = (
    let answered = rw c.in_default.is at c.in_ok-loss.ensures.ended in
    record {
      served = so_far_more g.D.SectorDisk.state c.any_clearing.ensures _ _ _ _ _ _ _ _ _ _ c.loop-read.invariant.served
          c.loop-read.invariant.clear c.in_ok-count.ensures.bytes.0 answered.0;
      clear = answered.1;
      going = search;
    })

pub returns-in_err-count-clause-broken : goal.returns-in_err-count-clause-broken
returns-in_err-count-clause-broken g c = on_err _ (off_between g.D.SectorDisk.state _ _ _ _ _ _ _ c.loop-read.invariant.served
    c.in_err-count.ensures.bytes)

pub returns-in_err-loss-clause-broken : goal.returns-in_err-loss-clause-broken
returns-in_err-loss-clause-broken g c = on_err _ (off_within g.D.SectorDisk.state c.any_clearing.ensures _ _ _ _ _ _ _ _ _
    c.loop-read.invariant.served c.loop-read.invariant.clear c.in_ok-count.ensures.bytes.0 c.in_err-loss.ensures.broken)

pub returns-clause-broken : goal.returns-clause-broken
returns-clause-broken g c = off_between g.D.SectorDisk.state _ _ _ _ _ _ _ c.loop-read.invariant.served
    (keeps_same (g.R.Read.remaining c.loop-read.input))
