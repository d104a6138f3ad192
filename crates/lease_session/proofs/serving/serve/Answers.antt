use Rattle.std.proofs.Common.{sym, ap, arith}
use Rattle.std.specs.Global.{Vec}
use Rattle.lease_session.specs.declared.serving.LeaseEnd.TheVariants as end
use Rattle.lease_session.proofs.Pieces.{served, served_to_end, so_far_more, so_far_none}
use Rattle.lease_session.proofs.serving.serve.Goals as goal

pub loop-read-init : goal.loop-read-init
loop-read-init g c = record {
  so = so_far_none _ _ (g.R.Read.remaining c.args.input.now)
      (g.W.Write.contents c.args.output.now) c.requires.fresh c.requires.sound c.requires.clear;
  going = c.requires.going;
  room = omega arith;
}

pub returns-then-count-eq0 : goal.returns-then-count-eq0
returns-then-count-eq0 g c =
    served_to_end _ _ _ _ _ _ _ _ _ _ c.loop-read.invariant.so c.in_ok-count.ensures.bytes.0 (omega (arith, c.if-count-eq0.true))
    (c.in_ok-count.ensures.bytes.1 (omega (arith, c.if-count-eq0.true)) (omega (arith, c.read.auto.buf, c.loop-read.invariant.room)))
    c.loop-read.invariant.going

pub returns-then-has_stopped : goal.returns-then-has_stopped
returns-then-has_stopped g c =
    served _ _ _ _ _ _ _ end.Device
    (so_far_more c.lines_are_steps.ensures _ _ _ _ _ _ _ _ _ _ _ _ _ _ c.loop-read.invariant.so c.in_ok-count.ensures.bytes.0
    c.in_ok-feed.ensures c.in_ok-write_out.ensures.printed
    c.in_ok-write_out.ensures.same c.in_ok-write_out.ensures.cleared (ap (λ (v : Vec _). v.items) c.write_out.ensures.unread))
    (sym c.if-has_stopped.ensures)

pub loop-read-preserved : goal.loop-read-preserved
loop-read-preserved g c = record {
  so = so_far_more c.lines_are_steps.ensures _ _ _ _ _ _ _ _ _ _ _ _ _ _ c.loop-read.invariant.so c.in_ok-count.ensures.bytes.0
      c.in_ok-feed.ensures c.in_ok-write_out.ensures.printed
      c.in_ok-write_out.ensures.same c.in_ok-write_out.ensures.cleared (ap (λ (v : Vec _). v.items) c.write_out.ensures.unread);
  going = sym c.if-has_stopped.ensures;
  room = omega (arith, c.read.auto.buf, c.loop-read.invariant.room);
}
