use Rattle.std.proofs.Common.{refl}
use Rattle.node_session.proofs.Sealings.{numbered_further, sealed_further}
use Rattle.node_session.proofs.seals.push_lines.Goals as goal

pub loop-line-init : goal.loop-line-init
loop-line-init c = record { text = refl; number = refl }

pub loop-line-preserved : goal.loop-line-preserved
loop-line-preserved c = record {
  text = sealed_further c.args.keys.now c.args.life c.loop-line.number c.push_line.new.number c.loop-line.left.now c.in-Some.line.now
      c.in-Some.behind.now c.loop-line.text.items c.push_line.new.text.items _
      c.in-Some.ensures.lines c.loop-line.invariant.text c.in_ok-push_line.ensures.text c.in_ok-push_line.ensures.number;
  number = numbered_further c.args.life c.loop-line.number c.push_line.new.number c.loop-line.left.now c.in-Some.line.now
      c.in-Some.behind.now _
      c.in-Some.ensures.lines c.loop-line.invariant.number c.in_ok-push_line.ensures.number;
}
