use Rattle.std.proofs.Common.{rules}
use Rattle.invite_console.proofs.Outs.{act_more, nothing_out, rest_out}
use Rattle.invite_console.proofs.printing.print_run.Goals as goal

pub loop-number-init : goal.loop-number-init
loop-number-init g c = nothing_out c.args.names c.args.run.now.kept.items c.args.run.now.text.items c.args.run.now.world.net.sent
    (g.W.Write.contents c.args.output.now) c.args.page.now.items

pub loop-number-preserved : goal.loop-number-preserved
loop-number-preserved g c =
    act_more c.args.names c.args.run.now.kept.items c.args.run.now.text.items c.args.run.now.world.net.sent
    c.sent-messages.result.now.messages
    c.loop-number.number c.loop-number.sent c.loop-number.written c.index-kept.result.now
    (g.W.Write.contents c.args.output.now) (g.W.Write.contents c.loop-number.output) (g.W.Write.contents c.print_part.new.output)
    (g.W.Write.contents c.print_sent.new.output)
    c.args.page.now.items c.loop-number.page.items c.print_part.new.page.items c.print_sent.new.page.items c.push_text.new.text.items
    c.text_in.result.now
    c.requires (search rules) c.index-kept.ensures (search rules) c.loop-number.invariant (search rules) c.in_ok-print_part.ensures
    c.in_ok-print_sent.ensures c.in_ok-push_text.ensures

pub returns : goal.returns
returns g c =
    rest_out c.args.names c.args.run.now.kept.items c.args.run.now.text.items c.args.run.now.world.net.sent c.loop-number.number
    c.loop-number.sent c.loop-number.written
    (g.W.Write.contents c.args.output.now) (g.W.Write.contents c.loop-number.output)
    (g.W.Write.contents c.print_part-2.new.output) c.args.page.now.items c.loop-number.page.items c.print_part-2.new.page.items
    c.text_in-2.result.now (search rules) c.loop-number.invariant (search rules) c.in_ok-print_part-2.ensures
