use Rattle.std.proofs.Common.{rules}
use Rattle.invite_console.proofs.Sents.{message_out}
use Rattle.invite_console.proofs.printing.print_sent.Goals as goal

pub loop-at-preserved : goal.loop-at-preserved
loop-at-preserved g c = λ end r rest.
    c.loop-at.invariant end r (message_out c.args.names c.loop-at.at c.args.to c.args.messages.now.messages
    (g.W.Write.contents c.loop-at.output) (g.W.Write.contents c.print_full.new.output) end
    c.loop-at.page.items c.push_message.new.text.items c.print_full.new.page.items r (search rules) c.requires.within
    c.in_ok-push_message.ensures c.in_ok-print_full.ensures rest)
