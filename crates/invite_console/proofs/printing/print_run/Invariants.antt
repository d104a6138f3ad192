use Rattle.invite_console.proofs.Outs.{Goes}
use Rattle.invite_console.proofs.printing.print_run.Given as goal

abbrev pub invariant-loop-number : goal.invariant-loop-number
invariant-loop-number g l =
    Goes (g.W.Write.contents l.fn.output) (g.W.Write.contents l.output) l.fn.page.items l.page.items l.names l.run.kept.items
    l.run.text.items l.run.world.net.sent l.number l.sent l.written
