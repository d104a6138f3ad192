use Rattle.std.proofs.Common.{ℕ, List, Option}
use Rattle.console_text.specs.Pages.{Hands}
use Rattle.invite_console.specs.Acts.{sent_text}
use Rattle.invite_console.specs.Kept.{between}
use Rattle.invite_console.proofs.printing.print_sent.Given as goal

abbrev pub invariant-loop-at : goal.invariant-loop-at
invariant-loop-at g l = (c : Option (List ℕ)) (r : List ℕ)
    → Hands (g.W.Write.contents l.output) l.page.items c r (sent_text l.names l.at (between l.at l.to l.messages.messages))
    → Hands (g.W.Write.contents l.fn.output) l.fn.page.items c r (sent_text l.names l.from (between l.from l.to l.messages.messages))
