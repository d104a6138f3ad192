use Rattle.std.proofs.Common.{sym, rules}
use Rattle.trace_check.proofs.Brought.{brought_there, brought_nowhere}
use Rattle.trace_check.proofs.history.KeptView.brought.Goals as goal

pub returns-in-Some : goal.returns-in-Some
returns-in-Some c =
    let kept = c.args.self.now in
    (brought_there kept.messages.now.messages kept.payloads.now kept.entry.action c.in-Some.start c.requires.action (search rules)).1

pub returns-in-None : goal.returns-in-None
returns-in-None c =
    let kept = c.args.self.now in
    sym (brought_nowhere kept.messages.now.messages kept.payloads.now kept.entry.action (search rules))
