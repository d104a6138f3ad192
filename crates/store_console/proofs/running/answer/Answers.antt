use Rattle.store_console.proofs.Sessions.{no_more}
use Rattle.store_console.proofs.running.answer.Goals as goal

pub returns-clause-answers : goal.returns-clause-answers
returns-clause-answers g c =
    no_more c.args.requests.now c.loop-request.left.now c.loop-request.has_failed c.loop-request.mounted c.loop-request.text.items
    c.loop-request.why.items c.loop-request.invariant c.in_default.ensures.cases
