use Rattle.std.proofs.lemmas.Result.{on_ok_weaker}
use Rattle.threads_console.proofs.Polls.{placed_polls}
use Rattle.threads_console.proofs.planning.place.Goals as goal

pub returns-clause-polls : goal.returns-clause-polls
returns-clause-polls c = λ polls.
    on_ok_weaker c.push_at.result (λ is. placed_polls (
      c.args.node,
      c.args.turn,
    ) c.args.plans.now.items c.push_at.new.plans.items c.requires is polls) c.push_at.ensures
