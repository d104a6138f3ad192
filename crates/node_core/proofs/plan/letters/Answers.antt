use Rattle.std.proofs.Common.{◌≡◌, ◌<◌, length, arith}
use Rattle.group_task.proofs.PublicLaws.{few_others}
use Rattle.node_core.proofs.Letters.{length_written}
use Rattle.node_core.proofs.plan.letters.Goals as goal

pub returns-clause-few : goal.returns-clause-few
returns-clause-few c =
    let sent : length c.write_to_each.new.messages.items ≡ length c.args.receivers =
    length_written c.args.node_view.now.id c.args.receivers c.args.body.now _ _ c.write_to_each.ensures.value c.in_ok-messages.ensures.empty
    in
    let few : length c.args.receivers < c.args.node_view.now.nodes =
    few_others c.args.node_view.now.nodes c.args.node_view.now.id c.args.receivers c.args.node_view.now.consistent.within
    c.len.ensures.set c.requires.others in
    omega (arith, sent, few)
