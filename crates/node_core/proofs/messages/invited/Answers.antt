use Rattle.std.proofs.Common.{◌≡◌, ◌+◌, ◌<◌, ◌∷◌, [], suc, length, arith, length-append, ap, ◌∙◌}
use Rattle.group_task.proofs.PublicLaws.{few_others}
use Rattle.node_core.proofs.Letters.{length_with, length_written}
use Rattle.node_core.proofs.messages.invited.Goals as goal

pub write_to_each-requires-clause-room : goal.write_to_each-requires-clause-room
write_to_each-requires-clause-room c =
    let one_more : length c.with_other-with_creator.result ≡ suc (length c.passed_on-members.result) =
    length_with c.passed_on-members.result _ c.creator-creator.result c.args.group.creator c.with_other-with_creator.ensures.value
    c.creator-creator.ensures c.passed_on-members.ensures.absent in
    omega (arith, one_more, c.len.ensures.value, ap length c.in_ok-messages.ensures.empty, c.in_ok-messages.ensures.room)

pub push_reserved-requires : goal.push_reserved-requires
push_reserved-requires c =
    let one_more : length c.with_other-with_creator.result ≡ suc (length c.passed_on-members.result) =
    length_with c.passed_on-members.result _ c.creator-creator.result c.args.group.creator c.with_other-with_creator.ensures.value
    c.creator-creator.ensures c.passed_on-members.ensures.absent in
    omega (
      arith,
      one_more,
      c.len.ensures.value,
      ap length c.in_ok-messages.ensures.empty,
      c.in_ok-messages.ensures.room,
      c.write_to_each.ensures.len,
      c.write_to_each.ensures.capacity,
    )

pub returns-clause-few : goal.returns-clause-few
returns-clause-few c =
    let one_more : length c.with_other-with_creator.result ≡ suc (length c.passed_on-members.result) =
    length_with c.passed_on-members.result _ c.creator-creator.result c.args.group.creator c.with_other-with_creator.ensures.value
    c.creator-creator.ensures c.passed_on-members.ensures.absent in
    let few : length c.with_other-with_creator.result < c.args.node_view.now.nodes =
    few_others c.args.node_view.now.nodes c.args.node_view.now.id c.with_other-with_creator.result c.args.node_view.now.consistent.within
    c.len.ensures.set c.with_other-with_creator.ensures.others in
    let written : length c.write_to_each.new.messages.items ≡ length c.passed_on-members.result =
    length_written c.args.node_view.now.id c.passed_on-members.result _ _ _ c.write_to_each.ensures.value c.in_ok-messages.ensures.empty in
    let sent : length c.push_reserved.new.self.items ≡ length c.write_to_each.new.messages.items + 1 =
    ap length c.push_reserved.ensures.items ∙ length-append c.write_to_each.new.messages.items (c.between.result ∷ []) in
    omega (arith, one_more, few, written, sent)
