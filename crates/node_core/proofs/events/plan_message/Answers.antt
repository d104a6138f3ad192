use Rattle.node_core.proofs.events.plan_message.Goals as goal

pub returns-in-Invitation-clause-row : goal.returns-in-Invitation-clause-row
returns-in-Invitation-clause-row c = rw c.in-Invitation.is (c.invited.ensures.row c.args.from)

pub returns-in-Done-clause-row : goal.returns-in-Done-clause-row
returns-in-Done-clause-row c = rw c.in-Done.is (c.told_done.ensures.row c.args.from)
