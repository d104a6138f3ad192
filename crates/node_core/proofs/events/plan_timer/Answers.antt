use Rattle.node_core.proofs.events.plan_timer.Goals as goal

pub returns-in-Check-clause-row : goal.returns-in-Check-clause-row
returns-in-Check-clause-row c = rw c.in-Check.is (c.check_timer.ensures.row c.args.table.now.pending)

pub returns-in-Merge-clause-row : goal.returns-in-Merge-clause-row
returns-in-Merge-clause-row c = rw c.in-Merge.is (c.merge_timer.ensures.row c.args.table.now.pending)

pub returns-in-Accept-clause-row : goal.returns-in-Accept-clause-row
returns-in-Accept-clause-row c = rw c.in-Accept.is (c.accept_timer.ensures.row c.args.table.now.pending)

pub returns-in-Ready-clause-row : goal.returns-in-Ready-clause-row
returns-in-Ready-clause-row c = rw c.in-Ready.is (c.ready_timer.ensures.row c.args.table.now.pending)

pub returns-in-Coord-clause-row : goal.returns-in-Coord-clause-row
returns-in-Coord-clause-row c = rw c.in-Coord.is (c.coord_timer.ensures.row c.args.table.now.pending)
