use Rattle.processes.proofs.Answers.{accepted_is_kept}
use Rattle.processes.proofs.Clusters.{are_a_cluster}
use Rattle.processes.proofs.Printed.{number_names_leader, one_coordinator_each, one_leader_each, one_line_each}
use Rattle.processes.proofs.Refused.{refused_changes_nothing}
use Rattle.processes.proofs.Told.{accepted_is_answered, accepted_is_told}
use Rattle.processes.proofs.laws.processes_are_a_cluster.Goals as goal

pub returns-clause-cluster : goal.returns-clause-cluster
returns-clause-cluster c = are_a_cluster c.one_history.ensures

pub returns-clause-leader : goal.returns-clause-leader
returns-clause-leader c = number_names_leader c.one_history.ensures

pub returns-clause-coordinator : goal.returns-clause-coordinator
returns-clause-coordinator c = one_coordinator_each c.one_history.ensures

pub returns-clause-leads : goal.returns-clause-leads
returns-clause-leads c = one_leader_each c.one_history.ensures

pub returns-clause-line : goal.returns-clause-line
returns-clause-line c = one_line_each c.one_history.ensures

pub returns-clause-kept : goal.returns-clause-kept
returns-clause-kept c = accepted_is_kept c.one_history.ensures

pub returns-clause-told : goal.returns-clause-told
returns-clause-told c = accepted_is_told c.one_history.ensures

pub returns-clause-answered : goal.returns-clause-answered
returns-clause-answered c = accepted_is_answered

pub returns-clause-refused : goal.returns-clause-refused
returns-clause-refused c = refused_changes_nothing
