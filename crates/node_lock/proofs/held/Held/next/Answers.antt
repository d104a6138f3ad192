use Rattle.node_lock.specs.declared.worker.Worker.TheVariants.{Intake, Clock, Operator}
use Rattle.node_lock.proofs.Keeping.{taken_by, unserved_in}
use Rattle.node_lock.proofs.held.Held.next.Goals as goal

pub returns-in-Intake-clause-taken : goal.returns-in-Intake-clause-taken
returns-in-Intake-clause-taken c = taken_by c.args.self.now c.next_intake.new.self Intake c.args.worker c.next_intake.result c.in-Intake.is
    c.next_intake.ensures.taken

pub returns-in-Clock-clause-taken : goal.returns-in-Clock-clause-taken
returns-in-Clock-clause-taken c = taken_by c.args.self.now c.next_clock.new.self Clock c.args.worker c.next_clock.result c.in-Clock.is
    c.next_clock.ensures.taken

pub returns-in-Operator-clause-taken : goal.returns-in-Operator-clause-taken
returns-in-Operator-clause-taken c = taken_by c.args.self.now c.next_operator.new.self Operator c.args.worker c.next_operator.result
    c.in-Operator.is c.next_operator.ensures.taken

pub returns-in-Intake-clause-memory : goal.returns-in-Intake-clause-memory
returns-in-Intake-clause-memory c = unserved_in c.args.self.now c.next_intake.new.self c.next_intake.result c.next_intake.ensures.memory

pub returns-in-Clock-clause-memory : goal.returns-in-Clock-clause-memory
returns-in-Clock-clause-memory c = unserved_in c.args.self.now c.next_clock.new.self c.next_clock.result c.next_clock.ensures.memory

pub returns-in-Operator-clause-memory : goal.returns-in-Operator-clause-memory
returns-in-Operator-clause-memory c = unserved_in c.args.self.now c.next_operator.new.self c.next_operator.result
    c.next_operator.ensures.memory
