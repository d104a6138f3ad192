use Rattle.cluster_sim.proofs.member.operate.Goals as goal

pub returns-in-Arm-clause-came : goal.returns-in-Arm-clause-came
returns-in-Arm-clause-came c = rw c.in-Arm.is (λ slots s stands. c.arm.ensures.came slots _ s stands)

pub returns-in-Crash-clause-came : goal.returns-in-Crash-clause-came
returns-in-Crash-clause-came c = rw c.in-Crash.is (λ slots s stands. c.crash.ensures.came slots _ s stands)

pub returns-in-Crash-clause-disk : goal.returns-in-Crash-clause-disk
returns-in-Crash-clause-disk c = rw c.in-Crash.is c.crash.ensures.left

pub returns-in-Compact-clause-came : goal.returns-in-Compact-clause-came
returns-in-Compact-clause-came c = rw c.in-Compact.is (λ slots s stands. c.compact.ensures.came slots _ s stands)

pub returns-in-Compact-clause-disk : goal.returns-in-Compact-clause-disk
returns-in-Compact-clause-disk c = rw c.in-Compact.is c.compact.ensures.compacted

pub returns-in-Arm-clause-counted : goal.returns-in-Arm-clause-counted
returns-in-Arm-clause-counted c = rw c.in-Arm.is c.arm.ensures.counted

pub returns-in-Crash-clause-counted : goal.returns-in-Crash-clause-counted
returns-in-Crash-clause-counted c = rw c.in-Crash.is c.crash.ensures.counted

pub returns-in-Compact-clause-counted : goal.returns-in-Compact-clause-counted
returns-in-Compact-clause-counted c = rw c.in-Compact.is c.compact.ensures.counted
