use Rattle.std.proofs.Common.{◌≡◌, ◌++◌, take}
use Rattle.node_core.proofs.hand.Hand.append.Given as goal

abbrev pub invariant-loop-job : goal.invariant-loop-job
invariant-loop-job l = record {
  jobs : l.self.jobs ≡ l.fn.self.jobs ++ take l.job-index l.fn.jobs.items;
  room : l.self.room ≡ l.fn.self.room;
}
