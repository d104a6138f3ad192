use Rattle.std.proofs.Common.{◌≡◌, ◌≤◌, false, get_or}
use Rattle.lease_runs.specs.Lists.{count}
use Rattle.lease_runs.proofs.candidate.LeaseCandidate.is_most.Given as goal

abbrev pub invariant-loop-voter : goal.invariant-loop-voter
invariant-loop-voter l = record {
  counted : l.count ≡ count (λ voter. get_or l.fn.self.votes voter false) l.voter;
  few : l.count ≤ l.voter;
}
