use Rattle.std.proofs.Common.{◌≡◌, drop}
use Rattle.lease_session.specs.Holding.{last_told}
use Rattle.lease_session.proofs.told.last_told.Given as goal

abbrev pub invariant-loop-entry : goal.invariant-loop-entry
invariant-loop-entry l = last_told l.fn.name (drop l.entry-index l.fn.told) ≡ last_told l.fn.name l.fn.told
