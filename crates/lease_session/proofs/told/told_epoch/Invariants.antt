use Rattle.std.proofs.Common.{◌≡◌, drop}
use Rattle.lease_session.specs.Telling.{told_of}
use Rattle.lease_session.proofs.told.told_epoch.Given as goal

abbrev pub invariant-loop-entry : goal.invariant-loop-entry
invariant-loop-entry l = told_of l.fn.name (drop l.entry-index l.fn.told) ≡ told_of l.fn.name l.fn.told
