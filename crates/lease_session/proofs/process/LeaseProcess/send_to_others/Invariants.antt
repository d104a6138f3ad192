use Rattle.std.proofs.Common.{◌≡◌, ℕ, []}
use Rattle.lease_session.specs.Rows.{said}
use Rattle.lease_session.specs.Turns.{IsQuiet, Turn}
use Rattle.lease_session.proofs.process.LeaseProcess.send_to_others.Given as goal

abbrev pub invariant-loop-number : goal.invariant-loop-number
invariant-loop-number l = record {
  turn : (now : ℕ) → Turn (said l.message) [] now l.initial.self l.self;
  quiet : IsQuiet l.initial.self
      l.self;
}
