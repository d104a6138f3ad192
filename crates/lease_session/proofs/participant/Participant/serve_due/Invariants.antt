use Rattle.std.proofs.Common.{◌≡◌, []}
use Rattle.lease_session.specs.Turns.{Turn}
use Rattle.lease_session.proofs.participant.Participant.serve_due.Given as goal

abbrev pub invariant-loop-place : goal.invariant-loop-place
invariant-loop-place g l = record {
  turn : Turn [] [] l.now l.initial.self.process l.self.process;
  told : l.self.told
      ≡ l.initial.self.told;
}
