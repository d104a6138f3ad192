use Rattle.std.proofs.Common.{inl, inr}
use Rattle.lease_session.proofs.Turns.{stay, then}
use Rattle.lease_session.proofs.participant.Participant.release.Goals as goal

pub returns-then-not-is_claimed_by-clause-releases : goal.returns-then-not-is_claimed_by-clause-releases
returns-then-not-is_claimed_by-clause-releases g c = record {
  kept = c.args.self.now.process;
  by_then = stay c.args.self.now.process;
  done = inr (c.is_claimed_by.ensures.no c.if-not-is_claimed_by.true, c.refuse_user.ensures.says);
}

pub returns-clause-turn : goal.returns-clause-turn
returns-clause-turn g c = then c.stop_wanted.ensures.turn (c.forget.ensures.turn c.args.now)

pub returns-clause-releases : goal.returns-clause-releases
returns-clause-releases g c = record {
  kept = c.args.self.now.process;
  by_then = stay c.args.self.now.process;
  done = inl (c.is_claimed_by.ensures.yes c.if-not-is_claimed_by.false, c.forget.ensures.nobody);
}
