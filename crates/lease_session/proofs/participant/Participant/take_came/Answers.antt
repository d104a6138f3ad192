use Rattle.std.proofs.Common.{subst, sym, ◌∙◌}
use Rattle.lease_machine.specs.declared.terms.LeaseTerms.{LeaseTerms}
use Rattle.lease_session.specs.declared.asked.Came.{Came}
use Rattle.lease_session.specs.Replies.{AsksTo, Replies, RepliesTo}
use Rattle.lease_session.proofs.Turns.{then, then_too}
use Rattle.lease_session.proofs.Votes.{as_brought, asks_behind, brought_is, releases_behind}
use Rattle.lease_session.proofs.participant.Participant.take_came.Goals as goal

pub returns-in-Nothing-clause-turn : goal.returns-in-Nothing-clause-turn
returns-in-Nothing-clause-turn g c =
    brought_is c.args.came c.in-Nothing.is (then c.begin_where_due.ensures.turn c.serve_due.ensures.turn)

pub returns-in-Message-clause-turn : goal.returns-in-Message-clause-turn
returns-in-Message-clause-turn g c =
    brought_is c.args.came c.in-Message.is (then_too (then (as_brought c.begin_where_due.ensures.turn) c.serve_due.ensures.turn)
    c.take.ensures.turn)

pub returns-in-Unsealed-clause-turn : goal.returns-in-Unsealed-clause-turn
returns-in-Unsealed-clause-turn g c =
    brought_is c.args.came c.in-Unsealed.is (then (then c.begin_where_due.ensures.turn c.serve_due.ensures.turn)
    (c.refuse.ensures.turn c.args.now))

pub returns-in-Acquire-clause-turn : goal.returns-in-Acquire-clause-turn
returns-in-Acquire-clause-turn g c =
    brought_is c.args.came c.in-Acquire.is (then (then c.begin_where_due.ensures.turn c.serve_due.ensures.turn) c.acquire.ensures.turn)

pub returns-in-Release-clause-turn : goal.returns-in-Release-clause-turn
returns-in-Release-clause-turn g c =
    brought_is c.args.came c.in-Release.is (then (then c.begin_where_due.ensures.turn c.serve_due.ensures.turn) c.release.ensures.turn)

pub returns-in-Message-clause-replies : goal.returns-in-Message-clause-replies
returns-in-Message-clause-replies g c =
    let p = c.take.new.self.process in
    subst (λ (it : Came). RepliesTo c.args.self.now.process.terms c.args.now it p) (sym c.in-Message.is)
    (subst (λ (t : LeaseTerms). Replies t c.args.now c.in-Message.message p) (c.serve_due.ensures.turn.terms
    ∙ c.begin_where_due.ensures.turn.terms) c.take.ensures.replies)

pub returns-in-Acquire-clause-asks : goal.returns-in-Acquire-clause-asks
returns-in-Acquire-clause-asks g c =
    subst (λ (it : Came). AsksTo it c.args.now c.args.self.now.process c.acquire.new.self.process) (sym c.in-Acquire.is)
    (asks_behind (then c.begin_where_due.ensures.turn c.serve_due.ensures.turn) c.acquire.ensures.asks)

pub returns-in-Release-clause-asks : goal.returns-in-Release-clause-asks
returns-in-Release-clause-asks g c =
    subst (λ (it : Came). AsksTo it c.args.now c.args.self.now.process c.release.new.self.process) (sym c.in-Release.is)
    (releases_behind (then c.begin_where_due.ensures.turn c.serve_due.ensures.turn) c.release.ensures.releases)
