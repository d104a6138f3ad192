use Rattle.std.proofs.Common.{arith, ap, sym, refl, inl, inr, ◌∙◌}
use Rattle.lease_runs.specs.Code.{client_of}
use Rattle.lease_machine.specs.declared.terms.LeaseTerms.{LeaseTerms}
use Rattle.lease_session.specs.declared.process.LeaseProcess.{LeaseProcess}
use Rattle.lease_message.specs.declared.message.LeaseBody.TheVariants.{Grant, Refusal}
use Rattle.lease_message.specs.declared.message.Reason.TheVariants.{Terms}
use Rattle.lease_session.specs.declared.voting.Answer.{Answer}
use Rattle.lease_session.specs.Turns.{vote_of}
use Rattle.lease_session.proofs.Granting.{right_granted, right_refused}
use Rattle.lease_session.proofs.Turns.{from_same, then, then_too}
use Rattle.lease_session.proofs.Votes.{answered, as_brought, request_said, said_is}
use Rattle.lease_session.proofs.participant.Participant.take_request.Goals.{then-keeps-via-then-keeps, then-keeps-via-else-keeps+then-list}
use Rattle.lease_session.proofs.participant.Participant.take_request.Goals as goal

pub refuse_request-requires : goal.refuse_request-requires
refuse_request-requires g c =
    c.is_for_voter.ensures.voter c.if-not-is_for_voter.false ∙ ap (λ (t : LeaseTerms). t.machine) (sym (c.refuse.ensures.turn 0).terms)

pub returns-then-keeps-clause-turn : goal.returns-then-keeps-clause-turn
returns-then-keeps-clause-turn g c = then (as_brought (c.refuse.ensures.turn c.args.now)) (c.refuse_request.ensures.turn c.args.now)

pub answer-requires : goal.answer-requires
answer-requires g c = (
  c.is_for_voter.ensures.voter c.if-not-is_for_voter.false
      ∙ ap (λ (t : LeaseTerms). t.machine) (sym ((c.vote.ensures.vote 0).turn.terms
      ∙ (c.yield_to.ensures.turn.terms ∙ ap (λ (p : LeaseProcess). p.terms) c.know.ensures.0))),
  refl,
)

pub refuse_request-requires-in-Refused : goal.refuse_request-requires-in-Refused
refuse_request-requires-in-Refused g c = c.is_for_voter.ensures.voter c.if-not-is_for_voter.false
    ∙ ap (λ (t : LeaseTerms). t.machine) (sym ((c.vote.ensures.vote 0).turn.terms
    ∙ (c.yield_to.ensures.turn.terms ∙ ap (λ (p : LeaseProcess). p.terms) c.know.ensures.0)))

pub returns-in-Granted-clause-turn : goal.returns-in-Granted-clause-turn
returns-in-Granted-clause-turn g c =
    let m = c.args.message.now in
    let client = client_of c.client_of.result in
    let voter = c.is_for_voter.ensures.voter c.if-not-is_for_voter.false
    ∙ ap (λ (t : LeaseTerms). t.machine) (sym (c.yield_to.ensures.turn.terms ∙ ap (λ (p : LeaseProcess). p.terms) c.know.ensures.0)) in
    from_same c.know.ensures.0 (then_too (as_brought c.yield_to.ensures.turn)
    (said_is m (request_said m c.args.number c.args.keeps c.args.list c.requires.body client c.client_of.ensures)
    (answered m client c.client_of.ensures voter (ap (λ (a : Answer). vote_of a) c.in-Granted.is) (c.vote.ensures.vote c.args.number)
    (c.answer.ensures.turn c.args.now))))

pub returns-in-Refused-clause-turn : goal.returns-in-Refused-clause-turn
returns-in-Refused-clause-turn g c =
    let m = c.args.message.now in
    let client = client_of c.client_of.result in
    from_same c.know.ensures.0 (then_too (as_brought c.yield_to.ensures.turn)
    (said_is m (request_said m c.args.number c.args.keeps c.args.list c.requires.body client c.client_of.ensures)
    (then (c.vote.ensures.vote c.args.number).turn (c.refuse_request-in-Refused.ensures.turn c.args.now))))

pub returns-then-keeps-clause-replies : goal.returns-then-keeps-clause-replies
returns-then-keeps-clause-replies g c = λ is none. record {
  body = Refusal c.args.number Terms 0;
  answered = c.refuse_request.ensures.replies none;
  reply = refl;
  right = elim c.then-keeps.branch [
    | then-keeps-via-then-keeps w ↦ inl (refl, inl (λ same. grind (arith, same, w.if-keeps, c.keeps.ensures.value)))
    | then-keeps-via-else-keeps+then-list w ↦ inl (refl, inr (λ same. grind (arith, same, w.if-list, w.list.ensures)))
  ];
}

pub returns-in-Granted-clause-replies : goal.returns-in-Granted-clause-replies
returns-in-Granted-clause-replies g c = λ is none. record {
  body = Grant c.args.number;
  answered = c.answer.ensures.replies none;
  reply = refl;
  right = (
    grind (arith, c.if-keeps.false, c.keeps.ensures.value),
    grind (arith, c.if-list.false, c.list.ensures),
    right_granted c.args.now c.vote.new.self.process c.answer.new.self c.args.message.now c.in-Granted.is c.client_of.ensures
        c.answer.ensures.quiet.machine (c.vote.ensures.right ((c.answer.ensures.turn c.args.now).goes_on none)),
  );
}

pub returns-in-Refused-clause-replies : goal.returns-in-Refused-clause-replies
returns-in-Refused-clause-replies g c = λ is none. record {
  body = Refusal c.args.number c.in-Refused.reason c.in-Refused.lasts;
  answered = c.refuse_request-in-Refused.ensures.replies none;
  reply = refl;
  right = inr (
    grind (arith, c.if-keeps.false, c.keeps.ensures.value),
    grind (arith, c.if-list.false, c.list.ensures),
    right_refused c.args.now c.vote.new.self.process c.refuse_request-in-Refused.new.self.process c.args.message.now c.in-Refused.is
        c.client_of.ensures c.refuse_request-in-Refused.ensures.quiet.machine
        (c.vote.ensures.right ((c.refuse_request-in-Refused.ensures.turn c.args.now).goes_on none)),
  );
}
