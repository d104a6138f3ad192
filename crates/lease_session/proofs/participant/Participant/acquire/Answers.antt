use Rattle.std.proofs.Common.{◌≡◌, ◌∙◌, sym, ap, inr, rules, None, Some, IsOk}
use Rattle.lease_session.specs.declared.process.LeaseProcess.{LeaseProcess}
use Rattle.lease_session.specs.declared.refusing.Halt.TheVariants.{NoMemory}
use Rattle.lease_session.specs.declared.refusing.Refusal.TheVariants as why
use Rattle.lease_session.proofs.Turns.{ran_out, stay, then}
use Rattle.lease_session.proofs.Votes.{asked_free}
use Rattle.lease_session.proofs.participant.Participant.acquire.Goals as goal

pub returns-in-Err-clause-turn : goal.returns-in-Err-clause-turn
returns-in-Err-clause-turn g c = then c.claim.ensures.turn (c.refuse_user.ensures.turn c.args.now)

pub returns-in-Err-clause-asks : goal.returns-in-Err-clause-asks
returns-in-Err-clause-asks g c =
    inr (record {
      kept = c.args.self.now.process;
      by_then = stay c.args.self.now.process;
      reason = c.in-Err.why;
      right =
          c.in-Err.ensures.refused;
      told = c.refuse_user.ensures.says;
    })

pub returns-then-is_err-clause-turn : goal.returns-then-is_err-clause-turn
returns-then-is_err-clause-turn g c = then (then c.claim.ensures.turn c.ask_or_tell.ensures.turn) (ran_out c.run_out.ensures)

pub returns-else-is_err-clause-turn : goal.returns-else-is_err-clause-turn
returns-else-is_err-clause-turn g c = then c.claim.ensures.turn c.ask_or_tell.ensures.turn

pub returns-else-is_err-clause-asks : goal.returns-else-is_err-clause-asks
returns-else-is_err-clause-asks g c =
    let ok : IsOk c.claim.result = search rules in
    asked_free c.new-want.ensures.0 c.new-want.ensures.1 (c.claim.ensures.free ok) c.claim.ensures.turn c.ask_or_tell.ensures.asks

pub returns-then-is_err-clause-asks : goal.returns-then-is_err-clause-asks
returns-then-is_err-clause-asks g c = inr (record {
  kept = c.args.self.now.process;
  by_then = stay c.args.self.now.process;
  reason = why.Exhausted;
  right = tt;
  told = λ none. absurd (let bad : None ≡ Some NoMemory = sym none ∙ ap (λ (p : LeaseProcess). p.halt) c.run_out.ensures in cc);
})
