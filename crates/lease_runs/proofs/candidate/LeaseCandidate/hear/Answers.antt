use Rattle.std.proofs.Common.{refl, sym, ◌∙◌, ap, true, false, slice_set, arith}
use Rattle.lease_runs.specs.CandidateCode.{takes}
use Rattle.lease_runs.proofs.Voting.{heard}
use Rattle.lease_runs.proofs.candidate.LeaseCandidate.hear.Goals as goal

pub returns-then-is_taken-clause-hears : goal.returns-then-is_taken-clause-hears
returns-then-is_taken-clause-hears c =
    heard c.args.self.now _ c.args.now c.args.voter c.args.number c.in-Some.request true c.requires (grind arith) c.in-Some.is
    c.if-request-number.false
    (ap (λ k. takes c.args.self.now c.args.now (slice_set c.args.self.now.votes k true) c.in-Some.request) (sym c.from.ensures)
    ∙ (sym c.is_taken.ensures ∙ c.if-is_taken.true))
    refl refl refl refl refl (ap (λ k. slice_set c.args.self.now.votes k true) c.from.ensures) refl

pub returns-else-is_taken-clause-hears : goal.returns-else-is_taken-clause-hears
returns-else-is_taken-clause-hears c =
    heard c.args.self.now _ c.args.now c.args.voter c.args.number c.in-Some.request false c.requires (grind arith) c.in-Some.is
    c.if-request-number.false
    (ap (λ k. takes c.args.self.now c.args.now (slice_set c.args.self.now.votes k true) c.in-Some.request) (sym c.from.ensures)
    ∙ (sym c.is_taken.ensures ∙ c.if-is_taken.false))
    refl refl refl refl refl (ap (λ k. slice_set c.args.self.now.votes k true) c.from.ensures) refl
