use Rattle.std.proofs.Common.{◌∙◌, ap, sym}
use Rattle.lease_runs.specs.Voter.{Client}
use Rattle.lease_machine.specs.declared.terms.LeaseTerms.{LeaseTerms}
use Rattle.lease_session.proofs.Calls.{client_of_machine, gave_up_told}
use Rattle.lease_session.proofs.Bounds.{bound_quiet, bound_then}
use Rattle.lease_session.proofs.process.LeaseProcess.give_up.Goals as goal

pub returns-clause-turn : goal.returns-clause-turn
returns-clause-turn c = λ now. gave_up_told c.in-Some-named.ensures
    (c.give_up_told.ensures.gave c.in-Some.gives_up c.in-Some.ensures.some now) (c.take_release.ensures.turn now)
    (c.send_to_others.ensures.turn now)

pub send_to_others-requires-clause-client : goal.send_to_others-requires-clause-client
send_to_others-requires-clause-client c =
    ap (λ (k : Client). k.machine) c.in-Some-named.ensures
    ∙ (client_of_machine c.args.self.now c.args.name.now c.in-Some.ensures.some
    ∙ ap (λ (t : LeaseTerms). t.machine) (sym ((c.take_release.ensures.turn 0).terms ∙ c.give_up_told.ensures.terms)))

pub returns-clause-bound : goal.returns-clause-bound
returns-clause-bound c = bound_then c.give_up_told.ensures.bound
    (bound_then c.take_release.ensures.bound (bound_quiet c.send_to_others.ensures.quiet))
