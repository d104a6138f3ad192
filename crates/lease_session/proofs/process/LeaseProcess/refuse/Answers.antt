use Rattle.std.proofs.Common.{refl, ap}
use Rattle.lease_session.specs.declared.process.LeaseProcess.{LeaseProcess}
use Rattle.lease_session.specs.Rows.{refused}
use Rattle.lease_session.specs.Turns.{key_of}
use Rattle.lease_session.proofs.Turns.{fell, written}
use Rattle.lease_session.proofs.process.LeaseProcess.refuse.Goals as goal

pub returns-in-Ok-clause-turn : goal.returns-in-Ok-clause-turn
returns-in-Ok-clause-turn c = λ now. written (refused c.args.why) (record { machine = refl; terms = refl; start = refl; key = refl })
    (λ out. out) (λ none. none) c.in-Ok.ensures refl refl (λ terms at m clock is. tt)

pub returns-in-Ok-clause-still : goal.returns-in-Ok-clause-still
returns-in-Ok-clause-still c = record { machine = refl; terms = refl; start = refl; key = refl; told = refl }

pub returns-in-Ok-clause-says : goal.returns-in-Ok-clause-says
returns-in-Ok-clause-says c = λ none going. (none, c.in-Ok.ensures)

pub returns-in-Err-clause-still : goal.returns-in-Err-clause-still
returns-in-Err-clause-still c = record {
  machine = ap (λ (p : LeaseProcess). p.machine) c.run_out.ensures;
  terms = ap (λ (p : LeaseProcess). p.terms) c.run_out.ensures;
  start = ap (λ (p : LeaseProcess). p.start) c.run_out.ensures;
  key = ap (λ (p : LeaseProcess). key_of p.seal) c.run_out.ensures;
  told = ap (λ (p : LeaseProcess). p.told) c.run_out.ensures;
}

pub returns-in-Err-clause-says : goal.returns-in-Err-clause-says
returns-in-Err-clause-says c = λ none going. absurd (going (ap (λ (p : LeaseProcess). p.halt) c.run_out.ensures))

pub returns-in-Err-clause-turn : goal.returns-in-Err-clause-turn
returns-in-Err-clause-turn c = λ now. fell refl refl refl refl c.run_out.ensures
