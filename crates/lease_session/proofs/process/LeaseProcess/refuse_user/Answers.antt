use Rattle.std.proofs.Common.{refl}
use Rattle.lease_session.specs.Rows.{unserved}
use Rattle.lease_session.proofs.Turns.{fell, written}
use Rattle.lease_session.proofs.process.LeaseProcess.refuse_user.Goals as goal

pub returns-in-Ok-clause-turn : goal.returns-in-Ok-clause-turn
returns-in-Ok-clause-turn c = λ now.
    written (unserved c.args.why c.args.name.now c.args.user) (record { machine = refl; terms = refl; start = refl; key = refl })
    (λ out. out) (λ none. none) c.in-Ok.ensures refl refl (λ terms at m clock is. tt)

pub returns-in-Ok-clause-says : goal.returns-in-Ok-clause-says
returns-in-Ok-clause-says c = λ none. record { before = c.args.self.now.text.items; ends = c.in-Ok.ensures }

pub returns-in-Err-clause-turn : goal.returns-in-Err-clause-turn
returns-in-Err-clause-turn c = λ now. fell refl refl refl refl c.run_out.ensures
