use Rattle.std.proofs.Common.{refl, sym, ◌∙◌, ap}
use Rattle.lease_machine.specs.declared.terms.LeaseTerms.{LeaseTerms}
use Rattle.lease_session.proofs.Turns.{quiet_self, quiet_then, stay, then_sent}
use Rattle.lease_session.proofs.process.LeaseProcess.send_to_others.Goals as goal

pub loop-number-init : goal.loop-number-init
loop-number-init c = record { turn = λ now. stay c.args.self.now; quiet = quiet_self c.args.self.now }

pub loop-number-preserved : goal.loop-number-preserved
loop-number-preserved c = record {
  turn = λ now. then_sent (c.loop-number.invariant.turn now) (c.send_to.ensures.turn now);
  quiet = quiet_then c.loop-number.invariant.quiet c.send_to.ensures.quiet;
}

pub send_to-requires : goal.send_to-requires
send_to-requires c = record {
  client = c.requires.client
      ∙ ap (λ (t : LeaseTerms). t.machine) (sym c.loop-number.invariant.quiet.terms);
  body = c.requires.body;
}
