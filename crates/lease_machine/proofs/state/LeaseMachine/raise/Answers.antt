use Rattle.std.proofs.Common.{◌≡◌, refl, arith}
use Rattle.std.proofs.lemmas.List.Elements.{All-weaker}
use Rattle.lease_machine.specs.Kept.{IsEntry}
use Rattle.lease_machine.specs.Machine.{unknown}
use Rattle.lease_machine.proofs.Keeping.{kept_raised, allowed_before, raised_entry, raised_claim, raises_step}
use Rattle.lease_machine.proofs.state.LeaseMachine.raise.Goals as goal

pub raise_all-requires : goal.raise_all-requires
raise_all-requires c = allowed_before c.args.self.now.kept c.args.bound c.requires

pub invariant_of-self : goal.invariant_of-self
invariant_of-self c =
    let m = c.args.self.now in
    record {
      kept = kept_raised m.kept c.args.bound c.requires _ c.raise_all.ensures.items;
      room = omega (arith, c.raise_all.ensures.capacity, m.room);
    }

pub returns-clause-raises : goal.returns-clause-raises
returns-clause-raises c = λ name now.
    let m = c.args.self.now in
    raises_step name (unknown m) m.names.items _ now m.bound c.args.bound
    (All-weaker (IsEntry m.terms m.process m.claims m.began m.bound) (λ e. e.voter.bound
    ≡ m.bound) (λ e fits. fits.allowed) m.names.items m.kept.entries) refl c.requires
    (raised_entry name m.names.items _ c.args.bound c.raise_all.ensures.items)

pub returns-clause-claims : goal.returns-clause-claims
returns-clause-claims c = λ name. raised_claim name c.args.self.now.names.items _ c.args.bound c.raise_all.ensures.items
