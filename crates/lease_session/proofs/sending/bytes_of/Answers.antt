use Rattle.std.proofs.Common.{Option, sym, subst}
use Rattle.lease_session.specs.declared.seals.LeaseSeal.{LeaseSeal}
use Rattle.lease_session.specs.Turns.{Carries, key_of}
use Rattle.lease_session.proofs.sending.bytes_of.Goals as goal

pub returns-in-Ok-clause-bytes : goal.returns-in-Ok-clause-bytes
returns-in-Ok-clause-bytes c = subst (λ (s : Option LeaseSeal). Carries (key_of s) c.seal.new.bytes.items c.args.message.now)
    (sym c.in-Some.is) (
      c.in_ok-bytes.bytes.items,
      record { life = c.args.process; number = c.in-Ok.ensures.sealed.0 },
      c.in_ok-bytes.ensures,
      c.in-Ok.ensures.sealed.1,
    )
