use Rattle.std.proofs.Common.{subst, List, ℕ}
use Rattle.command_line.specs.Keys.{pair_of}
use Rattle.command_line.specs.LeaseServed.{IsLeaseSealOf}
use Rattle.command_line.proofs.keys.read_lease_seal.Goals as goal

pub returns : goal.returns
returns g c = (
  pair_of c.in-Some.secrets,
  (rw c.in-Some.is at c.in_ok-secrets.ensures),
  subst (λ (name : List ℕ). IsLeaseSealOf (pair_of c.in-Some.secrets) c.args.machines name c.in_ok-lease_seal_by.field-0)
      c.as_bytes.ensures.value c.in_ok-lease_seal_by.ensures,
)
