use Rattle.std.proofs.Common.{ap, ◌∙◌, List, ℕ}
use Rattle.command_line.specs.Keys.{pair_of}
use Rattle.command_line.specs.Served.{seals_by}
use Rattle.command_line.proofs.keys.read_seal.Goals as goal

pub returns : goal.returns
returns g c = (
  pair_of c.in-Some.secrets,
  (rw c.in-Some.is at c.in_ok-secrets.ensures),
  c.in_ok-seal_by.ensures ∙ ap (λ (name : List ℕ). seals_by (pair_of c.in-Some.secrets) c.args.nodes name c.args.keys.life.now)
      c.as_bytes.ensures.value,
)
