use Rattle.std.proofs.Common.{ap, ◌∙◌, List, ℕ}
use Rattle.lease_session.specs.Key.{lease_key}
use Rattle.command_line.proofs.Texts.{mapped_twice}
use Rattle.command_line.proofs.keys.lease_seal_by.Goals as goal

pub returns : goal.returns
returns c = (
  c.new.ensures.0 ∙ (c.in_ok-own.ensures ∙ ap (λ (secret : List ℕ). lease_key secret c.args.machines c.args.cluster.now)
      c.deref.ensures.value),
  c.new.ensures.1 ∙ (c.in_ok-other.ensures ∙ mapped_twice c.args.secrets.now.other (λ other. other.items) (λ secret.
      lease_key secret c.args.machines c.args.cluster.now)),
)
