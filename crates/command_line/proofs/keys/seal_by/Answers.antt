use Rattle.std.proofs.Common.{ap, ◌∙◌, List, ℕ, Option}
use Rattle.sealed_msg.specs.Cluster.{cluster_key}
use Rattle.node_session.specs.Seals.{new_seals}
use Rattle.command_line.proofs.Texts.{mapped_twice}
use Rattle.command_line.proofs.keys.seal_by.Goals as goal

pub returns : goal.returns
returns c =
    c.in_ok-new.ensures
    ∙ (ap (λ (own : List ℕ). new_seals own c.in_ok-other.other c.args.life.now) (c.in_ok-own.ensures
    ∙ ap (λ (secret : List ℕ). cluster_key secret c.args.nodes c.args.cluster.now) c.deref.ensures.value)
    ∙ ap (λ (other : Option (List ℕ)). new_seals (cluster_key c.args.secrets.now.own.items c.args.nodes c.args.cluster.now) other
    c.args.life.now)
    (c.in_ok-other.ensures ∙ mapped_twice c.args.secrets.now.other (λ other. other.items) (λ secret.
    cluster_key secret c.args.nodes c.args.cluster.now)))
