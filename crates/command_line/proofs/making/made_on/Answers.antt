use Rattle.std.proofs.Common.{IsOk, refl, subst, sym}
use Rattle.command_line.proofs.Made.{made_behind}
use Rattle.command_line.proofs.making.made_on.Goals as goal

pub returns-in-Ok-clause-made : goal.returns-in-Ok-clause-made
returns-in-Ok-clause-made g c =
    made_behind g.D.SectorDisk.state _ _ _ c.args.jobs.now _ c.label_as.ensures.kept
    (c.format_node.ensures.begun (subst (λ r. IsOk r) (sym c.in-Ok.is) refl))
