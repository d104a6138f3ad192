use Rattle.std.proofs.Common.{sym, refl}
use Rattle.node_core.proofs.Limits.{set_known}
use Rattle.node_core.proofs.known.all_known.Goals as goal

pub returns-in-None : goal.returns-in-None
returns-in-None c = sym (set_known c.args.nodes c.args.members (c.in-None.ensures.none.0 refl) c.len.ensures.set)
