use Rattle.std.proofs.Common.{[], ◌∷◌, ◌++◌, length, ap}
use Rattle.node_lock.specs.Kept.{Log, what_quiet}
use Rattle.node_lock.proofs.Lines.{turn_by, turns_quiet, all_stand_quiet}
use Rattle.node_lock.proofs.turn_log.TurnLog.push_quiet.Goals as goal

pub returns-clause-turns : goal.returns-clause-turns
returns-clause-turns c =
    let was = c.self.inside in
    rw (
      c.push_reserved.ensures.items,
      turns_quiet was.lines.items was.sent.messages was.events.events c.args.worker c.args.index
          c.args.number c.args.quiet,
    )
    (ap (λ (l : Log). l.turns ++ turn_by c.args.worker c.args.index (what_quiet c.args.quiet) [] ∷ []) c.self.view_is)

pub invariant_of-self : goal.invariant_of-self
invariant_of-self c =
    let was = c.self.inside in
    rw c.push_reserved.ensures.items (
      all_stand_quiet (length was.sent.messages) (length was.events.events) was.lines.items c.args.worker
          c.args.index c.args.number c.args.quiet c.self.invariant.0,
      c.self.invariant.1,
    )
