use Rattle.std.proofs.Common.{◌∷◌, ◌++◌, ap, []}
use Rattle.histories.specs.EventOutcomes.{what_of}
use Rattle.node_lock.specs.Events.{EventsKept}
use Rattle.node_lock.specs.Kept.{Log}
use Rattle.node_lock.proofs.Lines.{pushed, turn_by, turns_more, all_stand_more, kept_within}
use Rattle.node_lock.proofs.turn_log.TurnLog.push.Goals as goal

pub returns-clause-turns : goal.returns-clause-turns
returns-clause-turns c =
    let was = c.self.inside in
    let lines = pushed was.lines.items _ was.sent.messages c.args.sent.now _ was.events.events c.args.worker c.args.index c.args.number
    c.args.event_outcome _ _ _ c.push_reserved.ensures.items c.len-place.ensures c.len-start.ensures c.len.ensures
    c.keep_messages.ensures in
    rw (
      lines,
      c.keep_messages.ensures,
      ap (λ (k : EventsKept). k.events) c.push.ensures,
      turns_more was.lines.items was.sent.messages was.events.events c.args.worker c.args.index c.args.number c.args.event.now
          c.args.event_outcome c.args.sent.now c.self.invariant.0,
    )
    (ap (λ (l : Log). l.turns ++ turn_by c.args.worker c.args.index (what_of c.args.event.now c.args.event_outcome) c.args.sent.now ∷ [])
    c.self.view_is)

pub invariant_of-self : goal.invariant_of-self
invariant_of-self c =
    let was = c.self.inside in
    let lines = pushed was.lines.items _ was.sent.messages c.args.sent.now _ was.events.events c.args.worker c.args.index c.args.number
    c.args.event_outcome _ _ _ c.push_reserved.ensures.items c.len-place.ensures c.len-start.ensures c.len.ensures
    c.keep_messages.ensures in
    rw (lines, c.keep_messages.ensures, ap (λ (k : EventsKept). k.events) c.push.ensures) (
      all_stand_more was.lines.items was.sent.messages was.events.events c.args.worker c.args.index c.args.number c.args.event.now
          c.args.event_outcome c.args.sent.now c.self.invariant.0,
      kept_within was.sent.messages c.args.sent.now was.sent.room c.args.self.now.sends c.self.invariant.1 c.requires.sends
          (ap (λ (l : Log). l.sends) c.self.view_is),
    )
