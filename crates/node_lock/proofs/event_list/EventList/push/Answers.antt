use Rattle.std.proofs.Common.{[], ◌∷◌, ◌++◌, refl, ap, ◌∙◌, arith}
use Rattle.trace_check.specs.declared.kept.PackedEvent.{PackedEvent}
use Rattle.node_lock.proofs.Events.{events_more, all_read_more}
use Rattle.node_lock.proofs.event_list.EventList.push.Goals as goal

pub invariant_of-self : goal.invariant_of-self
invariant_of-self c =
    let was = c.self.inside in
    let kept = c.keep_event-kept.ensures in
    let events = c.push_reserved.ensures.items ∙ ap (λ (k : PackedEvent). was.kept.items ++ k ∷ []) kept.value in
    record {
      read = rw (events, kept.messages, kept.payloads) (all_read_more was.kept.items was.messages.messages was.payloads.items
          c.args.event.now kept.few c.self.invariant.read);
      events = omega (arith, c.self.invariant.events, c.push_reserved.ensures.len, c.push_reserved.ensures.capacity, c.requires);
      messages = omega (arith, c.self.invariant.messages, kept.left, c.requires);
      payloads = omega (arith, c.self.invariant.payloads, kept.long, kept.capacity, c.requires);
    }

pub returns : goal.returns
returns c =
    let was = c.self.inside in
    let kept = c.keep_event-kept.ensures in
    let events = c.push_reserved.ensures.items ∙ ap (λ (k : PackedEvent). was.kept.items ++ k ∷ []) kept.value in
    rw (
      events,
      kept.messages,
      kept.payloads,
      events_more was.kept.items was.messages.messages was.payloads.items c.args.event.now
          c.self.invariant.read,
      ← c.self.view_is,
    ) refl
