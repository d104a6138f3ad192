use Rattle.std.proofs.Common.{refl}
use Rattle.node_lock.proofs.Once.{sends_few}
use Rattle.node_lock.proofs.Wearing.{event_area}
use Rattle.node_lock.proofs.perform.perform.Goals as goal

pub returns-in-Ok-clause-did : goal.returns-in-Ok-clause-did
returns-in-Ok-clause-did c =
    let old = c.args.node.now in
    let left = c.step.new.self in
    record {
      came = c.in-Ok.came;
      left = left;
      steps = c.in-Ok.ensures.step;
      answers = rw c.in-Ok.is at c.step.ensures.answers;
      counts = rw c.in-Ok.is at c.step.ensures.counts;
      area = rw c.in-Ok.is at c.step.ensures.area;
      mounting = λ down is. rw c.in-Ok.is at (c.step.ensures.mounting down is);
      kept = λ down is. rw c.in-Ok.is at (c.step.ensures.mounted down is).0;
      reads = λ down is. rw c.in-Ok.is at (c.step.ensures.mounted down is).1;
      few = c.in-Ok.ensures.few;
      forgot = c.forget.ensures.forgot;
      written = refl;
      is_sent = refl;
    }

pub returns-in-Ok-clause-each : goal.returns-in-Ok-clause-each
returns-in-Ok-clause-each c = sends_few _ c.forget.new.self c.args.event.now c.in-Ok.came.event_outcome c.in-Ok.came.sent.items
    c.requires.stands (returns-in-Ok-clause-did c) c.in-Ok.ensures.few c.note_sets.ensures c.note_task.ensures

pub returns-in-Ok-clause-area : goal.returns-in-Ok-clause-area
returns-in-Ok-clause-area c = event_area _ c.forget.new.self c.args.event.now _ c.in-Ok.came.sent.items (returns-in-Ok-clause-did c)
    (record {
      fallen = c.is_fallen.ensures;
      up = c.shows_its_disk.ensures.up;
      number = λ disk area on at. c.shows_its_disk.ensures.number disk area on at refl;
      ids = c.note_ids.ensures;
    }) c.requires.stands
