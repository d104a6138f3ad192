use Rattle.std.proofs.Common.{ℕ, List, [], ◌∷◌, ◌++◌, ◌∙◌, length, ap}
use Rattle.histories.specs.HistoryEvent.{Entry}
use Rattle.histories.specs.EventOutcomes.{what_of}
use Rattle.node_lock.specs.Kept.{Log}
use Rattle.node_lock.specs.Taking.{turn_of}
use Rattle.node_lock.proofs.Keeping.{sent_since}
use Rattle.node_lock.proofs.Losing.{noted_since}
use Rattle.node_lock.proofs.Putting.{ends_same}
use Rattle.node_lock.proofs.turn.Site.hand.Goals as goal

pub returns-clause-taken : goal.returns-clause-taken
returns-clause-taken c =
    let what = what_of c.args.event.now c.in_ok-event_outcome.event_outcome in
    let sent = c.in_ok-event_outcome.sent.items in
    let e : Entry = record { what = what; sent = sent } in
    let old = c.args.self.now in
    let mid = c.make_room.new in (
      e,
      record {
        did = rw c.reuse.ensures c.in_ok-event_outcome.ensures.did;
        id = rw c.reuse.ensures c.in_ok-event_outcome.ensures.id;
        nodes = rw c.reuse.ensures c.in_ok-event_outcome.ensures.nodes;
        sent = sent_since c.in_ok-event_outcome.sent.items c.args.self.now.puts.items c.make_room.new.puts.items c.send_all.new.puts.items
            c.make_room.ensures.same (rw (← c.deref.ensures.value) c.send_all.ensures.sent);
        turns = c.push.ensures.turns ∙ (λ i. (ap (λ (l : Log). l.turns) c.send_all.ensures.history ∙ c.make_room.ensures.turns) i
            ++ turn_of c.args.worker c.args.index (record { what = what; sent = c.deref-2.ensures.value i }) ∷ []);
        -- told by what stood before the room was made
        lost = noted_since (length old.history.turns) sent old.history.lost c.push.new.self.lost old.puts.items mid.puts.items
            c.send_all.new.puts.items c.make_room.ensures.same (rw (
              c.push.ensures.lost,
              ← c.make_room.ensures.lost,
              ← c.make_room.ensures.turns,
              ← c.deref.ensures.value,
            ) c.send_all.ensures.lost);
        number = record {
          number = c.draw-number.result;
          draws = c.draw-number.ensures.draws;
          given = c.push.ensures.numbers
              ∙ ap (λ (ns : List ℕ). ns ++ c.draw-number.result ∷ []) (ap (λ (l : Log). l.numbers) c.send_all.ensures.history
              ∙ c.make_room.ensures.numbers);
        };
        area = rw c.reuse.ensures c.in_ok-event_outcome.ensures.area;
      },
    )

pub send_all-requires-clause-ends : goal.send_all-requires-clause-ends
send_all-requires-clause-ends c = (
  c.args.self.now.node.id,
  ends_same c.args.self.now.node.id c.args.self.now.puts.items c.make_room.new.puts.items c.requires.1 c.make_room.ensures.same,
)
