use Rattle.std.proofs.Common.{◌≡◌, ◌+◌, ◌≤◌, ℕ, List, [], ◌∷◌, ◌++◌, length, drop, slice_index_or, ap, sym, ◌∙◌, subst, arith}
use Rattle.std.specs.Prelude.{if◌then◌else◌}
use Rattle.node_lock.specs.declared.turn_log.Loss.{Loss}
use Rattle.node_lock.specs.Kept.{Log}
use Rattle.node_lock.specs.Sending.{addressed_to}
use Rattle.node_lock.proofs.Carried.{rest_split, sent_on_more}
use Rattle.node_lock.proofs.Losing.{noted_next}
use Rattle.node_lock.proofs.links.send_all.Goals as goal

pub loop-place-preserved : goal.loop-place-preserved
loop-place-preserved c =
    let sent = c.args.sent.now in
    let i = c.loop-place.place in
    let m = c.index-sent-place.result in
    let old = c.args.puts.now.items in
    let mid = c.loop-place.puts.items in
    let new = c.send-went.new.puts.items in
    let before = c.loop-place.invariant in
    let was : Log = c.args.history.now in
    let log : Log = c.loop-place.history in
    let noted = c.note.ensures.lost in
    let turns : length log.turns ≡ length was.turns = ap (λ (l : Log). length l.turns) before.history in
    record {
      history = noted ∙ ap (λ (ls : List Loss). record log { losses = c.note.new.history.losses; lost = ls })
          (sym (ap (λ (l : Log). l.lost) noted)) ∙ ap (λ (l : Log). record l {
            losses = c.note.new.history.losses;
            lost = c.note.new.history.lost;
          }) before.history;
      losses = (let spent = c.note.ensures.room in omega (arith, spent, before.losses));
      lost = noted_next (length was.turns) sent i m c.send-went.result was.lost log.lost c.note.new.history.lost old mid new
          c.loop-place-test.true c.index-sent-place.is before.sent before.lost c.send-went.ensures.went
          (ap (λ (l : Log). l.lost) noted ∙ ap (λ (n : ℕ). log.lost
          ++ (if c.send-went.result then [] else record { turn = n; message = i } ∷ [])) turns);
      sent = sent_on_more sent i m old mid new c.loop-place-test.true c.index-sent-place.is before.sent c.send-went.ensures.sent;
      room = λ k d lt.
          let len = before.sent.len in
          let to : ℕ = (slice_index_or old k d).receiver in
          let same : (slice_index_or mid k d).receiver ≡ to = (before.sent.each k d lt).same.receiver in
          let all = before.room k d lt in
          let parts = rest_split to sent i m c.loop-place-test.true c.index-sent-place.is in
          let spent : (slice_index_or mid k d).room ≤ (slice_index_or new k d).room + length (addressed_to to (m ∷ [])) =
          subst (λ (j : ℕ). (slice_index_or mid k d).room ≤ (slice_index_or new k d).room + length (addressed_to j (m ∷ []))) same
          (c.send-went.ensures.room k d (omega (arith, lt, len))) in
          let left : length (addressed_to to (drop (i + 1) sent)) ≤ (slice_index_or new k d).room = omega (arith, all, parts, spent) in
          left;
    }
