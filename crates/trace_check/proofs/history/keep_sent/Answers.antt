use Rattle.std.proofs.Common.{◌≡◌, ◌+◌, ◌<◌, ◌++◌, ◌∷◌, [], List, length, take, slice_get, Some, sym, ap, ◌∙◌, arith}
use Rattle.std.proofs.lemmas.List.{append_assoc, take_more}
use Rattle.std.proofs.lemmas.Option.{get_or_from_slice_get, slice_get_within}
use Rattle.wire_msg.specs.Envelope.{Envelope}
use Rattle.message_list.specs.PackedMessages.{MessagesKept}
use Rattle.trace_check.proofs.history.keep_sent.Goals as goal

pub loop-place-preserved : goal.loop-place-preserved
loop-place-preserved c =
    let l = c.loop-place in
    let sent = c.args.sent.now in
    let m = c.in-Some.message in
    let at : slice_get sent l.place ≡ Some m = sym c.in-Some.ensures in
    let within : l.place < length sent = slice_get_within sent l.place m at in
    let one : take (l.place + 1) sent ≡ take l.place sent ++ m ∷ [] =
    take_more sent l.place m within ∙ ap (λ (y : Envelope). take l.place sent ++ y ∷ []) (get_or_from_slice_get sent l.place m m at) in
    let old = c.args.messages.now.messages in
    let room = l.invariant.1 in (
      ap (λ (k : MessagesKept). k.messages) c.push_lent.ensures ∙ ap (λ (ms : List Envelope). ms ++ m ∷ []) l.invariant.0
          ∙ append_assoc old (take l.place sent) (m ∷ []) ∙ ap (λ (ms : List Envelope). old ++ ms) (sym one),
      omega (arith, ap (λ (k : MessagesKept). k.room) c.push_lent.ensures, room, within),
    )
