use Rattle.std.proofs.Common.{◌≡◌, refl, sym, ap, ◌∙◌, arith}
use Rattle.wire_msg.specs.Envelope.{Envelope}
use Rattle.message_list.specs.Lent.{message_opened, shape_opened}
use Rattle.message_list.specs.PackedMessages.{letter_of}
use Rattle.message_list.proofs.PackedMessages.{added, lent_shape}
use Rattle.message_list.proofs.list.MessageList.push_lent.Goals as goal

pub invariant_of-self : goal.invariant_of-self
invariant_of-self c =
    let was = c.self.inside in
    let lent = c.opened-lent.result in
    let is : c.args.message.now ≡ message_opened lent = cc (c.message.view_is, c.opened-lent.ensures.message) in
    let now = added was.letters.items _ was.tasks.items _ was.works.items _ was.payloads.items _ c.args.message.now
    c.lent_letter_of-packed_message.result (shape_opened lent)
    _ _ _ (c.len.ensures ∙ was.tasks.ok.0) (c.len-2.ensures ∙ was.works.ok.0) (c.len-3.ensures ∙ was.payloads.ok.0)
    (lent_shape lent c.opened-lent.ensures.opened c.args.message.now is)
    (c.lent_letter_of-packed_message.ensures.value ∙ ap (λ (e : Envelope). letter_of c.len.result c.len-2.result e) (sym is))
    c.push_reserved.ensures.items c.keep_lent_task.ensures.tasks c.keep_lent_work.ensures.works c.keep_lent_payload.ensures.payloads
    c.lent_letter_of-packed_message.ensures.can_be_read c.keep_lent_payload.ensures.fits c.self.invariant.read in
    record {
      read = now.0;
      letters = omega (
        arith,
        c.self.invariant.room,
        c.self.invariant.letters,
        c.push_reserved.ensures.len,
        c.push_reserved.ensures.capacity,
        c.requires,
      );
      tasks = omega (
        arith,
        c.self.invariant.room,
        c.self.invariant.tasks,
        c.keep_lent_task.ensures.few,
        c.keep_lent_task.ensures.room,
        c.requires,
      );
      works = omega (
        arith,
        c.self.invariant.room,
        c.self.invariant.works,
        c.keep_lent_work.ensures.few,
        c.keep_lent_work.ensures.room,
        c.requires,
      );
      payloads = omega (
        arith,
        c.self.invariant.payloads,
        c.self.invariant.room,
        c.keep_lent_payload.ensures.few,
        c.keep_lent_payload.ensures.room,
        c.requires,
      );
      room = omega (arith, c.self.invariant.room, c.requires);
    }

pub returns : goal.returns
returns c =
    let was = c.self.inside in
    let lent = c.opened-lent.result in
    let is : c.args.message.now ≡ message_opened lent = cc (c.message.view_is, c.opened-lent.ensures.message) in
    let now = added was.letters.items _ was.tasks.items _ was.works.items _ was.payloads.items _ c.args.message.now
    c.lent_letter_of-packed_message.result (shape_opened lent)
    _ _ _ (c.len.ensures ∙ was.tasks.ok.0) (c.len-2.ensures ∙ was.works.ok.0) (c.len-3.ensures ∙ was.payloads.ok.0)
    (lent_shape lent c.opened-lent.ensures.opened c.args.message.now is)
    (c.lent_letter_of-packed_message.ensures.value ∙ ap (λ (e : Envelope). letter_of c.len.result c.len-2.result e) (sym is))
    c.push_reserved.ensures.items c.keep_lent_task.ensures.tasks c.keep_lent_work.ensures.works c.keep_lent_payload.ensures.payloads
    c.lent_letter_of-packed_message.ensures.can_be_read c.keep_lent_payload.ensures.fits c.self.invariant.read in
    rw (now.1, ← c.self.view_is) refl
