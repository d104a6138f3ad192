use Rattle.std.proofs.Common.{◌≡◌, ◌++◌, ◌∷◌, [], List, true, false, Some, None, Bool, sym, ap, ◌∙◌, subst, arith}
use Rattle.wire_msg.specs.Envelope.{Envelope}
use Rattle.message_list.specs.PackedMessages.{MessagesKept}
use Rattle.trace_text.specs.Entries.{message_in, messages_in}
use Rattle.trace_text.specs.Fields.{data_of, plain}
use Rattle.trace_text.specs.Places.{IsRead}
use Rattle.trace_text.proofs.Judged.{message_bad, message_more, messages_begun, messages_done, messages_then}
use Rattle.trace_text.proofs.Plain.{plain_message}
use Rattle.trace_text.proofs.Walks.{item_missing, item_on, items_begun, items_done}
use Rattle.trace_text.proofs.stream.read_messages.Goals as goal

pub messages-init : goal.messages-init
messages-init c = items_begun 122 messages_in _ c.args.reader.now (λ ds. messages_begun ds
    ∙ ap (λ (ms : List Envelope). messages_then true ms ds) (sym (ap (λ (k : MessagesKept). k.messages) c.clear.ensures)))

pub returns-in_err-field-clause-err : goal.returns-in_err-field-clause-err
returns-in_err-field-clause-err c = λ _. item_missing c.take_end_array.new.self c.messages.invariant (grind arith)
    c.in_err-field.ensures.value

pub messages-preserved-then-branch : goal.messages-preserved-then-branch
messages-preserved-then-branch c =
    let l = c.messages in
    let read = c.in_ok-field.ensures in
    let x = data_of c.in_ok-field.field in
    let m = c.read_message.new.message in
    let says : message_in (Some x) ≡ Some m = subst (λ (b : Bool). IsRead b m (message_in (Some x))) c.if-branch.true
    c.in_ok-read_message.ensures in
    let pushed : c.push.new.self.messages ≡ l.sent.messages ++ m ∷ [] =
    ap (λ (k : MessagesKept). k.messages) c.push.ensures ∙ ap (λ (ms : List Envelope). ms ++ m ∷ []) c.in_ok-reserve.ensures.messages in
    item_on c.take_end_array.new.self l.invariant (grind arith) plain (messages_then l.all c.push.new.self.messages) read.value read.shorter
    (λ d ds is. message_more l.all l.sent.messages d m ds (plain_message d x is ∙ says)
    ∙ ap (λ (ms : List Envelope). messages_then l.all ms ds) (sym pushed))

pub messages-preserved : goal.messages-preserved
messages-preserved c =
    let l = c.messages in
    let read = c.in_ok-field.ensures in
    let x = data_of c.in_ok-field.field in
    let says : message_in (Some x) ≡ None = subst (λ (b : Bool). IsRead b c.read_message.new.message (message_in (Some x)))
    c.if-branch.false c.in_ok-read_message.ensures in
    item_on c.take_end_array.new.self l.invariant (grind arith) plain (messages_then false l.sent.messages) read.value read.shorter
    (λ d ds is. message_bad l.all l.sent.messages l.sent.messages d ds (plain_message d x is ∙ says))

pub returns-clause-ok : goal.returns-clause-ok
returns-clause-ok c = let l = c.messages in items_done c.take_end_array.new.self l.invariant (grind arith)
    (messages_done l.all l.sent.messages)
