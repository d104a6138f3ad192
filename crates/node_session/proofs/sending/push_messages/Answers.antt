use Rattle.std.proofs.Common.{◌≡◌, ◌<◌, ◌+◌, ◌++◌, ℕ, suc, List, arith, append_assoc, ap, drop, drop-cons, get_or, length, subst, sym, ◌∙◌}
use Rattle.std.specs.Prelude.{All}
use Rattle.std.proofs.lemmas.List.{take_all}
use Rattle.std.proofs.lemmas.List.Elements.{All-more}
use Rattle.wire_msg.specs.Envelope.{Envelope}
use Rattle.wire_msg.specs.Spelling.{IsMessage}
use Rattle.node_session.specs.Text.{send_line, send_lines}
use Rattle.node_session.proofs.sending.push_messages.Goals as goal

line_more : (ms : List Envelope) (i : ℕ) (m : Envelope) (old here new : List ℕ) → i < length ms
    → here ++ send_lines (drop i ms) ≡ old ++ send_lines ms → new ≡ here ++ send_line (get_or ms i m)
    → new ++ send_lines (drop (i + 1) ms) ≡ old ++ send_lines ms
line_more ms i m old here new within is adds =
    let next : i + 1 ≡ suc i = omega arith in
    ap (λ (k : ℕ). new ++ send_lines (drop k ms)) next
    ∙ (ap (λ (t : List ℕ). t ++ send_lines (drop (suc i) ms)) adds
    ∙ (append_assoc here (send_line (get_or ms i m)) (send_lines (drop (suc i) ms))
    ∙ (ap (λ (ns : List Envelope). here ++ send_lines ns) (sym (drop-cons ms i m within)) ∙ is)))

pub loop-message-preserved : goal.loop-message-preserved
loop-message-preserved c =
    let ms = c.args.messages.now in
    let i = c.loop-message.message-index in
    let m = c.message-item.result in
    let within = c.loop-message-test.true in
    let says = c.in_ok-push_message.ensures in
    record {
      text = line_more ms i m c.args.text.now.items c.loop-message.text.items _ within c.loop-message.invariant.text (says.text
          ∙ ap (λ (x : Envelope). c.loop-message.text.items ++ send_line x) c.message-item.is);
      messages = All-more IsMessage ms i m within c.loop-message.invariant.messages (subst IsMessage c.message-item.is says.message);
    }

pub returns-clause-messages : goal.returns-clause-messages
returns-clause-messages c = subst (All IsMessage) (take_all c.loop-message.message-index c.args.messages.now (omega (
  arith,
  c.loop-message-test.false,
))) c.loop-message.invariant.messages
