use Rattle.std.proofs.Common.{List, slice_get, sym, ap, ◌∙◌, arith}
use Rattle.wire_msg.specs.Envelope.{Envelope}
use Rattle.trace_check.proofs.KeptEntries.{part_within, part_past}
use Rattle.trace_check.proofs.history.Sent.get.Goals as goal

pub returns-then-place-self : goal.returns-then-place-self
returns-then-place-self c =
    let was = c.self.inside in
    let test = c.if-place-self.true in
    c.get.ensures ∙ sym (part_within was.messages.now.messages was.start was.end c.args.place (omega (arith, test)))
    ∙ ap (λ (ms : List Envelope). slice_get ms c.args.place) c.self.view_is

pub returns-else-place-self : goal.returns-else-place-self
returns-else-place-self c =
    let was = c.self.inside in
    let test = c.if-place-self.false in
    sym (ap (λ (ms : List Envelope). slice_get ms c.args.place) (sym c.self.view_is)
    ∙ part_past was.messages.now.messages was.start was.end c.args.place (omega (arith, test)))
