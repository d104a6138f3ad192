use Rattle.std.proofs.Common.{◌≡◌, ℕ, List, Option, Some, None, Result, Ok, Err, slice_get, ◌+◌, subst, sym, ap, ◌∙◌, arith}
use Rattle.std.specs.Prelude.{IfSome, OnOk}
use Rattle.wire_msg.specs.Envelope.{Envelope}
use Rattle.wire_msg.specs.Spelling.{spelling, IsMessage, Spells}
use Rattle.trace_check.proofs.KeptEntries.{part_within}
use Rattle.trace_check.proofs.history.Sent.spell.Goals as goal

both : {A E : Type 0} (o : Option Envelope) (r : Result A E) (bytes : List ℕ) → IfSome o (λ m. OnOk r (bytes ≡ spelling m))
    → IfSome o (λ m. OnOk r (IsMessage m)) → IfSome o (λ m. OnOk r (Spells m bytes))
both None r bytes spelled is = spelled
both (Some m) (Ok a) bytes spelled is = record { message = is; spelled = spelled }
both (Some m) (Err e) bytes spelled is = spelled

pub returns-clause-spelled : goal.returns-clause-spelled
returns-clause-spelled c =
    let was = c.self.inside in
    let test = c.if-place-many.false in
    let here : slice_get was.messages.now.messages (was.start + c.args.place) ≡ slice_get c.args.self.now c.args.place =
    sym (part_within was.messages.now.messages was.start was.end c.args.place (omega (arith, test)))
    ∙ ap (λ (ms : List Envelope). slice_get ms c.args.place) c.self.view_is in
    subst (λ (o : Option Envelope). IfSome o (λ m. OnOk c.spell.result (Spells m c.spell.new.bytes.items))) here
    (both _ c.spell.result c.spell.new.bytes.items c.spell.ensures.spelled c.spell.ensures.message)
