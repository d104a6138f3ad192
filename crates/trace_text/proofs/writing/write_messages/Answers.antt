use Rattle.std.proofs.Common.{◌++◌, List, [], ◌∷◌, ℕ, ap, ◌∙◌, arith}
use Rattle.hex.specs.Hex.{encode_lower}
use Rattle.json.specs.Token.{string}
use Rattle.wire_msg.specs.Spelling.{IsMessage, Spells}
use Rattle.trace_text.proofs.Printing.{messages_more, each_more}
use Rattle.trace_text.proofs.Joined.{there}
use Rattle.trace_text.proofs.writing.write_messages.Goals as goal

pub loop-place-preserved : goal.loop-place-preserved
loop-place-preserved c =
    let out = c.loop-place.out.tokens in
    let ms = c.args.messages.now in
    let i = c.loop-place.place in
    let test = c.loop-place-test.true in
    let many = c.len-place-end.ensures in
    let m = there (λ m. Spells m c.spell.new.bytes.items) ms i (omega (arith, test, many)) c.in_ok-spell.ensures.spelled in
    let added = c.in_ok-write_spelled.ensures.tokens ∙ ap (λ (bytes : List ℕ). out ++ string (encode_lower bytes) ∷ [])
    (c.deref.ensures.value ∙ m.2.spelled) in (
      c.in_ok-write_spelled.ensures.before ∙ c.loop-place.invariant.0,
      messages_more out c.write_spelled.new.out.tokens ms i m.0 m.1 added ∙ c.loop-place.invariant.1,
      λ rest. c.loop-place.invariant.2 (each_more IsMessage ms i m.0 m.1 m.2.message rest),
    )
