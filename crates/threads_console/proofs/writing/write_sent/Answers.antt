use Rattle.std.proofs.Common.{arith, ◌∙◌}
use Rattle.threads_console.proofs.Texts.{message_more}
use Rattle.threads_console.proofs.writing.write_sent.Goals as goal

pub loop-place-preserved : goal.loop-place-preserved
loop-place-preserved c =
    let added = c.in_ok-write_spelled.ensures in
    let more = message_more c.loop-place.out.tokens c.write_spelled.new.out.tokens c.deref.result.now c.spell.new.bytes.items
    c.args.messages.now c.loop-place.place (omega (
      arith,
      c.loop-place-test.true,
      c.len-place-end.ensures,
    )) c.in_ok-spell.ensures.spelled (search) added.tokens in
    (added.before ∙ c.loop-place.invariant.0, more ∙ c.loop-place.invariant.1)
