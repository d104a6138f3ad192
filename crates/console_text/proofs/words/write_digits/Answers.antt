use Rattle.std.proofs.Common.{ap, arith, slice_index_or, slice_set, ◌∙◌, ◌*◌, ◌+◌}
use Rattle.std.proofs.lemmas.List.{length-set}
use Rattle.hex.specs.Hex.{lower_digits}
use Rattle.hex.proofs.Pairs.{encode_step, encode_done}
use Rattle.console_text.proofs.words.write_digits.Goals as goal

pub loop-place-preserved : goal.loop-place-preserved
loop-place-preserved c =
    let inv = c.loop-place.invariant in
    let pair = c.pair_of.ensures in
    let i = c.loop-place.place in (
      length-set (slice_set c.loop-place.digits (2 * i) (slice_index_or c.pair_of.result 0 0)) (2 * i + 1)
          (slice_index_or c.pair_of.result 1 0)
          ∙ length-set c.loop-place.digits (2 * i) (slice_index_or c.pair_of.result 0 0) ∙ inv.0,
      encode_step lower_digits c.args.bytes.now c.loop-place.digits i _ _ c.loop-place-test.true (omega (
        arith,
        inv.0,
        c.loop-place-test.true,
      ))
          (ap (λ p. slice_index_or p 0 0) pair) (ap (λ p. slice_index_or p 1 0) pair) inv.1,
    )

pub returns : goal.returns
returns c =
    let inv = c.loop-place.invariant in
    encode_done _ c.args.bytes.now c.loop-place.digits c.loop-place.place (omega arith) inv.0 inv.1
