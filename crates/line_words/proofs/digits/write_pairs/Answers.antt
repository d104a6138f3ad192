use Rattle.std.proofs.Common.{arith, ◌+◌, ◌*◌}
use Rattle.std.proofs.lemmas.List.{length-set}
use Rattle.hex.proofs.Pairs.{decode_done}
use Rattle.line_words.proofs.Pairs.{pair_more}
use Rattle.line_words.proofs.digits.write_pairs.Goals as goal

pub loop-place-preserved : goal.loop-place-preserved
loop-place-preserved c =
    let inv = c.loop-place.invariant in
    let same = length-set c.loop-place.out c.loop-place.place (c.value_of.result * 16 + c.value_of-in-loop-place.result) in (
      omega (arith, inv.0, same),
      pair_more c.args.digits.now c.loop-place.out c.loop-place.place c.value_of.result c.value_of-in-loop-place.result (omega (
        arith,
        inv.0,
      )) (omega arith) c.value_of.ensures.value
          c.value_of-in-loop-place.ensures.value inv.1,
    )

pub returns : goal.returns
returns c =
    let inv = c.loop-place.invariant in
    decode_done c.args.digits.now c.loop-place.out c.loop-place.place (omega arith) (omega (arith, inv.0)) inv.1
