use Rattle.std.proofs.Common.{arith, ◌+◌, ◌*◌, refl, sym, ◌∙◌}
use Rattle.std.proofs.lemmas.List.{length-set}
use Rattle.hex.proofs.Pairs.{decode_done}
use Rattle.line_words.proofs.Pairs.{pair_more, stops_at_first, stops_at_second}
use Rattle.line_words.proofs.digits.decode_few.Goals as goal

pub returns-in_default : goal.returns-in_default
returns-in_default c =
    let inv = c.loop-place.invariant in
    rw (stops_at_first c.args.digits.now c.loop-place.out c.loop-place.place (omega (arith, inv.0)) (sym c.digit.ensures.value
    ∙ c.in_default.is) inv.1) refl

pub returns-in_default-digit : goal.returns-in_default-digit
returns-in_default-digit c =
    let inv = c.loop-place.invariant in
    rw (stops_at_second c.args.digits.now c.loop-place.out c.loop-place.place c.in-Some.high (omega (
      arith,
      inv.0,
    )) (sym c.digit.ensures.value ∙ c.in-Some.is) (sym c.digit-in-loop-place.ensures.value ∙ c.in_default-digit.is) inv.1) refl

pub loop-place-preserved : goal.loop-place-preserved
loop-place-preserved c =
    let inv = c.loop-place.invariant in
    let same = length-set c.loop-place.out c.loop-place.place (c.in-Some.high * 16 + c.in-Some-digit.low) in (
      omega (arith, inv.0, same),
      pair_more c.args.digits.now c.loop-place.out c.loop-place.place c.in-Some.high c.in-Some-digit.low (omega (arith, inv.0))
          (omega arith) (sym c.digit.ensures.value ∙ c.in-Some.is)
          (sym c.digit-in-loop-place.ensures.value ∙ c.in-Some-digit.is) inv.1,
    )

pub returns : goal.returns
returns c =
    let inv = c.loop-place.invariant in
    rw (decode_done c.args.digits.now c.loop-place.out c.loop-place.place (omega arith) (omega (arith, inv.0)) inv.1) (refl, refl)
