use Rattle.std.proofs.Common.{◌≤◌, ◌^◌, arith}
use Rattle.std.proofs.Math.Nat.{pow-le-pow_right}
use Rattle.line_words.proofs.reading.short_value.Goals as goal

pub with_safe-requires : goal.with_safe-requires
with_safe-requires c =
    let within : c.loop-digit.digit-index ≤ 18 = omega (arith, c.requires, c.loop-digit-test.true) in
    let most : 10 ^ c.loop-digit.digit-index ≤ 10 ^ 18 = pow-le-pow_right (omega arith) within in
    omega (arith, most, c.loop-digit.invariant.1)
