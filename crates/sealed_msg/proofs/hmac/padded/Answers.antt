use Rattle.std.proofs.Common.{◌<◌, length, get_or, arith, bit_xor}
use Rattle.std.proofs.lemmas.List.Edits.{map_over_more}
use Rattle.std.proofs.Common.{ℕ}
use Rattle.sealed_msg.proofs.Cuts.{any_default, still_long}
use Rattle.sealed_msg.proofs.hmac.padded.Goals as goal

pub loop-byte-preserved : goal.loop-byte-preserved
loop-byte-preserved c =
    let flip : ℕ → ℕ = λ b. bit_xor b c.args.pad in
    let at = c.loop-byte.byte-index in
    let items = c.loop-byte.byte-items in
    let below : at < length c.args.block.now = omega (arith, c.told-block, c.loop-byte-test.true) in
    map_over_more flip c.args.block.now items at (get_or items at 0) below
    c.loop-byte.invariant (any_default items at (still_long flip c.args.block.now items at below c.loop-byte.invariant))
