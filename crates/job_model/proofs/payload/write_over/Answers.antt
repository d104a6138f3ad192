use Rattle.std.proofs.Common.{◌≡◌, ◌-◌, length, drop, take, ◌++◌, arith, ap, ◌∙◌, replicate, length-append, length-drop}
use Rattle.std.proofs.lemmas.List.{length-take}
use Rattle.job_model.specs.declared.payload.TheConstants.{PAYLOAD_CAPACITY}
use Rattle.job_model.proofs.Padding.{written, cleared}
use Rattle.job_model.proofs.payload.write_over.Goals as goal

pub returns-then-len-old_len : goal.returns-then-len-old_len
returns-then-len-old_len c =
    let n = length c.args.bytes.now in
    let k = c.args.old_len - n in
    let rest = drop n c.args.cells.now in
    let one = c.copy_from_slice.new.self ++ rest in
    let many : length (take k (drop n one)) ≡ k = omega (
      arith,
      length-take k (drop n one),
      length-drop n one,
      length-append c.copy_from_slice.new.self rest,
      length-drop n c.args.cells.now,
      ap (λ xs. length xs) c.copy_from_slice.ensures.after,
      c.requires.zeros.whole,
      c.requires.zeros.within,
      c.requires.fits,
    ) in
    let zeros : c.fill.new.self ≡ replicate k 0 = c.fill.ensures.after (λ y h. h) ∙ ap (λ m. replicate m 0) many in
    rw c.copy_from_slice.ensures.after (cleared PAYLOAD_CAPACITY c.args.old_len c.args.bytes.now c.args.cells.now c.fill.new.self
    c.requires.zeros c.if-len-old_len.true zeros)

pub returns-else-len-old_len : goal.returns-else-len-old_len
returns-else-len-old_len c =
    rw c.copy_from_slice.ensures.after (written PAYLOAD_CAPACITY c.args.old_len c.args.bytes.now c.args.cells.now c.requires.zeros
    c.if-len-old_len.false)
