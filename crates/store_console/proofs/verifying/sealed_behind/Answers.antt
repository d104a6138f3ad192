use Rattle.std.proofs.Common.{◌≡◌, ◌+◌, ◌*◌, ◌-◌, ◌∙◌, suc, ap, sym, refl, arith}
use Rattle.slot_gate.specs.Slot.{slot_at}
use Rattle.job_journal.proofs.PublicLaws.{quiet_contents}
use Rattle.store_console.proofs.SlotRows.{found_here, passed_over}
use Rattle.store_console.proofs.verifying.sealed_behind.Goals as goal

pub returns-in-Ok-Some-clause-kept : goal.returns-in-Ok-Some-clause-kept
returns-in-Ok-Some-clause-kept c = quiet_contents (c.look.ensures.run refl) ∙ c.loop-at.invariant.kept

pub returns-in-Err-clause-kept : goal.returns-in-Err-clause-kept
returns-in-Err-clause-kept c = quiet_contents (c.look.ensures.run refl) ∙ c.loop-at.invariant.kept

pub returns-in-Ok-Some-clause-found : goal.returns-in-Ok-Some-clause-found
returns-in-Ok-Some-clause-found c =
    let at = c.args.first + 2 * c.loop-at.at in
    let here = ap (λ d. slot_at d at) (sym c.loop-at.invariant.kept) ∙ sym (c.in-Ok-Some.ensures.content refl) ∙ c.in-Ok-Some.field-0-is in
    let left : c.args.slots - c.loop-at.at ≡ suc (c.args.slots - (c.loop-at.at + 1)) = omega (arith, c.loop-at-test.true) in
    sym (found_here c.args.disk.now.contents at (c.args.slots - c.loop-at.at) (c.args.slots - (c.loop-at.at + 1)) _ left here)
    ∙ c.loop-at.invariant.left

pub loop-at-preserved : goal.loop-at-preserved
loop-at-preserved c =
    let at = c.args.first + 2 * c.loop-at.at in
    let next = c.args.first + 2 * (c.loop-at.at + 1) in
    let here = ap (λ d. slot_at d at) (sym c.loop-at.invariant.kept) ∙ sym (c.in-Ok-None.ensures.content refl) ∙ c.in-Ok-None.field-0-is in
    let left : c.args.slots - c.loop-at.at ≡ suc (c.args.slots - (c.loop-at.at + 1)) = omega (arith, c.loop-at-test.true) in
    record {
      kept = quiet_contents (c.look.ensures.run refl) ∙ c.loop-at.invariant.kept;
      left = sym (passed_over c.args.disk.now.contents at next (c.args.slots - c.loop-at.at) (c.args.slots - (c.loop-at.at + 1))
          (omega arith) left here) ∙ c.loop-at.invariant.left;
    }
