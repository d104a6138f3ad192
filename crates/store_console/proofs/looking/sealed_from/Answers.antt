use Rattle.std.proofs.Common.{◌≡◌, ◌+◌, ◌*◌, ◌-◌, ◌∙◌, suc, ap, sym, refl, arith}
use Rattle.slot_gate.specs.Slot.{slot_at}
use Rattle.job_journal.proofs.PublicLaws.{quiet_contents}
use Rattle.store_console.proofs.Finding.{none_sealed, one_sealed}
use Rattle.store_console.proofs.looking.sealed_from.Goals as goal

pub returns-in-Ok-None-clause-kept : goal.returns-in-Ok-None-clause-kept
returns-in-Ok-None-clause-kept c = quiet_contents (c.look.ensures.run refl) ∙ c.loop-sealed.invariant.kept

pub returns-in-Err-clause-kept : goal.returns-in-Err-clause-kept
returns-in-Err-clause-kept c = quiet_contents (c.look.ensures.run refl) ∙ c.loop-sealed.invariant.kept

pub returns-in-Ok-None-clause-found : goal.returns-in-Ok-None-clause-found
returns-in-Ok-None-clause-found c =
    let at = c.args.first + 2 * c.loop-sealed.sealed in
    let here = ap (λ d. slot_at d at) (sym c.loop-sealed.invariant.kept) ∙ sym (c.in-Ok-None.ensures.content refl)
    ∙ c.in-Ok-None.field-0-is in
    omega (arith, c.loop-sealed.invariant.count, none_sealed c.args.disk.now.contents at (c.args.slots - c.loop-sealed.sealed) here)

pub loop-sealed-preserved : goal.loop-sealed-preserved
loop-sealed-preserved c =
    let image = c.args.disk.now.contents in
    let sealed = c.loop-sealed.sealed in
    let at = c.args.first + 2 * sealed in
    let here = ap (λ d. slot_at d at) (sym c.loop-sealed.invariant.kept) ∙ sym (c.in-Ok-Some.ensures.content refl)
    ∙ c.in-Ok-Some.field-0-is in
    let left : c.args.slots - sealed ≡ suc (c.args.slots - (sealed + 1)) = omega (arith, c.loop-sealed-test.true) in
    record {
      kept = quiet_contents (c.look.ensures.run refl) ∙ c.loop-sealed.invariant.kept;
      count = omega (
        arith,
        c.loop-sealed.invariant.count,
        one_sealed image at (c.args.first + 2 * (sealed + 1)) (c.args.slots - sealed)
            (c.args.slots - (sealed + 1)) _ (omega arith) left here,
      );
    }
