use Rattle.std.proofs.Common.{◌-◌, ◌<◌, List, All, length, arith, subst, sym, ap}
use Rattle.job_model.specs.JobLists.{HasPayload}
use Rattle.job_model.specs.declared.job_list.PackedJob.{PackedJob}
use Rattle.job_model.proofs.Packing.{reads_within, reads_few, repacked_as, chosen}
use Rattle.job_model.proofs.job_list.repack.Goals as goal

pub overflow_add-row : goal.overflow_add-row
overflow_add-row c =
    let all = subst (λ (rows : List PackedJob). All (HasPayload (length c.args.payloads.now.items)) rows)
    (sym c.deref_mut-row-items.ensures.value) c.requires.read in
    let there = reads_within c.args.payloads.now.items c.loop-row.payloads.items c.deref_mut-row-items.result.now c.loop-row.row-items
    c.loop-row.row-index c.row-item.result all c.loop-row.invariant.packed (omega (
      arith,
      c.loop-row-test.true,
      c.loop-row.auto.row-items,
    )) in
    omega (arith, there, c.from.ensures, c.len.ensures, c.len.type_inv, c.loop-row.payloads.ok)

pub extend_from_within-requires-clause-in_bounds :
    goal.extend_from_within-requires-clause-in_bounds
extend_from_within-requires-clause-in_bounds c =
    let all = subst (λ (rows : List PackedJob). All (HasPayload (length c.args.payloads.now.items)) rows)
    (sym c.deref_mut-row-items.ensures.value) c.requires.read in
    let there = reads_within c.args.payloads.now.items c.loop-row.payloads.items c.deref_mut-row-items.result.now c.loop-row.row-items
    c.loop-row.row-index c.row-item.result all c.loop-row.invariant.packed (omega (
      arith,
      c.loop-row-test.true,
      c.loop-row.auto.row-items,
    )) in
    omega (arith, there, c.from.ensures, c.loop-row.payloads.ok)

pub loop-row-preserved : goal.loop-row-preserved
loop-row-preserved c =
    let all = subst (λ (rows : List PackedJob). All (HasPayload (length c.args.payloads.now.items)) rows)
    (sym c.deref_mut-row-items.ensures.value) c.requires.read in
    let within : c.loop-row.row-index < length c.loop-row.row-items = omega (arith, c.loop-row-test.true, c.loop-row.auto.row-items) in
    let few = (reads_few c.args.payloads.now.items c.loop-row.payloads.items c.deref_mut-row-items.result.now c.loop-row.row-items
    c.loop-row.row-index c.row-item.result all c.loop-row.invariant.packed within) in
    let ok = c.extend_from_within.ensures.succeeds (omega (
      arith,
      few,
      c.from.ensures,
      c.requires.spare,
      c.loop-row.invariant.capacity,
      c.loop-row.payloads.ok,
      c.args.payloads.now.ok,
      ap (λ (rows : List PackedJob). length rows) c.deref_mut-row-items.ensures.value,
    )) in
    record {
      packed = repacked_as c.args.payloads.now.items c.loop-row.payloads.items c.extend_from_within.new.self.items
          c.deref_mut-row-items.result.now c.loop-row.row-items c.loop-row.row-index c.from.result (c.len.result - c.len-old.result)
          c.row-item.result all c.loop-row.invariant.packed within
          (chosen _ _ _ _ c.extend_from_within.ensures.items ok) c.from.ensures (omega (
            arith,
            c.len.ensures,
            c.len-old.ensures,
            c.loop-row.payloads.ok,
            c.args.payloads.now.ok,
          ));
      capacity = omega (arith, c.loop-row.invariant.capacity, c.extend_from_within.ensures.capacity);
    }
