use Rattle.std.proofs.Common.{◌+◌, ◌*◌, refl, arith, true, ◌≡◌}
use Rattle.slot_gate.specs.Slot.{InSlots, unsealed_gate}
use Rattle.slot_gate.proofs.Calls.{quiet_call, write_call, run_on}
use Rattle.slot_gate.proofs.Slots.{slot_unsealed}
use Rattle.slot_gate.proofs.Rows.{erased_run, erased_more}
use Rattle.slot_gate.proofs.row.unseal_all.Goals as goal

pub returns-in_err-write-clause-writes : goal.returns-in_err-write-clause-writes
returns-in_err-write-clause-writes g c =
    let now = c.loop-unsealed in record {
      answers = grind arith;
      counts = grind arith;
      run = erased_run c.args.first c.args.slots now.unsealed _ _ _ c.loop-unsealed-test.true now.invariant
          (write_call g.D.SectorDisk.state g.met.D.SectorDisk.laws now.disk c.write.new.self (c.args.first + 2 * now.unsealed + 1)
          c.write.ensures.counts.honest
          (omega (arith, now.invariant.sectors, c.requires.on_disk, c.loop-unsealed-test.true)) c.write.ensures.touches);
    }

pub loop-unsealed-preserved : goal.loop-unsealed-preserved
unfolding unsealed_gate
loop-unsealed-preserved g c =
    let state = g.D.SectorDisk.state in
    let now = c.loop-unsealed in
    erased_more c.args.first c.args.slots now.unsealed (state c.args.disk.now) (state now.disk)
    (state c.write.new.self) _ (true ≡ true) refl
    c.loop-unsealed-test.true now.invariant c.in_ok-write.ensures.counts
    (write_call g.D.SectorDisk.state g.met.D.SectorDisk.laws now.disk c.write.new.self (c.args.first + 2 * now.unsealed + 1)
    c.write.ensures.counts.honest
    (omega (arith, now.invariant.sectors, c.requires.on_disk, c.loop-unsealed-test.true)) c.write.ensures.touches)
    (λ honest. slot_unsealed (state c.write.new.self).contents (c.args.first + 2 * now.unsealed) (c.in_ok-write.ensures.gives honest refl))

pub returns-clause-writes : goal.returns-clause-writes
returns-clause-writes g c = record {
  answers = grind arith;
  counts = grind arith;
  run = run_on (InSlots c.args.first c.args.slots) (λ k no. absurd no) c.loop-unsealed.invariant.honest c.loop-unsealed.invariant.run
      (quiet_call g.D.SectorDisk.state g.met.D.SectorDisk.laws _ _ c.sync.ensures.counts.honest c.sync.ensures.touches);
}
