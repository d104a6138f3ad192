use Rattle.std.proofs.Common.{◌≡◌, arith}
use Rattle.slot_gate.proofs.Calls.{quiet_call, write_call, run_on}
use Rattle.slot_gate.proofs.slot.write_synced.Goals as goal

pub returns-in_err-write-clause-writes : goal.returns-in_err-write-clause-writes
returns-in_err-write-clause-writes g c = record {
  answers = grind arith;
  counts = grind arith;
  run = write_call g.D.SectorDisk.state g.met.D.SectorDisk.laws _ _ c.args.at c.write.ensures.counts.honest c.requires
      c.write.ensures.touches;
}

pub returns-clause-writes : goal.returns-clause-writes
returns-clause-writes g c = record {
  answers = grind arith;
  counts = grind arith;
  run = run_on (λ k. k ≡ c.args.at) (λ k no. absurd no) c.write.ensures.counts.honest
      (write_call g.D.SectorDisk.state g.met.D.SectorDisk.laws _ _ c.args.at c.write.ensures.counts.honest c.requires
      c.write.ensures.touches)
      (quiet_call g.D.SectorDisk.state g.met.D.SectorDisk.laws _ _ c.sync.ensures.counts.honest c.sync.ensures.touches);
}
