use Rattle.sector_disk.specs.Disk.{nothing}
use Rattle.slot_gate.proofs.Calls.{quiet_call, run_on}
use Rattle.slot_gate.proofs.slot.look.Goals as goal

pub returns-in_err-read-2-clause-run : goal.returns-in_err-read-2-clause-run
returns-in_err-read-2-clause-run g c =
    let call = quiet_call g.D.SectorDisk.state g.met.D.SectorDisk.laws in
    run_on nothing (λ k no. no) c.read.ensures.counts.honest (call _ _ c.read.ensures.counts.honest c.read.ensures.touches)
    (call _ _ c.read-2.ensures.counts.honest c.read-2.ensures.touches)

pub returns-clause-run : goal.returns-clause-run
returns-clause-run g c =
    let call = quiet_call g.D.SectorDisk.state g.met.D.SectorDisk.laws in
    run_on nothing (λ k no. no) c.read.ensures.counts.honest (call _ _ c.read.ensures.counts.honest c.read.ensures.touches)
    (call _ _ c.read-2.ensures.counts.honest c.read-2.ensures.touches)
