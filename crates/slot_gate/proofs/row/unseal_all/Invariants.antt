use Rattle.slot_gate.proofs.Rows.{Erased}
use Rattle.slot_gate.proofs.row.unseal_all.Given as goal

abbrev pub invariant-loop-unsealed : goal.invariant-loop-unsealed
invariant-loop-unsealed g l = Erased l.fn.first l.fn.slots (g.D.SectorDisk.state l.fn.disk) (g.D.SectorDisk.state l.disk) l.unsealed
