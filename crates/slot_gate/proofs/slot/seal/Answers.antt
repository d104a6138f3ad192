use Rattle.std.proofs.Common.{◌∙◌, ap, arith, Some}
use Rattle.slot_gate.proofs.Slots.{slot_sealed}
use Rattle.slot_gate.proofs.slot.seal.Goals as goal

pub returns-clause-sealed : goal.returns-clause-sealed
returns-clause-sealed g c = λ honest ok.
    let new = (g.D.SectorDisk.state c.write_synced.new.disk).contents in
    slot_sealed new c.args.slot (c.write_synced.ensures.written honest ok ∙ c.sealed_gate_bytes.ensures)
    ∙ ap (λ s. Some s) ((c.write_synced.ensures.writes.run honest).contents.same c.args.slot (λ is. omega (arith, is)))
