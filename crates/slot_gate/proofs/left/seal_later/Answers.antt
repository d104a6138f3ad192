use Rattle.std.proofs.Common.{◌∙◌, ap, arith, Some}
use Rattle.slot_gate.proofs.Slots.{slot_sealed}
use Rattle.slot_gate.proofs.left.seal_later.Goals as goal

pub returns-clause-sealed : goal.returns-clause-sealed
returns-clause-sealed g c = λ honest ok.
    let new = (g.D.SectorDisk.state c.write_left.new.disk).contents in
    slot_sealed new c.args.slot (c.write_left.ensures.written honest ok ∙ c.sealed_gate_bytes.ensures)
    ∙ ap (λ s. Some s) ((c.write_left.ensures.writes.run honest).contents.same c.args.slot (λ is. omega (arith, is)))
