use Rattle.std.proofs.Common.{◌∙◌, refl}
use Rattle.lease_file.proofs.Cells.{lasts}
use Rattle.lease_file.proofs.Mountings.{mounted}
use Rattle.lease_file.proofs.file.LeaseFile.mount.Goals as goal

pub invariant_of-result : goal.invariant_of-result
invariant_of-result g c =
    let e = c.in-Ok.ensures in
    mounted (g.D.SectorDisk.state c.args.disk) (g.D.SectorDisk.state c.read_cells.new.disk) c.in-Ok.count c.in-Ok.keeps e.place
    c.requires.on_disk e.only_reads.counts.sectors e.only_reads.counts.honest e.stand

pub returns-in-Ok-clause-lasts : goal.returns-in-Ok-clause-lasts
returns-in-Ok-clause-lasts g c = λ honest.
    let e = c.in-Ok.ensures in
    lasts (mounted (g.D.SectorDisk.state c.args.disk) (g.D.SectorDisk.state c.read_cells.new.disk) c.in-Ok.count c.in-Ok.keeps e.place
    c.requires.on_disk e.only_reads.counts.sectors e.only_reads.counts.honest e.stand)
    (e.only_reads.counts.honest ∙ honest) refl
