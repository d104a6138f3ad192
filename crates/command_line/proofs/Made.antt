-- What was made on a disk is there behind its label, too.
use Rattle.std.proofs.Common.{◌≡◌, Result, Ok, Err, OnOk, subst, sym}
use Rattle.sector_disk.specs.Disk.{DiskState}
use Rattle.job_model.specs.Table.{Table}
use Rattle.node_server.specs.Formatted.{IsMade}

pub made_behind : {Disk A E : Type 0} (disks : Disk → DiskState) (old mid new : Disk) (jobs : Table) (r : Result A E)
    → OnOk r (new ≡ mid) → IsMade (disks old) (disks mid) jobs → OnOk r (IsMade (disks old) (disks new) jobs)
made_behind {Disk} disks old mid new jobs (Ok a) same made = subst (λ (d : Disk). IsMade (disks old) (disks d) jobs) (sym same) made
made_behind disks old mid new jobs (Err e) same made = tt
