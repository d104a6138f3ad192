use Rattle.std.proofs.Common.{subst, ℕ}
use Rattle.sector_disk.specs.Run.{Each}
use Rattle.job_model.specs.Table.{durable_of}
use Rattle.node_store.specs.Store.{slots_for, AllStandFor}
use Rattle.node_store.specs.Beginning.{NothingOr}
use Rattle.node_server.proofs.formatting.format_node.Goals as goal

pub returns-clause-images : goal.returns-clause-images
returns-clause-images g c = λ honest none. (
    let disks = g.D.SectorDisk.state in
    subst (λ (count : ℕ). Each (disks c.args.disk.now) (disks c.begin.new.disk)
    (NothingOr (slots_for (disks c.args.disk.now).sectors) (durable_of count c.args.jobs.now))) c.next.ensures.value
    (c.begin.ensures.images honest none))

pub returns-clause-begun : goal.returns-clause-begun
returns-clause-begun g c = λ ok honest none. (
    let disks = g.D.SectorDisk.state in
    subst (λ (count : ℕ). AllStandFor (slots_for (disks c.args.disk.now).sectors) (durable_of count c.args.jobs.now)
    (disks c.begin.new.disk)) c.next.ensures.value (c.begin.ensures.begun honest none ok))
