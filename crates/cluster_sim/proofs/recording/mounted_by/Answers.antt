use Rattle.std.proofs.Common.{◌≡◌, length, arith}
use Rattle.job_model.specs.Table.{durable_of}
use Rattle.cluster_sim.proofs.recording.mounted_by.Goals as goal

pub copy_jobs-requires : goal.copy_jobs-requires
copy_jobs-requires c =
    let shown : length c.pending.result ≡ length c.in_ok-count.table.now.pending = (λ i. length (c.pending.ensures.value i)) in
    let len : c.args.pending.len ≡ length c.args.pending.items = c.args.pending.ok.0 in
    let none : length c.args.pending.items ≡ 0 = (λ i. length (c.requires.empty i)) in
    omega (arith, c.requires.room (durable_of c.in_ok-count.count c.in_ok-count.table.now) c.in_ok-count.ensures.some, shown, len, none)
