use Rattle.std.proofs.Common.{◌≡◌, ℕ, Result, IfOk, refl, subst}
use Rattle.sector_disk.specs.Memory.{state_of}
use Rattle.safe_cell.specs.Cell.{AllHave}
use Rattle.job_journal.specs.Jobs.{Jobs}
use Rattle.store_console.specs.Held.{found_in}
use Rattle.store_console.proofs.Across.{other_read}
use Rattle.store_console.proofs.verifying.other_journal.Goals as goal

pub returns-in-Ok : goal.returns-in-Ok
returns-in-Ok c =
    let old = state_of c.args.disk.now in
    let new = state_of c.format.new.disk in
    subst (λ (found : Result Jobs ℕ). IfOk c.journal.result (λ journal. found_in journal ≡ found))
    (other_read c.args.slots c.args.first old new (c.in-Ok.ensures.writes.run refl).contents
    (subst (λ v. AllHave 4 v new) c.value_across.ensures (c.in-Ok.ensures.value refl refl)))
    c.journal.ensures.found
