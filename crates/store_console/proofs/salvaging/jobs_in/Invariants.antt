use Rattle.std.proofs.Common.{◌≡◌, ℕ, None, drop, if◌then◌else◌}
use Rattle.std.specs.BTreeMap.{IsOrdered, get}
use Rattle.std.specs.Ordering.{nat_cmp}
use Rattle.store_console.specs.Salvaged.{is_done, salvaged}
use Rattle.store_console.proofs.salvaging.jobs_in.Given as goal

abbrev pub invariant-loop-content : goal.invariant-loop-content
invariant-loop-content l = record {
  ordered : IsOrdered nat_cmp l.jobs;
  each : (id : ℕ) → (if is_done (drop l.content-index l.contents) id then None else get nat_cmp l.jobs id) ≡ salvaged l.contents id;
}
