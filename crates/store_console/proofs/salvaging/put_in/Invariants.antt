use Rattle.std.proofs.Common.{◌≡◌, ℕ, None, drop}
use Rattle.std.specs.BTreeMap.{IsOrdered, get}
use Rattle.std.specs.Ordering.{nat_cmp}
use Rattle.store_console.specs.Salvaged.{put_behind}
use Rattle.store_console.proofs.salvaging.put_in.Given as goal

abbrev pub invariant-loop-content : goal.invariant-loop-content
invariant-loop-content l = record {
  ordered : IsOrdered nat_cmp l.jobs;
  each : (id : ℕ) → put_behind id (get nat_cmp l.jobs id) (drop l.content-index l.contents) ≡ put_behind id None l.contents;
}
