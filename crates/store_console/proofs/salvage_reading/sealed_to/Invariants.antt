use Rattle.std.proofs.Common.{◌≡◌, ◌⊎◌, ◌<◌, ◌≤◌, ◌+◌, ◌*◌, ℕ, None, IsSome}
use Rattle.slot_gate.specs.Slot.{slot_at}
use Rattle.store_console.proofs.salvage_reading.sealed_to.Given as goal

abbrev pub invariant-loop-at : goal.invariant-loop-at
invariant-loop-at l = record {
  kept : l.disk.contents ≡ l.fn.disk.contents;
  within : l.end ≤ l.at;
  last : (l.end ≡ 0) ⊎ ((at : ℕ) × (l.end ≡ at + 1) × IsSome (slot_at l.fn.disk.contents (l.first + 2 * at)));
  none_behind : (at : ℕ) → l.end ≤ at → at < l.at → slot_at l.fn.disk.contents (l.first + 2 * at) ≡ None;
}
