use Rattle.std.proofs.Common.{◌≡◌, ◌+◌, ◌≤◌, ◌==◌, not, drop, count_by}
use Rattle.store_console.proofs.near_record.is_nearly_blank.Given as goal

abbrev pub invariant-loop-at : goal.invariant-loop-at
invariant-loop-at l = record {
  counted : l.others + count_by (λ byte. not (byte == 0)) (drop l.at l.body) ≡ count_by (λ byte. not (byte == 0)) (drop l.from l.body);
  within : l.others ≤ l.at;
}
