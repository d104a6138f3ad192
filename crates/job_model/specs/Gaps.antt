-- Items beside a gap.
use Rattle.std.specs.Prelude.{ℕ, ◌≤◌, List, take, drop, ◌++◌}
use Rattle.job_model.specs.declared.gap.Gap.{Gap}

-- the gap is among so many items
pub record IsWithin (gap : Gap) (count : ℕ) : Type 0 where
  pub order : gap.before ≤ gap.behind
  pub behind : gap.behind ≤ count

-- the items before the gap, and those behind it
abbrev pub beside : {A : Type 0} → Gap → List A → List A
beside gap items = take gap.before items ++ drop gap.behind items
