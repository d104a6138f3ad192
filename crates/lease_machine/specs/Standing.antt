-- What is kept of a name, as a voter of the model.
use Rattle.std.specs.Prelude.{◌≡◌, ◌⊎◌, ℕ, ◌≤◌, None}
use Rattle.lease_runs.specs.declared.voter.LeaseVoter.{LeaseVoter}
use Rattle.lease_runs.specs.Voter.{Voter}
use Rattle.lease_runs.specs.Code.{view}

-- The voter of the model forgot nothing: its last grant has ended by this time, and was of no greater epoch than the last that the code
-- knows of.
pub record IsBehind (boot now : ℕ) (c : LeaseVoter) (v : Voter) : Type 0 where
  pub bound : v.bound ≡ c.bound
  pub booted : v.boot ≡ boot
  pub began : v.began ≡ c.began
  pub last : v.last ≤ c.last
  pub free : c.holder ≡ None
  pub over : (v.holder ≡ None) ⊎ (v.ends ≤ now)

-- what the code keeps, in this boot and at this time by the own clock, stands for this voter of the model
abbrev pub Stands : ℕ → ℕ → LeaseVoter → Voter → Type 0
Stands boot now c v = (view boot c ≡ v) ⊎ IsBehind boot now c v
