-- How many calls of a disk still pass behind an act.
use Rattle.std.proofs.Common.{◌≡◌, ℕ, length, refl, ap, arith, Option, Some, None}
use Rattle.std.proofs.lemmas.Option.{same_Some}
use Rattle.sector_disk.specs.Disk.{Counts}
use Rattle.sector_disk.specs.Memory.{Memory, all_synced, state_of}
use Rattle.sector_disk.proofs.PublicLaws.{no_more_still}
use Rattle.durable_node.specs.Arming.{armed_disk}
use Rattle.runs.specs.declared.outcome.Outcome.TheVariants as outcome
use Rattle.runs.specs.declared.outcome.ActRefusal.{ActRefusal}
use Rattle.schedule.specs.declared.act.Act.{Act}
use Rattle.schedule.specs.declared.act.Act.TheVariants as act
use Rattle.cluster_sim.specs.World.{IsCounted, armed_by, armed_with, disarmed}

-- an act that is refused arms nothing
none_armed : (a : Act) (why : ActRefusal) (left : Option ℕ) → armed_by a (outcome.Refused why) left ≡ left
none_armed (act.Arm n calls) why left = refl
none_armed (act.Crash n fill) why left = refl
none_armed _ why left = refl

still : (was : Memory) (why : ActRefusal) → Counts (state_of was) (state_of was) (outcome.Refused why ≡ outcome.Faulted)
    ((outcome.Refused why ≡ outcome.Faulted) → ⊥)
still was why = record {
  sectors = refl;
  honest = refl;
  arms = no_more_still was.left;
  later = omega arith;
  unchanged = λ _. refl;
  cause = λ bad. absurd (let no = bad in cc);
}

pub still_counted : (a : Act) (disk : Option Memory) (why : ActRefusal) → IsCounted (armed_by a) disk disk (outcome.Refused why)
still_counted a None why was now before after = absurd (let bad = before in cc)
still_counted a (Some d) why was now before after =
    rw (none_armed a why was.left, ← same_Some d was before, ← same_Some d now after) (still d why)

-- an armed disk is as it was
pub arm_counted : (calls first : ℕ) (disk : Option Memory)
    → IsCounted (armed_with calls) disk (armed_disk calls disk) (outcome.Done None first 0)
arm_counted calls first None was now before after = absurd (let bad = before in cc)
arm_counted calls first (Some d) was now before after =
    rw (← same_Some d was before, ← same_Some (record d { left = Some calls }) now after)
    (record {
      sectors = refl;
      honest = refl;
      arms = omega arith;
      later = omega arith;
      unchanged = λ _. refl;
      cause = λ bad. absurd (let no = bad in cc);
    })

-- a crash disarms it
pub crash_counted : (was now : Memory) (first : ℕ) → length now.contents ≡ length was.contents → now ≡ all_synced now.contents was.failures
    → Counts (state_of (record was { left = disarmed (outcome.Done None first 0) was.left })) (state_of now)
    (outcome.Done None first 0 ≡ outcome.Faulted) ((outcome.Done None first 0 ≡ outcome.Faulted) → ⊥)
crash_counted was now first size is =
    let same : now.failures ≡ was.failures = ap (λ (m : Memory). m.failures) is in
    record {
      sectors = size;
      honest = refl;
      arms = ap (λ (m : Memory). m.left) is;
      later = omega (arith, same);
      unchanged = λ _. same;
      cause = λ bad. absurd (let no = bad in cc);
    }
