-- Ids of jobs are new.
use Rattle.std.proofs.Common.{◌≡◌, ℕ, zero, suc, ◌<◌, ◌≤◌, Bool, true, false, List, [], ◌∷◌, take, slice_get, refl, ap, arith, Option, Some}
use Rattle.job_model.specs.declared.work.Work.{Work}
use Rattle.std.specs.Prelude.{fold}
use Rattle.job_model.specs.declared.node_command.NodeCommand.{NodeCommand as Command}
use Rattle.job_model.specs.declared.node_command.NodeCommand.TheVariants.{Raise, Put, Done}
use Rattle.job_model.specs.Durable.{Durable, formatted}
use Rattle.job_model.specs.Fold.{after_command}
use Rattle.histories.specs.Kept.{stands_after}
use Rattle.histories.specs.declared.attempt.Attempt.{Attempt}
use Rattle.runs.specs.Reporting.{own_commands}
use Rattle.runs.specs.Uses.{IdsAreNew}
use Rattle.runs.proofs.Acknowledged.{acknowledged_counts, counted, left}

next_grows : (d : Durable) (cs : List Command) → d.next ≤ (fold after_command d cs).next
next_grows d [] = omega arith
next_grows d (Raise ∷ cs) = next_grows (after_command d Raise) cs
next_grows d (Put work ∷ cs) = omega (arith, next_grows (after_command d (Put work)) cs)
next_grows d (Done id ∷ cs) = next_grows (after_command d (Done id)) cs

put_passes : (d : Durable) (cs : List Bool) (ts : List Attempt) (k n id : ℕ) (work : Work) (a : Option ℕ) → slice_get cs k ≡ Some true
    → slice_get ts k ≡ Some (record { command = Put work; acked = a })
    → k < n → id ≡ (left d cs ts k).next → id < (left d cs ts n).next
put_passes d [] ts k n id work a counts at lt is = absurd cc
put_passes d (c ∷ cs) [] k n id work a counts at lt is = absurd cc
put_passes d (c ∷ cs) (t ∷ ts) k zero id work a counts at lt is = absurd (let bad : k < 0 = lt in omega (arith, bad))
put_passes d (true ∷ cs) (t ∷ ts) zero (suc n) id work a counts at lt is =
    let it : t.command ≡ Put work = ap (λ (x : Attempt). x.command) (let e : t ≡ record { command = Put work; acked = a } = cc at in e) in
    rw it (omega (arith, is, next_grows (after_command d (Put work)) (counted cs (take n ts))))
put_passes d (false ∷ cs) (t ∷ ts) zero (suc n) id work a counts at lt is = absurd cc
put_passes d (true ∷ cs) (t ∷ ts) (suc k) (suc n) id work a counts at lt is =
    put_passes (after_command d t.command) cs ts k n id work a counts at (omega (arith, lt)) is
put_passes d (false ∷ cs) (t ∷ ts) (suc k) (suc n) id work a counts at lt is =
    put_passes d cs ts k n id work a counts at (omega (arith, lt)) is

pub ids_are_new : IdsAreNew
ids_are_new nodes after r h n within j k work more i l lt at_j at_k =
    let kept = h.kept n within in
    let later : l ≡ (stands_after kept.counts (own_commands n r.commands) k).next = kept.answered k _ l at_k refl in
    rw later (put_passes formatted kept.counts (own_commands n r.commands) j k i work (Some i)
    (acknowledged_counts _ _ kept j i _ at_j refl) at_j lt (kept.answered j _ i at_j refl))
