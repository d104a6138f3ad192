-- A process of leases that isn't served, or whose device failed.
use Rattle.std.proofs.Common.{◌≡◌, ◌∙◌, ap, subst, ℕ, ◌+◌, List, [], Option, Result, Ok, Err, IfOk, inl, inr, ⊎_elim}
use Rattle.lease_file.specs.Blocks.{bound_of}
use Rattle.lease_file.specs.Calls.{begun_by}
use Rattle.lease_file.specs.Kept.{FileState, Kept, kept, kept_of}
use Rattle.lease_file.specs.declared.file.Begun.{Begun}
use Rattle.lease_machine.specs.declared.terms.LeaseTerms.{LeaseTerms}
use Rattle.lease_session.specs.Served.{IsServed}
use Rattle.lease_session.specs.declared.seals.LeaseSeal.{LeaseSeal}
use Rattle.lease_session.specs.declared.serving.LeaseEnd.{LeaseEnd}
use Rattle.lease_session.specs.declared.serving.LeaseEnd.TheVariants as end
use Rattle.command_line.specs.Ends.{code_of}
use Rattle.command_line.specs.LeaseServed.{AreTermsOf, IsLeaseSealUnder, IsNotBegun, LeaseServesSo, LeaseServesTo, start_by}
use Rattle.command_line.specs.Obeyed.{AreKeysOf, LeasesFor}
use Rattle.command_line.specs.Served.{IsStopped, IsUnserved}
use Rattle.command_line.specs.declared.invocation.NodePlace.{NodePlace}
use Rattle.command_line.specs.declared.invocation.Sealing.{Sealing}
use Rattle.command_line.specs.declared.keys.Keys.{Keys}
use Rattle.command_line.specs.declared.status.Status.{Status}
use Rattle.command_line.specs.declared.status.Status.TheVariants as status

pub stops_so : (Untouched : Type 0) (To : LeaseEnd → Type 0) (ended : Status) → IsStopped ended → To end.Device
    → LeaseServesSo Untouched To ended
stops_so Untouched To status.Done is to = absurd is
stops_so Untouched To (status.Failed error) is to = absurd is
stops_so Untouched To (status.File fault) is to = inr to
stops_so Untouched To (status.Foreign owner) is to = absurd is
stops_so Untouched To (status.Device error) is to = inr to
stops_so Untouched To status.Key is to = absurd is
stops_so Untouched To (status.Spent fault) is to = absurd is
stops_so Untouched To (status.Lost error) is to = inr to

pub unbegun_so : (Untouched : Type 0) (To : LeaseEnd → Type 0) (ended : Status) → IsNotBegun ended → Untouched
    → LeaseServesSo Untouched To ended
unbegun_so Untouched To status.Done is nothing = absurd is
unbegun_so Untouched To (status.Failed error) is nothing = tt
unbegun_so Untouched To (status.File fault) is nothing = inl nothing
unbegun_so Untouched To (status.Foreign owner) is nothing = nothing
unbegun_so Untouched To (status.Device error) is nothing = inl nothing
unbegun_so Untouched To status.Key is nothing = nothing
unbegun_so Untouched To (status.Spent fault) is nothing = nothing
unbegun_so Untouched To (status.Lost error) is nothing = inl nothing

pub stopped_unbegun : (ended : Status) → IsStopped ended → IsNotBegun ended
stopped_unbegun status.Done is = absurd is
stopped_unbegun (status.Failed error) is = tt
stopped_unbegun (status.File fault) is = tt
stopped_unbegun (status.Foreign owner) is = tt
stopped_unbegun (status.Device error) is = tt
stopped_unbegun status.Key is = tt
stopped_unbegun (status.Spent fault) is = tt
stopped_unbegun (status.Lost error) is = tt

pub unserved_unbegun : (ended : Status) → IsUnserved ended → IsNotBegun ended
unserved_unbegun status.Done is = absurd is
unserved_unbegun (status.Failed error) is = tt
unserved_unbegun (status.File fault) is = tt
unserved_unbegun (status.Foreign owner) is = tt
unserved_unbegun (status.Device error) is = tt
unserved_unbegun status.Key is = tt
unserved_unbegun (status.Spent fault) is = absurd is
unserved_unbegun (status.Lost error) is = tt

-- where nothing was done, less is said of that
pub untouched_so : (A B : Type 0) (To : LeaseEnd → Type 0) (ended : Status) → (A → B) → LeaseServesSo A To ended → LeaseServesSo B To ended
untouched_so A B To status.Done less so = so
untouched_so A B To (status.Failed error) less so = tt
untouched_so A B To (status.File fault) less so = ⊎_elim (λ a. inl (less a)) (λ b. inr b) so
untouched_so A B To (status.Foreign owner) less so = less so
untouched_so A B To (status.Device error) less so = ⊎_elim (λ a. inl (less a)) (λ b. inr b) so
untouched_so A B To status.Key less so = less so
untouched_so A B To (status.Spent fault) less so = less so
untouched_so A B To (status.Lost error) less so = ⊎_elim (λ a. inl (less a)) (λ b. inr b) so

pub leases_end : {E : Type 0} (place : NodePlace) (round_trip : ℕ) (sealing : Option Sealing) (input rest before behind : Option (List ℕ))
    (ended : Status) (keys : Option Keys) (terms : LeaseTerms) (result : Result ℕ E)
    → AreKeysOf sealing [] keys → AreTermsOf place round_trip sealing terms
    → LeaseServesSo ((rest ≡ input) × (behind ≡ before)) (LeaseServesTo keys terms input rest before behind) ended
    → IfOk result (λ (code : ℕ). code ≡ code_of ended) → IfOk result (LeasesFor place round_trip sealing input rest before behind)
leases_end place round_trip sealing input rest before behind ended keys terms (Ok code) are of serves is =
    inr (ended, keys, terms, is, are, of, serves)
leases_end place round_trip sealing input rest before behind ended keys terms (Err e) are of serves is = tt

-- a process that took a block more than a file kept was served so
pub serves_to : {Disk : Type 0} (keys : Option Keys) (terms : LeaseTerms) (input rest before behind : Option (List ℕ))
    (seal : Option LeaseSeal) (was now stored : FileState Disk) (begun : Begun) (keeps : ℕ) (how : LeaseEnd)
    → IsLeaseSealUnder keys terms.machines seal → begun ≡ begun_by (kept_of was) → kept_of now ≡ kept ((kept_of was).count + 1) keeps
    → stored ≡ now
    → IsServed terms (start_by begun) seal (bound_of (kept_of stored).count) input rest before behind how
    → LeaseServesTo keys terms input rest before behind how
serves_to {Disk = Disk} keys terms input rest before behind seal was now stored begun keeps how under is keeps_so same served = (
  seal,
  kept_of was,
  under,
  subst (λ (b : Begun). IsServed terms (start_by b) seal (bound_of ((kept_of was).count + 1)) input rest before behind how) is
      (subst (λ (n : ℕ). IsServed terms (start_by begun) seal n input rest before behind how)
      (ap (λ (f : FileState Disk). bound_of (kept_of f).count) same ∙ ap (λ (k : Kept). bound_of k.count) keeps_so) served),
)
