-- How a process of leases is served over its file.
use Rattle.std.specs.Prelude.{ℕ, ◌≡◌, ◌⊎◌, ◌+◌, ◌*◌, List, [], take, Option, Some, None, option_map, string_bytes}
use Rattle.std.specs.Int.{w64, from_be_bytes}
use Rattle.sealed_msg.specs.Hmac.{hmac}
use Rattle.lease_file.specs.Blocks.{bound_of}
use Rattle.lease_file.specs.Calls.{begun_by}
use Rattle.lease_file.specs.Kept.{Kept}
use Rattle.lease_file.specs.declared.file.Begun.{Begun}
use Rattle.lease_machine.specs.declared.terms.LeaseTerms.{LeaseTerms}
use Rattle.lease_session.specs.Key.{lease_context, lease_key}
use Rattle.lease_session.specs.Served.{IsServed}
use Rattle.lease_session.specs.declared.process.Start.{Start}
use Rattle.lease_session.specs.declared.seals.LeaseSeal.{LeaseSeal}
use Rattle.lease_session.specs.declared.serving.LeaseEnd.{LeaseEnd}
use Rattle.lease_session.specs.declared.serving.LeaseEnd.TheVariants as end
use Rattle.command_line.specs.Served.{AreSpelled}
use Rattle.command_line.specs.declared.invocation.NodePlace.{NodePlace}
use Rattle.command_line.specs.declared.invocation.Sealing.{Sealing}
use Rattle.command_line.specs.declared.keys.Keys.{Keys}
use Rattle.command_line.specs.declared.status.Status.{Status}
use Rattle.command_line.specs.declared.status.Status.TheVariants as status

-- The number of the list of machines: how many there are, or the first eight bytes of the tag of that under the name of their cluster.
abbrev pub list_of : ℕ → Option Sealing → ℕ
list_of machines None = machines
list_of machines (Some sealing) = from_be_bytes w64 (take 8 (hmac (string_bytes sealing.cluster) (lease_context machines [])))

-- the terms are those of the machine that the command line names, at its round trip
abbrev pub AreTermsOf : NodePlace → ℕ → Option Sealing → LeaseTerms → Type 0
AreTermsOf place round_trip sealing terms = (terms.machine ≡ place.id) × (terms.machines ≡ place.nodes)
    × (terms.list ≡ list_of place.nodes sealing) × (terms.keeps ≡ 100 * round_trip)

-- it seals and opens, by these secrets, the messages of leases of so many machines in the cluster of this name
abbrev pub IsLeaseSealOf : List ℕ × Option (List ℕ) → ℕ → List ℕ → LeaseSeal → Type 0
IsLeaseSealOf secrets machines cluster seal =
    (seal.own ≡ lease_key secrets.0 machines cluster) × (seal.other ≡ option_map (λ other. lease_key other machines cluster) secrets.1)

abbrev pub IsLeaseSealBy : ℕ → List ℕ → LeaseSeal → Type 0
IsLeaseSealBy machines cluster seal = (secrets : List ℕ × Option (List ℕ)) × AreSpelled secrets
    × IsLeaseSealOf secrets machines cluster seal

-- messages are sealed where there are keys, and nowhere else
abbrev pub IsLeaseSealUnder : Option Keys → ℕ → Option LeaseSeal → Type 0
IsLeaseSealUnder None machines seal = seal ≡ None
IsLeaseSealUnder (Some keys) machines seal = (it : LeaseSeal) × IsLeaseSealBy machines keys.cluster.now it × (seal ≡ Some it)

-- what a process is told that begins
abbrev pub start_by : Begun → Start
start_by begun = record { process = begun.process; floor = begun.floor; waits = begun.waits }

-- A process of these terms, which took a block more than some file kept, was served to this end.
abbrev pub LeaseServesTo : Option Keys → LeaseTerms → Option (List ℕ) → Option (List ℕ) → Option (List ℕ) → Option (List ℕ) → LeaseEnd
    → Type 0
LeaseServesTo keys terms input rest before behind how =
    (seal : Option LeaseSeal) × (kept : Kept) × IsLeaseSealUnder keys terms.machines seal
    × IsServed terms (start_by (begun_by kept)) seal (bound_of (kept.count + 1)) input rest before behind how

-- By how it ended: the input was read to its end and all of it answered; or the device failed, and all was answered that was read; or
-- nothing was read or written.
abbrev pub LeaseServesSo : Type 0 → (LeaseEnd → Type 0) → Status → Type 0
LeaseServesSo Untouched To status.Done = To end.Input
LeaseServesSo Untouched To (status.Failed error) = Unit {0}
LeaseServesSo Untouched To (status.File fault) = Untouched ⊎ To end.Device
LeaseServesSo Untouched To (status.Foreign owner) = Untouched
LeaseServesSo Untouched To (status.Device error) = Untouched ⊎ To end.Device
LeaseServesSo Untouched To status.Key = Untouched
LeaseServesSo Untouched To (status.Spent fault) = Untouched
LeaseServesSo Untouched To (status.Lost error) = Untouched ⊎ To end.Device

-- how a process of leases ends that isn't served
abbrev pub IsNotBegun : Status → Type 0
IsNotBegun status.Done = ⊥
IsNotBegun _ = Unit {0}
