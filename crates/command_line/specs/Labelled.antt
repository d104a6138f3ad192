-- Which files are served, and as whose any other is refused.
use Rattle.std.specs.Prelude.{ℕ, ◌≡◌, ◌≢◌, ◌≤◌, ◌⊎◌, Bool, true, false, IsTrue, List, Option, Some}
use Rattle.command_line.specs.Label.{SaysOf, is_own, judged}
use Rattle.command_line.specs.LeaseLabel.{lease_label}
use Rattle.command_line.specs.declared.label.LabelOwner.{LabelOwner}
use Rattle.command_line.specs.declared.label.LabelOwner.TheVariants as owner
use Rattle.command_line.specs.declared.labelled.LabelledFile.{LabelledFile}
use Rattle.command_line.specs.declared.status.Status.{Status}
use Rattle.command_line.specs.declared.status.Status.TheVariants as status

-- it is that node's in the cluster of this mark, and long enough for a store
abbrev pub IsOwnFile : LabelledFile → ℕ → ℕ → List ℕ → Type 0
IsOwnFile file id nodes mark = IsTrue (is_own file.label id nodes file.disk.stride file.disk.sectors mark) × (24 ≤ file.disk.sectors)

-- a node's own file that is too short is nobody's; any other is refused as that of which its label says so
abbrev pub IsRefusedAs : Bool → LabelledFile → List ℕ → Status → Type 0
IsRefusedAs true file mark ended = ended ≡ status.Foreign owner.Nobody
IsRefusedAs false file mark ended = (whose : LabelOwner) × SaysOf file.label whose
    × (ended ≡ status.Foreign (judged whose file.disk.sectors mark))

-- it has the leases of that machine, and is long enough for them
abbrev pub AreOwnLeases : LabelledFile → ℕ → Type 0
AreOwnLeases file machine = (file.label ≡ Some (lease_label machine)) × (8 ≤ file.disk.sectors)

-- to a process of leases nobody's file is one without leases
abbrev pub leases_owner : LabelOwner → LabelOwner
leases_owner owner.Nobody = owner.NoLeases
leases_owner other = other

abbrev pub IsLeaseOwner : Option (List ℕ) → LabelOwner → Type 0
IsLeaseOwner label told = (whose : LabelOwner) × SaysOf label whose × (told ≡ leases_owner whose)

-- a machine's own leases in a file that is too short are none
abbrev pub AreRefusedAs : LabelledFile → ℕ → Status → Type 0
AreRefusedAs file machine ended = ((file.label ≡ Some (lease_label machine)) × (ended ≡ status.Foreign owner.NoLeases))
    ⊎ ((file.label ≢ Some (lease_label machine)) × ((told : LabelOwner) × IsLeaseOwner file.label told × (ended ≡ status.Foreign told)))
