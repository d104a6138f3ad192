-- Of which machine's leases a file is.
use Rattle.std.specs.Prelude.{ℕ, List, ◌∷◌, ◌++◌, codes, replicate}

-- what stands behind the last sector of the file of leases of a machine
abbrev pub lease_label : ℕ → List ℕ
lease_label machine = codes "dumlease" ++ 1 ∷ machine ∷ replicate 22 0
