-- The key of a cluster's leases.
use Rattle.std.specs.Prelude.{ℕ, List, ◌∷◌, ◌++◌, codes}
use Rattle.sealed_msg.specs.Hmac.{block_of, hmac}

-- what it is bound to: this form of messages, the number of machines, and the name of the cluster
abbrev pub lease_context : ℕ → List ℕ → List ℕ
lease_context machines name = codes "dumgerok leases 1" ++ machines ∷ name

-- of so many machines of the cluster of this name, by the secret that its operator gave
abbrev pub lease_key : List ℕ → ℕ → List ℕ → List ℕ
lease_key secret machines name = block_of (hmac secret (lease_context machines name))
