-- The key of a cluster.
use Rattle.std.specs.Prelude.{ℕ, List, ◌∷◌, ◌++◌, codes}
use Rattle.sealed_msg.specs.Hmac.{block_of, hmac}

-- what a key is bound to: this form of messages, the number of nodes, and the name of the cluster
abbrev pub context : ℕ → List ℕ → List ℕ
context nodes name = codes "dumgerok sealed 1" ++ nodes ∷ name

-- of the cluster of so many nodes and of this name, by the secret that its operator gave
abbrev pub cluster_key : List ℕ → ℕ → List ℕ → List ℕ
cluster_key secret nodes name = block_of (hmac secret (context nodes name))
