-- The ids of a set are below the greatest count of nodes.
use Rattle.std.proofs.Common.{◌≡◌, ℕ, ◌+◌, ◌≤◌, true, ltb, List, [], ◌∷◌, refl, arith}
use Rattle.std.specs.Prelude.{nat_lt}
use Rattle.std.specs.List.{list_all}
use Rattle.std.proofs.lemmas.Bool.{lt-ltb}
use Rattle.group_task.specs.Ids.{RisesWithin, IsSet}
use Rattle.group_task.specs.declared.node.TheConstants.{NODES}

risen_known : (low limit nodes : ℕ) (ids : List ℕ) → limit ≤ nodes → RisesWithin low limit ids → list_all (λ id. nat_lt id nodes) ids ≡ true
risen_known low limit nodes [] most rises = refl
risen_known low limit nodes (x ∷ xs) most rises =
    let first : ltb x nodes ≡ true = lt-ltb x nodes (omega (arith, rises.1, most)) in
    rw first (risen_known (x + 1) limit nodes xs most rises.2)

pub set_known : (nodes : ℕ) (ids : List ℕ) → NODES ≤ nodes → IsSet ids → list_all (λ id. nat_lt id nodes) ids ≡ true
set_known nodes ids most set = risen_known 0 NODES nodes ids most set
