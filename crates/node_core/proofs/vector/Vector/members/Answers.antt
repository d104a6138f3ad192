use Rattle.std.proofs.Common.{◌≡◌, ◌≢◌, ℕ, List, [], ◌∷◌, true}
use Rattle.group_task.specs.Ids.{has, IsSet}
use Rattle.group_task.specs.Shares.{OneOwner, IsEven, AreShared}
use Rattle.node_core.proofs.vector.Vector.members.Goals as goal

filled : (xs : List ℕ) (id : ℕ) → has xs id ≡ true → xs ≢ []
filled [] id h = absurd cc
filled (x ∷ xs) id h = λ none. cc

shared : (members : List ℕ) (id : ℕ) → OneOwner → IsEven → IsSet members → has members id ≡ true → AreShared members
shared members id one even set in_it = record {
  member = λ queue lt. (one members queue set (filled members id in_it) lt).0;
  once = λ queue lt. (one members queue set (filled members id in_it) lt).1;
  even = λ a b has_a has_b. even members a b set has_a has_b;
}

pub returns-in-Some-clause-shared : goal.returns-in-Some-clause-shared
returns-in-Some-clause-shared c = λ there. rw c.members.ensures.value
    (shared c.in-Some.task.members c.in-Some.task.group.creator c.one_owner.ensures c.even_shares.ensures c.members.ensures.set
    c.members.ensures.creator)
