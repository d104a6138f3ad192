use Rattle.std.proofs.Common.{◌≡◌, ℕ, ◌+◌, ◌<◌, List, [], ◌∷◌, drop, length, get_or, refl, sym, ◌∙◌, arith, drop-cons, add-one}
use Rattle.std.specs.Prelude.{Option, Some, None, MatchOption, IsSome}
use Rattle.group_task.proofs.IdLaws.{has_dropped}
use Rattle.group_task.proofs.members.Members.get.Goals as goal

popped : (xs now new : List ℕ) (i : ℕ) (r : Option ℕ) → now ≡ drop i xs → i < length xs
    → MatchOption r ((now ≡ []) × (new ≡ [])) (λ id. now ≡ id ∷ new) → (new ≡ drop (i + 1) xs) × IsSome r
popped xs now new i None e lt h = let next : now ≡ get_or xs i 0 ∷ drop (i + 1) xs = e ∙ rw add-one (drop-cons xs i 0 lt) in
    let none : now ≡ [] = h.0 in absurd cc
popped xs now new i (Some id) e lt h = let next : now ≡ get_or xs i 0 ∷ drop (i + 1) xs = e ∙ rw add-one (drop-cons xs i 0 lt) in
    let here : now ≡ id ∷ new = h in (cc, refl)

pub loop-preserved : goal.loop-preserved
loop-preserved c = (popped c.args.self.now c.loop.left c.pop_first.new.self c.loop.counter c.pop_first.result c.loop.invariant (omega arith)
    c.pop_first.ensures).0

pub unwrap-requires : goal.unwrap-requires
unwrap-requires c = (popped c.args.self.now c.loop.left c.pop_first-2.new.self c.loop.counter c.pop_first-2.result c.loop.invariant
    (omega arith) c.pop_first-2.ensures).1

pub returns-clause-member : goal.returns-clause-member
returns-clause-member c =
    let next : c.loop.left ≡ c.unwrap.result ∷ c.pop_first-2.new.self = rw c.unwrap.ensures at c.pop_first-2.ensures in
    has_dropped c.args.self.now c.pop_first-2.new.self c.loop.counter c.unwrap.result (sym c.loop.invariant ∙ next)
