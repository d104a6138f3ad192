-- The keys of the jobs in hand, once a job is taken or given up.
use Rattle.std.proofs.Common.{◌≡◌, ℕ, Bool, true, false, cond, not, ◌&&◌, ◌||◌, List, [], ◌∷◌, ◌++◌, ◌==◌, refl, sym, ap, ◌∙◌, subst}
use Rattle.std.specs.List.{list_any}
use Rattle.node_core.specs.declared.in_hand.InHand.{InHand}
use Rattle.node_core.specs.Held.{without_held}
use Rattle.node_core.specs.Listing.{AreKeys}
use Rattle.node_core.proofs.Holds.{holds_more, holds_without, once_more, once_without}

abbrev key_is : ℕ × ℕ → ℕ × ℕ → Bool
key_is a b = a.0 == b.0 && a.1 == b.1

abbrev has : List (ℕ × ℕ) → ℕ → ℕ → Bool
has keys origin id = list_any (key_is (origin, id)) keys

pub none_listed : (keys : List (ℕ × ℕ)) → keys ≡ [] → AreKeys [] keys
none_listed keys none = record {
  same = λ origin id. ap (λ (ks : List (ℕ × ℕ)). has ks origin id) none;
  once = tt;
}

pub listed_still : (jobs : List InHand) (old new : List (ℕ × ℕ)) → ((q : ℕ × ℕ) → list_any (key_is q) new ≡ list_any (key_is q) old)
    → AreKeys jobs old → AreKeys jobs new
listed_still jobs old new is keys = record {
  same = λ origin id. is (origin, id) ∙ keys.same origin id;
  once = keys.once;
}

pub listed_more : (jobs : List InHand) (job : InHand) (old new : List (ℕ × ℕ))
    → ((q : ℕ × ℕ) → list_any (key_is q) new ≡ cond (key_is (job.origin, job.id) q) true (list_any (key_is q) old))
    → has old job.origin job.id ≡ false → AreKeys jobs old → AreKeys (jobs ++ job ∷ []) new
listed_more jobs job old new is absent keys = record {
  same = λ origin id.
      is (origin, id) ∙ either (key_is (job.origin, job.id) (origin, id)) (has old origin id)
      ∙ ap (λ b. key_is (job.origin, job.id) (origin, id) || b) (keys.same origin id)
      ∙ sym (holds_more jobs job origin id);
  once = once_more jobs job keys.once (sym (keys.same job.origin job.id) ∙ absent);
}
  where
    either : (a b : Bool) → cond a true b ≡ (a || b)
    either true b = refl
    either false b = refl

pub listed_less : (jobs : List InHand) (origin id : ℕ) (old new : List (ℕ × ℕ))
    → ((q : ℕ × ℕ) → list_any (key_is q) new ≡ cond (key_is (origin, id) q) false (list_any (key_is q) old))
    → AreKeys jobs old → AreKeys (without_held jobs origin id) new
listed_less jobs origin id old new is keys = record {
  same = λ p k.
      is (p, k) ∙ ap (λ b. cond (key_is (origin, id) (p, k)) false b) (keys.same p k)
      ∙ sym (holds_without jobs origin id p k);
  once = once_without jobs origin id keys.once;
}

-- the key that was put is that of the job
pub noted : (jobs : List InHand) (job : InHand) (origin : ℕ) (added : Bool) (old new : List (ℕ × ℕ)) → origin ≡ job.origin
    → ((q : ℕ × ℕ) → list_any (key_is q) new ≡ cond (key_is (origin, job.id) q) true (list_any (key_is q) old))
    → added ≡ not (list_any (key_is (origin, job.id)) old) → added ≡ true → AreKeys jobs old → AreKeys (jobs ++ job ∷ []) new
noted jobs job origin added old new same is added_is is_added keys =
    listed_more jobs job old new
    (subst (λ (o : ℕ). (q : ℕ × ℕ) → list_any (key_is q) new ≡ cond (key_is (o, job.id) q) true (list_any (key_is q) old)) same is)
    (subst (λ (o : ℕ). has old o job.id ≡ false) same (not_listed (has old origin job.id) (sym added_is ∙ is_added)))
    keys
  where
    not_listed : (b : Bool) → not b ≡ true → b ≡ false
    not_listed true h = absurd cc
    not_listed false h = refl
