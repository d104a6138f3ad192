-- A look at the timers.
use Rattle.std.proofs.Common.{◌≡◌, ◌⊎◌, inl, inr, ℕ, Bool, true, false, not, refl, sym, subst, ap, ◌∙◌, Option, is_some}
use Rattle.std.specs.Prelude.{◌&&◌}
use Rattle.node_core.specs.declared.event.Event.{Event}
use Rattle.node_timers.specs.declared.snapshot.NodeSnapshot.{NodeSnapshot}
use Rattle.node_timers.specs.Policy.{Policy, all_answered}
use Rattle.node_timers.specs.Retransmission.{Waits, is_answered}
use Rattle.histories.specs.NodeState.{NodeState}
use Rattle.node_session.specs.Ticks.{IsNext, Ticks}
use Rattle.node_session.specs.Timing.{Timers, IsSeen, IsToldNext, Looks, LooksAgain, LooksIn}

pub looks_so : (seen : NodeSnapshot) (w : Waits) (old look here : Timers) (first : Option Event) (between : Policy) (fired : Option Event)
    (new : Policy) → here ≡ look → LooksIn seen.group old look → Ticks seen here.policy first between
    → LooksAgain (not (is_some first) && is_answered seen w) seen first between fired new
    → Looks seen w old fired (record here { policy = new })
looks_so seen w old look here first between fired new is group ticks again = record {
  here = here;
  first = first;
  between = between;
  group = subst (λ (t : Timers). LooksIn seen.group old t) (sym is) group;
  ticks = ticks;
  again = again;
  same = refl;
}

once : (a b : Bool) → (a ≡ true) ⊎ (b ≡ false) → (not a && b) ≡ false
once true b either = refl
once false true (inl bad) = absurd cc
once false true (inr bad) = absurd cc
once false false either = refl

pub ends_there : (seen : NodeSnapshot) (w : Waits) (first : Option Event) (between : Policy)
    → (is_some first ≡ true) ⊎ (is_answered seen w ≡ false) → LooksAgain (not (is_some first)
    && is_answered seen w) seen first between first between
ends_there seen w first between either = subst (λ (b : Bool). LooksAgain b seen first between first between)
    (sym (once (is_some first) (is_answered seen w) either)) (refl, refl)

twice : (a b : Bool) → a ≡ false → b ≡ true → (not a && b) ≡ true
twice a b none is = ap (λ (x : Bool). not x && b) none ∙ ap (λ (x : Bool). not false && x) is

pub goes_on : (seen : NodeSnapshot) (w : Waits) (first : Option Event) (between over : Policy) (fired : Option Event) (new : Policy)
    → is_some first ≡ false → is_answered seen w ≡ true → over ≡ all_answered seen between
    → Ticks seen over fired new → LooksAgain (not (is_some first) && is_answered seen w) seen first between fired new
goes_on seen w first between over fired new none is told ticks =
    subst (λ (b : Bool). LooksAgain b seen first between fired new) (sym (twice (is_some first) (is_answered seen w) none is))
    (subst (λ (p : Policy). Ticks seen p fired new) told ticks)

-- what is said of the timers and of what is waited for, of a session that has both
pub next_so : (self now : ℕ) (s : NodeState) (seen : NodeSnapshot) (p : Policy) (v w : Waits) (t : Timers) (due : ℕ) → IsSeen self s seen
    → IsNext now p v seen due → p ≡ t.policy → v ≡ w → IsToldNext self s w t now due
next_so self now s seen p v w t due is_seen next policy waits = record {
  seen = seen;
  is_seen = is_seen;
  next = subst (λ (x : Waits). IsNext now t.policy x seen due) waits (subst (λ (q : Policy). IsNext now q v seen due) policy next);
}
