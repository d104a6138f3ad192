-- The message that an entry was brought: where it stands.
use Rattle.std.proofs.Common.{◌≡◌, ℕ, zero, suc, ◌+◌, ◌-◌, ◌<◌, List, [], ◌∷◌, length, take, drop, slice_get, Option, Some, None, refl, sym}
use Rattle.std.proofs.Common.{ap, ◌∙◌, subst, arith}
use Rattle.std.proofs.lemmas.Option.{same_Some}
use Rattle.wire_msg.specs.Envelope.{Envelope}
use Rattle.histories.specs.HistoryEvent.{brought}
use Rattle.trace_check.specs.declared.kept.PackedEvent.{PackedEvent}
use Rattle.trace_check.specs.declared.kept.PackedEvent.TheVariants as kept
use Rattle.trace_check.specs.declared.kept.PackedAction.{PackedAction}
use Rattle.trace_check.specs.declared.kept.PackedAction.TheVariants as done
use Rattle.trace_check.specs.Claims.{brought_by}
use Rattle.trace_check.specs.Kept.{delivered, part, event_said, action_said, delivered_at, brought_at, EventStands, ActionStands}

there : (ms : List Envelope) (i : ℕ) → i < length ms → (m : Envelope) × (slice_get ms i ≡ Some m)
there [] i within = absurd (omega (arith, within))
there (m ∷ ms) zero within = (m, refl)
there (m ∷ ms) (suc i) within = there ms i (omega (arith, within))

one_at : (ms : List Envelope) (i : ℕ) (m : Envelope) → slice_get ms i ≡ Some m → take 1 (drop i ms) ≡ m ∷ []
one_at [] i m is = absurd cc
one_at (x ∷ ms) zero m is = ap (λ (e : Envelope). e ∷ []) (same_Some x m is)
one_at (x ∷ ms) (suc i) m is = one_at ms i m is

part_one : (ms : List Envelope) (i : ℕ) (m : Envelope) → slice_get ms i ≡ Some m → part i (i + 1) ms ≡ m ∷ []
part_one ms i m is = ap (λ (k : ℕ). take k (drop i ms)) (let one : i + 1 - i ≡ 1 = omega arith in one) ∙ one_at ms i m is

-- ---- where it stands

abbrev pub BroughtAt : List Envelope → ℕ → List Envelope → Type 0
BroughtAt ms at is = (at < length ms) × (part at (at + 1) ms ≡ is)

event_brought : (ms : List Envelope) (p : List ℕ) (e : PackedEvent) (at : ℕ) → EventStands (length ms) (length p) e
    → delivered_at e ≡ Some at → BroughtAt ms at (brought (Some (event_said ms p e)))
event_brought ms p (kept.Deliver place) at h is =
    let at_i = there ms place h in
    subst (λ (k : ℕ). BroughtAt ms k (brought (Some (delivered (slice_get ms place))))) (same_Some place at is)
    (h, part_one ms place at_i.0 at_i.1 ∙ sym (ap (λ (o : Option Envelope). brought (Some (delivered o))) at_i.1))
event_brought ms p e at h is = absurd cc

pub brought_there : (ms : List Envelope) (p : List ℕ) (d : PackedAction) (at : ℕ) → ActionStands (length ms) (length p) d
    → brought_at d ≡ Some at → BroughtAt ms at (brought_by (action_said ms p d))
brought_there ms p (done.Done event) at h is = event_brought ms p event at h is
brought_there ms p (done.Faulted event) at h is = event_brought ms p event at h is
brought_there ms p d at h is = absurd cc

event_without : (ms : List Envelope) (p : List ℕ) (e : PackedEvent) → delivered_at e ≡ None → brought (Some (event_said ms p e)) ≡ []
event_without ms p (kept.Deliver place) is = absurd cc
event_without ms p e is = refl

pub brought_nowhere : (ms : List Envelope) (p : List ℕ) (d : PackedAction) → brought_at d ≡ None → brought_by (action_said ms p d) ≡ []
brought_nowhere ms p (done.Done event) is = event_without ms p event is
brought_nowhere ms p (done.Faulted event) is = event_without ms p event is
brought_nowhere ms p d is = refl
