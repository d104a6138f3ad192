-- What is kept of a name stands for a voter of the model.
use Rattle.std.proofs.Common.{◌≡◌, ℕ, ◌+◌, ◌≤◌, true, refl, sym, ap, subst, ◌∙◌, inl, inr, arith}
use Rattle.std.specs.Prelude.{◌⊎◌, Option, Some, None, option_map}
use Rattle.lease_runs.specs.declared.client_id.ClientId.{ClientId}
use Rattle.lease_runs.specs.declared.voter.LeaseVoter.{LeaseVoter}
use Rattle.lease_runs.specs.Voter.{Voter, VoterEvent, MayGrant, IsPossible, after, grants, passes, raises, releases, restarts}
use Rattle.lease_runs.specs.Code.{IsStep, client_of, view}
use Rattle.lease_machine.specs.Names.{is_over}
use Rattle.lease_machine.specs.Machine.{Stays}
use Rattle.lease_machine.specs.Standing.{IsBehind, Stands}

pub later : (boot now time : ℕ) (c : LeaseVoter) (v : Voter) → now ≤ time → Stands boot now c v → Stands boot time c v
later boot now time c v less (inl is) = inl is
later boot now time c v less (inr b) =
    inr (record {
      bound = b.bound;
      booted = b.booted;
      began = b.began;
      last = b.last;
      free = b.free;
      over = elim b.over [ inl none ↦ inl none | inr ends ↦ inr (omega (arith, ends, less)) ];
    })

over_is : (holder : Option ClientId) (ends now : ℕ) → is_over holder ends now ≡ true → (option_map client_of holder ≡ None) ⊎ (ends ≤ now)
over_is None ends now h = inl refl
over_is (Some holder) ends now h = inr (grind arith)

pub stays : (boot now : ℕ) (c d : LeaseVoter) (v : Voter) → Stays now c d → Stands boot now c v → Stands boot now d v
stays boot now c d v (inl same) stands = subst (λ (x : LeaseVoter). Stands boot now x v) (sym same) stands
stays boot now c d v (inr f) (inl is) = subst (λ (w : Voter). Stands boot now d w) is (inr (record {
  bound = sym f.bound;
  booted = refl;
  began = sym f.began;
  last = f.last;
  free = f.free;
  over = over_is c.holder c.ends now f.over;
}))
stays boot now c d v (inr f) (inr b) = inr (record {
  bound = b.bound ∙ sym f.bound;
  booted = b.booted;
  began = b.began ∙ sym f.began;
  last = omega (arith, b.last, f.last);
  free = f.free;
  over = b.over;
})

not_some : {A : Type 0} {x : A} → None ≡ Some x → ⊥
not_some e = cc

none_shown : (holder : Option ClientId) → option_map client_of holder ≡ None → holder ≡ None
none_shown None e = refl
none_shown (Some h) e = absurd cc

-- a step of what was forgotten
behind_steps : (boot now : ℕ) (c d : LeaseVoter) (what : VoterEvent) (v : Voter) (clock : ℕ → ℕ → ℕ) (at : ℕ) → clock boot at ≡ now
    → IsBehind boot now c v
    → IsPossible c.keeps clock (view boot c) at what → view boot d ≡ after c.keeps clock (view boot c) at what
    → IsPossible c.keeps clock v at what × Stands boot now d (after c.keeps clock v at what)
behind_steps boot now c d (grants ask) v clock at shows b possible is =
    let time : clock v.boot at ≡ now = ap (λ (n : ℕ). clock n at) b.booted ∙ shows in
    let may : MayGrant v (clock v.boot at) ask = elim possible.2 [
      | inl above ↦ inl (
        omega (arith, b.last, above.0),
        elim b.over [
          | inl none ↦ inl none
          | inr ends ↦ inr (inl (omega (arith, ends, time)))
        ],
      )
      | inr own ↦ absurd (not_some (sym (ap (option_map client_of) b.free) ∙ own.0))
    ] in
    let bound : c.bound ≡ v.bound = sym b.bound in
    let booted : boot ≡ v.boot = sym b.booted in
    let began : c.began ≡ v.began = sym b.began in (
      (omega (arith, possible.0, b.began, time, shows), omega (arith, possible.1, b.bound), may),
      inl (is ∙ (λ i. record {
        bound = bound i;
        boot = booted i;
        began = began i;
        last = ask.epoch;
        holder = Some ask.client;
        ends = clock (booted i) at + c.keeps;
      })),
    )
behind_steps boot now c d passes v clock at shows b possible is = (
  tt,
  inr (record {
    bound = b.bound ∙ sym (ap (λ (x : Voter). x.bound) is);
    booted = b.booted;
    began = b.began ∙ sym (ap (λ (x : Voter). x.began) is);
    last = omega (arith, b.last, ap (λ (x : Voter). x.last) is);
    free = none_shown d.holder (ap (λ (x : Voter). x.holder) is ∙ ap (option_map client_of) b.free);
    over = b.over;
  }),
)
behind_steps boot now c d (releases client epoch) v clock at shows b possible is =
    absurd (not_some (sym (ap (option_map client_of) b.free) ∙ possible.0))
behind_steps boot now c d (raises bound) v clock at shows b possible is = (
  omega (arith, possible, b.bound),
  inr (record {
    bound = sym (ap (λ (x : Voter). x.bound) is);
    booted = b.booted;
    began = b.began ∙ sym (ap (λ (x : Voter). x.began) is);
    last = omega (arith, b.last, ap (λ (x : Voter). x.last) is);
    free = none_shown d.holder (ap (λ (x : Voter). x.holder) is ∙ ap (option_map client_of) b.free);
    over = b.over;
  }),
)
behind_steps boot now c d (restarts again floor) v clock at shows b possible is = (omega (arith, possible, b.bound), inl is)

pub steps : (boot now : ℕ) (c d : LeaseVoter) (what : VoterEvent) (v : Voter) (clock : ℕ → ℕ → ℕ) (at : ℕ) → clock boot at ≡ now
    → IsStep c d now what → Stands boot now c v
    → IsPossible c.keeps clock v at what × Stands boot now d (after c.keeps clock v at what)
steps boot now c d what v clock at shows step (inl is) =
    let h = step clock boot at shows in
    subst (λ (w : Voter). IsPossible c.keeps clock w at what × Stands boot now d (after c.keeps clock w at what)) is (h.0, inl h.1)
steps boot now c d what v clock at shows step (inr b) = let h = step clock boot at shows in
    behind_steps boot now c d what v clock at shows b h.0 h.1
