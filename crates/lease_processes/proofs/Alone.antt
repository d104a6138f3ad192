-- A machine that is alone meets the premises.
use Rattle.std.proofs.Common.{◌≡◌, ℕ, ◌≤◌, Bool, [], Option, Some, None, refl, sym, ap, subst, arith}
use Rattle.std.specs.Prelude.{◌==◌, if◌then◌else◌, max}
use Rattle.std.proofs.lemmas.Bool.{eq-eqb}
use Rattle.lease_network.specs.Laws.{AreClocks}
use Rattle.lease_machine.specs.declared.state.LeaseMachine.{LeaseMachine}
use Rattle.lease_machine.specs.declared.terms.LeaseTerms.{LeaseTerms}
use Rattle.lease_session.specs.Feeding.{At, IsNew}
use Rattle.lease_session.specs.Holding.{AreHoldersTold}
use Rattle.lease_session.specs.Own.{bound_by}
use Rattle.lease_session.specs.Steps.{IsSound, LinesAreSteps}
use Rattle.lease_processes.specs.Alone.{PremisesAreMet, true_time}

-- one that begins is sound
pub new_sound : (a : At) → IsNew a.process.terms a.process.start [] a → IsSound a
new_sound a new = record {
  goes_on = λ off. new.6;
  reserved = subst (λ (o : Option LeaseMachine). bound_by a.process.start o ≤ max a.reserved a.process.start.floor) (sym new.3)
      (omega arith);
  holders = λ none. subst (λ (o : Option LeaseMachine). AreHoldersTold o a.process.told.items) (sym new.3) tt;
}

pub clocks : (t : LeaseTerms) → AreClocks (true_time t)
clocks t = record { rates = λ machine boot s e less. (omega (arith, less), omega (arith, less)); margin = t.margin }

is_here : (n : ℕ) (a : At) → (if n == n then Some a else None) ≡ Some a
is_here n a = ap (λ (b : Bool). if b then Some a else None) (eq-eqb n n refl)

pub premises_are_met : LinesAreSteps → PremisesAreMet
premises_are_met law line time old new is_new answers tells brings =
    let it = law line old new answers (new_sound old is_new) in (
      clocks old.process.terms,
      (
        it.0,
        (
          (
            tt,
            omega arith,
            record {
              is_new = is_new;
              machine = refl;
              of_terms = record { nodes = refl; keeps = refl; relies_for = refl };
              own_number = λ h. h.among;
              floor = omega arith;
            },
          ),
          omega arith,
          record {
            before = old;
            runs = is_here old.process.terms.machine old;
            same = refl;
            clock = tells;
            brought = λ message may. absurd (brings message may);
            answered = it.1;
          },
        ),
      ),
    )
