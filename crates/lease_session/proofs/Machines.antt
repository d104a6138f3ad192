-- What is true of each client of a machine, and what stays with its terms and its process.
use Rattle.std.proofs.Common.{◌≡◌, ◌≢◌, ℕ, false, List, [], ◌∷◌, Option, Some, None, refl, sym, ap, subst, ◌∙◌}
use Rattle.std.specs.Prelude.{All, ◌==◌}
use Rattle.std.specs.Str.{bytes_eq}
use Rattle.std.proofs.lemmas.Bool.{both_ways, cond_both, eqb-true, eq-eqb}
use Rattle.std.proofs.lemmas.Slice.Eq.{bytes_eq-Decides}
use Rattle.std.proofs.lemmas.List.Elements.{All-head, All-tail}
use Rattle.lease_runs.specs.declared.candidate.LeaseCandidate.{LeaseCandidate}
use Rattle.lease_runs.specs.Candidate.{Candidate}
use Rattle.lease_runs.specs.CandidateCode.{Shows}
use Rattle.lease_network.specs.Network.{Name, Terms, at_client, at_name}
use Rattle.lease_machine.specs.declared.name_entry.Claim.{Claim}
use Rattle.lease_machine.specs.declared.name_entry.NameEntry.{NameEntry}
use Rattle.lease_machine.specs.declared.state.LeaseMachine.{LeaseMachine}
use Rattle.lease_machine.specs.declared.terms.LeaseTerms.{LeaseTerms}
use Rattle.lease_machine.specs.Names.{entry_of, is_same}
use Rattle.lease_machine.specs.Kept.{IsEntry, IsOwn}
use Rattle.lease_machine.specs.Machine.{claim_at, claim_in}
use Rattle.lease_steps.specs.StandsFor.{clock_of}

the_entry : (a b : NameEntry) → Some a ≡ Some b → a ≡ b
the_entry a b e = cc

-- what is true of all is true of the one that is found
pub of_found : (P : NameEntry → Type 0) (name : List ℕ) (es : List NameEntry) (d : NameEntry) → All P es → entry_of name es ≡ Some d → P d
of_found P name [] d all h = absurd cc
of_found P name (e ∷ es) d all h = cond_both (is_same e.name name) (Some e) (entry_of name es)
    (λ (o : Option NameEntry). o ≡ Some d → P d) (λ same is. subst P (the_entry e d is) (All-head P e es all))
    (λ other. of_found P name es d (All-tail P e es all)) h

pub own_at : (c : LeaseMachine) (name : Name) (k : Claim) → claim_at c name ≡ Some k → IsOwn c.terms c.process c.claims k.candidate
own_at c name k = by_entry (entry_of name c.names.items) refl
  where
    by_entry : (o : Option NameEntry) → entry_of name c.names.items ≡ o → claim_in o ≡ Some k → IsOwn c.terms c.process c.claims k.candidate
    by_entry None is claimed = absurd cc
    by_entry (Some e) is claimed = (of_found (IsEntry c.terms c.process c.claims c.began c.bound) name c.names.items e c.kept.entries
        is).claim k claimed

pub same_clock : (old new : LeaseMachine) (terms : Terms) → new.terms ≡ old.terms → new.process ≡ old.process
    → clock_of terms old ≡ clock_of terms new
same_clock old new terms same process =
    ap (λ (t : LeaseTerms). terms.clock t.machine old.process) (sym same) ∙ ap (λ (p : ℕ). terms.clock new.terms.machine p) (sym process)

pub shows_still : (old new : LeaseMachine) (terms : Terms) (c : LeaseCandidate) (v : Candidate) → new.terms ≡ old.terms
    → new.process ≡ old.process
    → Shows (clock_of terms old) c v → Shows (clock_of terms new) c v
shows_still old new terms c v same process shows = subst (λ (k : ℕ → ℕ). Shows k c v) (same_clock old new terms same process) shows

-- ---- of the name and the client, and of others

pub not_same : (a b : ℕ) → (a == b) ≡ false → a ≡ b → ⊥
not_same a b differ same = both_ways (a == b) differ (eq-eqb a b same)

pub not_name : (n name : Name) → bytes_eq n name ≡ false → name ≢ n
not_name n name other is = both_ways (bytes_eq n name) other ((bytes_eq-Decides n name).1 (sym is))

pub by_name : {A : Type 0} (P : A → Type 0) (name other : Name) (new old : Name → A) → (name ≡ other → P (new other))
    → (other ≢ name → P (old other))
    → P (at_name name new old other)
by_name P name other new old same different = cond_both (bytes_eq name other) (new other) (old other) P
    (λ is. same ((bytes_eq-Decides name other).0 is)) (λ is. different (not_name name other is))

pub by_client : (P : Candidate → Type 0) (number other : ℕ) (new : Name → Candidate) (old : ℕ → Name → Candidate) (name : Name)
    → (number ≡ other → P (new name))
    → ((number ≡ other → ⊥) → P (old other name)) → P (at_client number new old other name)
by_client P number other new old name same different = cond_both (number == other) (new name) (old other name) P
    (λ is. same (eqb-true number other is)) (λ is. different (not_same number other is))
