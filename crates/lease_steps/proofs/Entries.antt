-- What is true of each name of a machine, and what holds of a name holds of the others.
use Rattle.std.proofs.Common.{◌≡◌, ◌≢◌, ℕ, true, false, List, [], ◌∷◌, Option, Some, None, refl, sym, subst}
use Rattle.std.proofs.Common.{inl, inr}
use Rattle.std.specs.Prelude.{All, ◌==◌}
use Rattle.std.specs.Str.{bytes_eq}
use Rattle.std.proofs.lemmas.Bool.{both_ways, cases_Bool, cond_both, eqb-true, eq-eqb}
use Rattle.std.proofs.lemmas.List.Elements.{All-head, All-tail}
use Rattle.std.proofs.lemmas.Slice.Eq.{bytes_eq-Decides}
use Rattle.lease_runs.specs.Candidate.{Candidate}
use Rattle.lease_network.specs.Network.{Name, at_client, at_name}
use Rattle.lease_machine.specs.declared.name_entry.Claim.{Claim}
use Rattle.lease_machine.specs.declared.name_entry.NameEntry.{NameEntry}
use Rattle.lease_machine.specs.declared.state.LeaseMachine.{LeaseMachine}
use Rattle.lease_machine.specs.Names.{entry_of, is_same}
use Rattle.lease_machine.specs.Kept.{IsEntry, IsOwn}
use Rattle.lease_machine.specs.Machine.{claim_at, claim_in, unknown, voter_at, voter_in}

-- ---- entries

the_entry : (a b : NameEntry) → Some a ≡ Some b → a ≡ b
the_entry a b e = cc

-- what is true of all is true of the one that is found
of_found : (P : NameEntry → Type 0) (name : List ℕ) (es : List NameEntry) (d : NameEntry) → All P es → entry_of name es ≡ Some d → P d
of_found P name [] d all h = absurd cc
of_found P name (e ∷ es) d all h = cond_both (is_same e.name name) (Some e) (entry_of name es)
    (λ (o : Option NameEntry). o ≡ Some d → P d) (λ same is. subst P (the_entry e d is) (All-head P e es all))
    (λ other. of_found P name es d (All-tail P e es all)) h

pub keeps_at : (c : LeaseMachine) (name : Name) → (voter_at c name).keeps ≡ c.terms.keeps
keeps_at c name = by_entry (entry_of name c.names.items) refl
  where
    by_entry : (o : Option NameEntry) → entry_of name c.names.items ≡ o → (voter_in (unknown c) o).keeps ≡ c.terms.keeps
    by_entry None is = refl
    by_entry (Some e) is = (of_found (IsEntry c.terms c.process c.claims c.began c.bound) name c.names.items e c.kept.entries is).keeps

pub own_at : (c : LeaseMachine) (name : Name) (k : Claim) → claim_at c name ≡ Some k → IsOwn c.terms c.process c.claims k.candidate
own_at c name k = by_entry (entry_of name c.names.items) refl
  where
    by_entry : (o : Option NameEntry) → entry_of name c.names.items ≡ o → claim_in o ≡ Some k → IsOwn c.terms c.process c.claims k.candidate
    by_entry None is claimed = absurd cc
    by_entry (Some e) is claimed = (of_found (IsEntry c.terms c.process c.claims c.began c.bound) name c.names.items e c.kept.entries
        is).claim k claimed

-- ---- of the name, and of others

pub name_is : (n name : Name) → bytes_eq n name ≡ true → n ≡ name
name_is n name same = (bytes_eq-Decides n name).0 same

pub not_name : (n name : Name) → bytes_eq n name ≡ false → name ≢ n
not_name n name other is = both_ways (bytes_eq n name) other ((bytes_eq-Decides n name).1 (sym is))

pub by_test : (P : Type 0) (n name : Name) → (n ≡ name → P) → (name ≢ n → P) → P
by_test P n name same different =
    elim (cases_Bool (bytes_eq n name)) [ inl is ↦ same (name_is n name is) | inr is ↦ different (not_name n name is) ]

pub by_name : {A : Type 0} (P : A → Type 0) (name other : Name) (new old : Name → A) → (name ≡ other → P (new other))
    → (other ≢ name → P (old other))
    → P (at_name name new old other)
by_name P name other new old same different = cond_both (bytes_eq name other) (new other) (old other) P
    (λ is. same (name_is name other is)) (λ is. different (not_name name other is))

pub by_client : (P : Candidate → Type 0) (number other : ℕ) (new : Name → Candidate) (old : ℕ → Name → Candidate) (name : Name)
    → (number ≡ other → P (new name))
    → ((number ≡ other → ⊥) → P (old other name)) → P (at_client number new old other name)
by_client P number other new old name same different = cond_both (number == other) (new name) (old other name) P
    (λ is. same (eqb-true number other is)) (λ is. different (λ e. both_ways (number == other) is (eq-eqb number other e)))

-- where nothing is claimed anew under one name, and nothing under others
pub claims_same : (old new : LeaseMachine) (name : Name) → claim_at new name ≡ claim_at old name
    → ((other : Name) → other ≢ name → claim_at new other ≡ claim_at old other)
    → (other : Name) → claim_at new other ≡ claim_at old other
claims_same old new name mine others other = by_test (claim_at new other ≡ claim_at old other) name other
    (λ same. subst (λ (n : Name). claim_at new n ≡ claim_at old n) same mine) (λ differ. others other differ)
