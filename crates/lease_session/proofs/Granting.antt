-- Which requests a machine grants, by what it keeps behind its answer.
use Rattle.std.proofs.Common.{◌≡◌, ◌⊎◌, ℕ, ◌+◌, ◌<◌, ◌≤◌, Option, Some, None, inl, inr, refl, sym, ◌∙◌, ap, subst, arith}
use Rattle.lease_runs.specs.declared.client_id.ClientId.{ClientId}
use Rattle.lease_runs.specs.declared.voter.LeaseVoter.{LeaseVoter}
use Rattle.lease_runs.specs.Voter.{Client, Voter, MayGrant, grants}
use Rattle.lease_runs.specs.Code.{CanGrant, IsStep, ask_of, client_of, view}
use Rattle.lease_network.specs.Network.{Name, ask_at}
use Rattle.lease_machine.specs.declared.name_entry.NameEntry.{NameEntry}
use Rattle.lease_machine.specs.declared.state.LeaseMachine.{LeaseMachine}
use Rattle.lease_machine.specs.Kept.{IsEntry}
use Rattle.lease_machine.specs.Machine.{AllStay, HasNoRoom, unknown, voter_at, voter_in}
use Rattle.lease_machine.specs.Names.{entry_of}
use Rattle.lease_message.specs.declared.message.LeaseMessage.{LeaseMessage}
use Rattle.lease_message.specs.declared.message.Reason.{Reason}
use Rattle.lease_message.specs.declared.message.Reason.TheVariants.{Full}
use Rattle.lease_session.specs.declared.process.LeaseProcess.{LeaseProcess}
use Rattle.lease_session.specs.declared.voting.Answer.{Answer}
use Rattle.lease_session.specs.declared.voting.Answer.TheVariants as answer
use Rattle.lease_session.specs.Rows.{asker}
use Rattle.lease_session.specs.Turns.{IsRightVote}
use Rattle.lease_session.specs.Votes.{IsForbidden, IsGrantable, IsGrantedBy, IsLastGrant, IsRefusedFor}
use Rattle.lease_session.proofs.Machines.{of_found}

-- each name's voter grants up to the bound of the machine
pub bound_at : (c : LeaseMachine) (name : Name) → (voter_at c name).bound ≡ c.bound
bound_at c name = by_entry (entry_of name c.names.items) refl
  where
    by_entry : (o : Option NameEntry) → entry_of name c.names.items ≡ o → (voter_in (unknown c) o).bound ≡ c.bound
    by_entry None is = refl
    by_entry (Some e) is = (of_found (IsEntry c.terms c.process c.claims c.began c.bound) name c.names.items e c.kept.entries is).allowed

pub granted_last : (now epoch : ℕ) (client : ClientId) (old new : LeaseVoter)
    → ((number sent : ℕ) → IsStep old new now (grants (ask_of client number epoch sent)))
    → IsLastGrant new now (client_of client) epoch
granted_last now epoch client old new step =
    let h = step 0 0 (λ boot at. at) 0 now refl in
    record {
      of_epoch = ap (λ (v : Voter). v.last) h.1;
      to_client = ap (λ (v : Voter). v.holder) h.1;
      from_now = ap (λ (v : Voter). v.ends) h.1 ∙ ap (λ (k : ℕ). now + k) (sym h.2);
    }

-- what it may not grant stays so, since a refusal changes nothing
pub refused_so : (now epoch : ℕ) (client : ClientId) (x y : LeaseMachine) (name : Name) → AllStay x y
    → (CanGrant (voter_at x name) now client epoch → ⊥) → epoch ≤ x.bound
    → IsGrantable (voter_at y name) now (client_of client) epoch → ⊥
refused_so now epoch client x y name still never fits may =
    let it = subst (λ (v : LeaseVoter). IsGrantable v now (client_of client) epoch) (still name).0 may in
    never (it.0, subst (λ (b : ℕ). epoch ≤ b) (sym (bound_at x name)) fits, it.1)

-- nor does one for want of room
pub crowded_so : (now epoch : ℕ) (client : ClientId) (x y : LeaseMachine) (name : Name) → y ≡ x → HasNoRoom now name x
    → CanGrant (voter_at x name) now client epoch
    → IsGrantable (voter_at y name) now (client_of client) epoch × HasNoRoom now name y
crowded_so now epoch client x y name same none can =
    subst (λ (m : LeaseMachine). IsGrantable (voter_at m name) now (client_of client) epoch × HasNoRoom now name m) (sym same)
    ((can.0, can.2), none)

pub still_same : (x y : LeaseMachine) → y ≡ x → AllStay x y
still_same x y same = subst (λ (m : LeaseMachine). AllStay x m) (sym same) (λ name. (refl, refl))

-- another reason than `Full`
pub forbidden : {machine : Option LeaseMachine} {now : ℕ} {name : Name} {client : Client} {epoch : ℕ} (reason : Reason)
    → (reason ≡ Full → ⊥) → IsForbidden machine now name client epoch
    → IsRefusedFor reason machine now name client epoch
forbidden reason other never = record { full = λ is. absurd (other is); not_full = λ is. never }

the_id : ℕ → ℕ → ℕ → ClientId
the_id machine boot number = record { machine = machine; boot = boot; number = number }

same_id : (a b : ClientId) → client_of a ≡ client_of b → a ≡ b
unfolding the_id
same_id a b e = ap (λ (n : ℕ). the_id n a.boot a.number) (ap (λ (c : Client). c.machine) e)
    ∙ (ap (λ (n : ℕ). the_id b.machine n a.number) (ap (λ (c : Client). c.boot) e)
    ∙ ap (λ (n : ℕ). the_id b.machine b.boot n) (ap (λ (c : Client). c.number) e))

some_client : (a b : Client) → Some a ≡ Some b → a ≡ b
some_client a b e = cc

-- while another client has the grant nothing is granted
pub held_out : (now epoch : ℕ) (client : ClientId) (v : LeaseVoter) (holder : ClientId) → v.holder ≡ Some holder → (holder ≡ client → ⊥)
    → now < v.ends
    → IsGrantable v now (client_of client) epoch → ⊥
held_out now epoch client v holder has other lasts may = by_rule may.1
  where
    its : (view 0 v).holder ≡ Some (client_of holder)
    its = ap (λ (o : Option ClientId). (view 0 (record v { holder = o })).holder) has

    not_its : (view 0 v).holder ≡ Some (client_of client) → ⊥
    not_its own = other (same_id holder client (some_client (client_of holder) (client_of client) (sym its ∙ own)))

    not_none : (view 0 v).holder ≡ None → ⊥
    not_none none = absurd (let bad : Some (client_of holder) ≡ None = sym its ∙ none in cc)

    by_rule : MayGrant (view 0 v) now (ask_at (client_of client) 0 epoch 0) → ⊥
    by_rule (inl (above, inl none)) = not_none none
    by_rule (inl (above, inr (inl ended))) = absurd (omega (arith, lasts, ended))
    by_rule (inl (above, inr (inr own))) = not_its own
    by_rule (inr (own, last)) = not_its own

-- ---- what a message asks for

pub right_granted : (now : ℕ) (a b : LeaseProcess) {it : Answer} {client : Client} (m : LeaseMessage) → it ≡ answer.Granted
    → client ≡ asker m.client → b.machine ≡ a.machine
    → IsRightVote it a.machine now m.name client m.epoch → IsGrantedBy b.machine now m.name (asker m.client) m.epoch
right_granted now a b {client = client} m is same kept right =
    subst (λ (o : Option LeaseMachine). IsGrantedBy o now m.name (asker m.client) m.epoch) (sym kept)
    (subst (λ (k : Client). IsGrantedBy a.machine now m.name k m.epoch) same
    (subst (λ (x : Answer). IsRightVote x a.machine now m.name client m.epoch) is right))

pub right_refused : (now : ℕ) (a b : LeaseProcess) {lasts : ℕ} {it : Answer} {client : Client} {reason : Reason} (m : LeaseMessage)
    → it ≡ answer.Refused reason lasts
    → client ≡ asker m.client → b.machine ≡ a.machine → IsRightVote it a.machine now m.name client m.epoch
    → IsRefusedFor reason b.machine now m.name (asker m.client) m.epoch
right_refused now a b {client = client} {reason = reason} m is same kept right =
    subst (λ (o : Option LeaseMachine). IsRefusedFor reason o now m.name (asker m.client) m.epoch) (sym kept)
    (subst (λ (k : Client). IsRefusedFor reason a.machine now m.name k m.epoch) same
    (subst (λ (x : Answer). IsRightVote x a.machine now m.name client m.epoch) is right))
