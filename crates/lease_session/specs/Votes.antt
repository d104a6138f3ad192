-- How a machine votes on a request, by what it keeps behind its answer.
use Rattle.std.specs.Prelude.{ℕ, ◌≡◌, ◌+◌, ◌≤◌, Option, Some, None}
use Rattle.lease_runs.specs.declared.voter.LeaseVoter.{LeaseVoter}
use Rattle.lease_runs.specs.Voter.{Client, MayGrant}
use Rattle.lease_runs.specs.Code.{view}
use Rattle.lease_network.specs.Network.{Name, ask_at}
use Rattle.lease_machine.specs.declared.state.LeaseMachine.{LeaseMachine}
use Rattle.lease_machine.specs.Machine.{HasNoRoom, voter_at}
use Rattle.lease_message.specs.declared.message.Reason.{Reason}
use Rattle.lease_message.specs.declared.message.Reason.TheVariants.{Full}

-- the rule of grants lets the voter grant the client this epoch now: it has waited behind its start, and the epoch is above its last, of a
-- name that is free or the
-- client's, or renews its grant
abbrev pub IsGrantable : LeaseVoter → ℕ → Client → ℕ → Type 0
IsGrantable v now client epoch = (v.began + v.keeps ≤ now) × MayGrant (view 0 v) now (ask_at client 0 epoch 0)

-- its last grant is that
pub record IsLastGrant (v : LeaseVoter) (now : ℕ) (client : Client) (epoch : ℕ) : Type 0 where
  pub of_epoch : v.last ≡ epoch
  pub to_client : (view 0 v).holder ≡ Some client
  pub from_now : v.ends ≡ now + v.keeps

-- the machine granted it
abbrev pub IsGrantedBy : Option LeaseMachine → ℕ → Name → Client → ℕ → Type 0
IsGrantedBy None now name client epoch = ⊥
IsGrantedBy (Some x) now name client epoch = IsLastGrant (voter_at x name) now client epoch

-- it may not grant it: it hasn't begun, or its voter of the name may not
abbrev pub IsForbidden : Option LeaseMachine → ℕ → Name → Client → ℕ → Type 0
IsForbidden None now name client epoch = Unit {0}
IsForbidden (Some x) now name client epoch = IsGrantable (voter_at x name) now client epoch → ⊥

-- its voter of the name may, but nothing is kept of the name, and each of the names that are kept is in use
abbrev pub IsCrowdedOut : Option LeaseMachine → ℕ → Name → Client → ℕ → Type 0
IsCrowdedOut None now name client epoch = ⊥
IsCrowdedOut (Some x) now name client epoch = IsGrantable (voter_at x name) now client epoch × HasNoRoom now name x

-- the machine refused it for this reason, which is `Full` exactly where there was no room
pub record IsRefusedFor (reason : Reason) (machine : Option LeaseMachine) (now : ℕ) (name : Name) (client : Client) (epoch : ℕ) :
    Type 0 where
  pub full : reason ≡ Full → IsCrowdedOut machine now name client epoch
  pub not_full : (reason ≡ Full → ⊥) → IsForbidden machine now name client epoch

-- epochs up to this one are reserved, once it has begun
abbrev pub IsAllowed : ℕ → Option LeaseMachine → Type 0
IsAllowed epoch None = Unit {0}
IsAllowed epoch (Some x) = epoch ≤ x.bound
