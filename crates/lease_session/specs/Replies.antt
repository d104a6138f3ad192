-- How requests are answered: those of other machines' clients, and of users here.
use Rattle.std.specs.Prelude.{ℕ, ◌≡◌, ◌≢◌, ◌⊎◌, ◌==◌, ◌&&◌, nat_lt, not, true, false, Bool, List, [], ◌++◌, Option, Some, None, is_some}
use Rattle.lease_runs.specs.Lists.{IsAmong}
use Rattle.lease_runs.specs.Voter.{Client}
use Rattle.lease_network.specs.Network.{Name, request}
use Rattle.lease_message.specs.declared.message.LeaseBody.{LeaseBody}
use Rattle.lease_message.specs.declared.message.LeaseBody.TheVariants.{Request, Grant, Refusal, Release}
use Rattle.lease_message.specs.declared.message.LeaseMessage.{LeaseMessage}
use Rattle.lease_message.specs.declared.message.Reason.{Reason}
use Rattle.lease_message.specs.declared.message.Reason.TheVariants.{Terms}
use Rattle.lease_session.specs.declared.asked.Came.{Came}
use Rattle.lease_session.specs.declared.asked.Came.TheVariants as came
use Rattle.lease_session.specs.declared.process.LeaseProcess.{LeaseProcess}
use Rattle.lease_machine.specs.declared.terms.LeaseTerms.{LeaseTerms}
use Rattle.lease_machine.specs.declared.state.LeaseMachine.{LeaseMachine}
use Rattle.lease_machine.specs.Machine.{HasNoRoom, claim_at}
use Rattle.lease_machine.specs.declared.name_entry.Claim.{Claim}
use Rattle.lease_session.specs.declared.refusing.Refusal.{Refusal as Refused}
use Rattle.lease_session.specs.declared.refusing.Refusal.TheVariants as why
use Rattle.lease_session.specs.Rows.{asker, row_text, send, unserved}
use Rattle.lease_session.specs.Votes.{IsGrantedBy, IsRefusedFor}
use Rattle.lease_session.specs.Turns.{Carries, Turn, claim_of, key_of, sent_in}

-- whether a message is for the voter of this machine, of another machine's client
abbrev pub is_for : ℕ → ℕ → LeaseMessage → Bool
is_for self machines m = (m.voter == self) && (not (m.client.machine == self) && nat_lt m.client.machine machines)

-- a grant or a refusal of the request of this number
abbrev pub IsReply : ℕ → LeaseBody → Type 0
IsReply number (Request n keeps list) = ⊥
IsReply number (Grant n) = n ≡ number
IsReply number (Refusal n reason lasts) = n ≡ number
IsReply number Release = ⊥

-- the text ends with the line that answers the request by this body
pub record IsAnsweredBy (m : LeaseMessage) (body : LeaseBody) (p : LeaseProcess) : Type 0 where
  pub before : List ℕ
  pub epoch : ℕ
  pub bytes : List ℕ
  pub ends : p.text.items ≡ before ++ row_text (send m.client.machine (record m { epoch = epoch; body = body }) bytes)
  pub carried : Carries (key_of p.seal) bytes (record m { epoch = epoch; body = body })

-- a request under other terms is refused for that
abbrev pub IsOfOtherTerms : LeaseTerms → ℕ → ℕ → Reason → Type 0
IsOfOtherTerms t keeps list reason = (reason ≡ Terms) × ((keeps ≢ t.keeps) ⊎ (list ≢ t.list))

-- any other one is granted by the rule of grants: exactly where the machine's voter of the name may grant it, and there is room
abbrev pub IsRight : LeaseTerms → Option LeaseMachine → ℕ → LeaseMessage → ℕ → ℕ → LeaseBody → Type 0
IsRight t machine now m keeps list (Request n k l) = ⊥
IsRight t machine now m keeps list (Grant n) = (keeps ≡ t.keeps) × (list ≡ t.list) × IsGrantedBy machine now m.name (asker m.client) m.epoch
IsRight t machine now m keeps list (Refusal n reason lasts) =
    IsOfOtherTerms t keeps list reason ⊎ ((keeps ≡ t.keeps) × (list ≡ t.list)
    × IsRefusedFor reason machine now m.name (asker m.client) m.epoch)
IsRight t machine now m keeps list Release = ⊥

-- the text ends with the line that answers the request, as is right by what the machine keeps then
pub record IsReplied (t : LeaseTerms) (now : ℕ) (m : LeaseMessage) (number keeps list : ℕ) (p : LeaseProcess) : Type 0 where
  pub body : LeaseBody
  pub answered : IsAnsweredBy m body p
  pub reply : IsReply number body
  pub right : IsRight t p.machine now m keeps list body

abbrev pub RepliesBy : LeaseTerms → ℕ → LeaseMessage → LeaseProcess → LeaseBody → Type 0
RepliesBy t now m p (Request number keeps list) = is_for t.machine t.machines m ≡ true → p.halt ≡ None
    → IsReplied t now m number keeps list p
RepliesBy t now m p other = Unit {0}

-- a request to this voter is answered, as long as the process goes on
abbrev pub Replies : LeaseTerms → ℕ → LeaseMessage → LeaseProcess → Type 0
Replies t now m p = RepliesBy t now m p m.body

abbrev pub RepliesTo : LeaseTerms → ℕ → Came → LeaseProcess → Type 0
RepliesTo t now (came.Message m) p = Replies t now m p
RepliesTo t now other p = Unit {0}

-- ---- users

-- a request of a client here for the name was sent
pub record AsksFor (name : Name) (now : ℕ) (old new : LeaseProcess) : Type 0 where
  pub turn : Turn [] [] now old new
  pub client : Client
  pub number : ℕ
  pub epoch : ℕ
  pub sends : IsAmong (request name client number epoch) (sent_in [] turn.marks)

-- the text ends with the line that says why the user isn't served
pub record IsToldWhy (reason : Refused) (name : Name) (user : ℕ) (p : LeaseProcess) : Type 0 where
  pub before : List ℕ
  pub ends : p.text.items ≡ before ++ row_text (unserved reason name user)

-- somebody here asks for the name
abbrev pub IsClaimedIn : Option LeaseMachine → Name → Type 0
IsClaimedIn machine name = is_some (claim_of machine name) ≡ true

-- this user does
abbrev pub IsClaimedBy : Option LeaseMachine → Name → ℕ → Type 0
IsClaimedBy machine name user = (c : Claim) × (claim_of machine name ≡ Some c) × (c.user ≡ user)

-- nothing is kept of the name, and each of the names that are kept is in use
abbrev pub IsCrowdedIn : Option LeaseMachine → ℕ → Name → Type 0
IsCrowdedIn None now name = ⊥
IsCrowdedIn (Some m) now name = HasNoRoom now name m

-- one who asks isn't served for this reason, by what the machine keeps
abbrev pub IsUnservedFor : Refused → ℕ → Name → Option LeaseMachine → Type 0
IsUnservedFor why.Bad now name machine = ⊥
IsUnservedFor why.Time now name machine = ⊥
IsUnservedFor why.Terms now name machine = ⊥
IsUnservedFor why.Forged now name machine = ⊥
IsUnservedFor why.Stale now name machine = ⊥
IsUnservedFor why.Claimed now name machine = IsClaimedIn machine name
IsUnservedFor why.Full now name machine = IsCrowdedIn machine now name
IsUnservedFor why.Exhausted now name machine = Unit {0}
IsUnservedFor why.Waiting now name machine = machine ≡ None
IsUnservedFor why.Unclaimed now name machine = ⊥

-- the machine has begun, nobody here asks for the name, and there is room for it
abbrev pub IsFreeIn : Option LeaseMachine → ℕ → Name → Type 0
IsFreeIn None now name = ⊥
IsFreeIn (Some m) now name = (is_some (claim_at m name) ≡ false) × (HasNoRoom now name m → ⊥)

-- who begins to ask is asked for at once, or there is no number or epoch left for that, as long as the process goes on
abbrev pub AsksOrEnds : Name → ℕ → ℕ → LeaseProcess → LeaseProcess → Type 0
AsksOrEnds name user now old new = AsksFor name now old new ⊎ (new.halt ≡ None → IsToldWhy why.Exhausted name user new)

-- the user is told why it isn't served, as long as the process goes on, by what the machine kept when it was asked
pub record IsNotServed (name : Name) (user now : ℕ) (old new : LeaseProcess) : Type 0 where
  pub kept : LeaseProcess
  pub by_then : Turn [] [] now old kept
  pub reason : Refused
  pub right : IsUnservedFor reason now name kept.machine
  pub told : new.halt ≡ None → IsToldWhy reason name user new

-- the name is asked for at once, where nothing stood against that when it was asked
pub record IsServed (name : Name) (now : ℕ) (old new : LeaseProcess) : Type 0 where
  pub kept : LeaseProcess
  pub by_then : Turn [] [] now old kept
  pub free : IsFreeIn kept.machine now name
  pub asks : AsksFor name now old new

abbrev pub Asks : Name → ℕ → ℕ → LeaseProcess → LeaseProcess → Type 0
Asks name user now old new = IsServed name now old new ⊎ IsNotServed name user now old new

-- Nobody asks for the name any more, where this user did when it was asked; or else the user is told so, as long as the process goes on.
pub record Releases (name : Name) (user now : ℕ) (old new : LeaseProcess) : Type 0 where
  pub kept : LeaseProcess
  pub by_then : Turn [] [] now old kept
  pub done : (IsClaimedBy kept.machine name user × (IsClaimedIn new.machine name → ⊥))
      ⊎ ((IsClaimedBy kept.machine name user → ⊥) × (new.halt ≡ None → IsToldWhy why.Unclaimed name user new))

abbrev pub AsksTo : Came → ℕ → LeaseProcess → LeaseProcess → Type 0
AsksTo (came.Acquire name user) now old new = Asks name user now old new
AsksTo (came.Release name user) now old new = Releases name user now old new
AsksTo other now old new = Unit {0}
