-- What a process does and writes: steps of its machine over a network, and lines that tell of them.
use Rattle.std.specs.Prelude.{ℕ, ◌≡◌, ◌⊎◌, ◌+◌, ◌<◌, ◌≤◌, max, List, [], ◌∷◌, ◌++◌, Option, Some, None, option_map}
use Rattle.sealed_msg.specs.declared.stamp.Stamp.{Stamp}
use Rattle.sealed_msg.specs.Sealing.{sealed}
use Rattle.lease_runs.specs.Lists.{IsAmong}
use Rattle.lease_runs.specs.Voter.{Client, Ask}
use Rattle.lease_network.specs.Network.{Name, Message, request, grant, release, Event, begins, sends, takes, Terms, Machine, MayDo, done}
use Rattle.lease_message.specs.declared.message.LeaseBody.{LeaseBody}
use Rattle.lease_message.specs.declared.message.LeaseBody.TheVariants.{Request, Grant, Refusal, Release}
use Rattle.lease_message.specs.declared.message.LeaseMessage.{LeaseMessage}
use Rattle.lease_message.specs.Spelling.{Spells}
use Rattle.lease_machine.specs.declared.terms.LeaseTerms.{LeaseTerms}
use Rattle.lease_runs.specs.declared.client_id.ClientId.{ClientId}
use Rattle.lease_runs.specs.Code.{client_of}
use Rattle.lease_machine.specs.declared.voting.Vote.{Vote}
use Rattle.lease_machine.specs.declared.voting.Vote.TheVariants.{Granted, Refused}
use Rattle.lease_machine.specs.declared.name_entry.Claim.{Claim}
use Rattle.lease_machine.specs.declared.state.LeaseMachine.{LeaseMachine}
use Rattle.lease_machine.specs.Machine.{claim_at}
use Rattle.lease_steps.specs.StandsFor.{AreOf, StandsFor}
use Rattle.lease_session.specs.declared.refusing.Halt.TheVariants.{NoMemory}
use Rattle.lease_session.specs.declared.process.LeaseProcess.{LeaseProcess}
use Rattle.lease_session.specs.declared.process.Start.{Start}
use Rattle.lease_session.specs.declared.seals.LeaseSeal.{LeaseSeal}
use Rattle.lease_session.specs.declared.voting.Answer.{Answer}
use Rattle.lease_session.specs.declared.voting.Answer.TheVariants as answer
use Rattle.lease_runs.specs.declared.candidate.Request.{Request as ClientRequest}
use Rattle.lease_session.specs.Holding.{AreHoldersTold}
use Rattle.lease_session.specs.Marks.{Mark, did, wrote}
use Rattle.lease_session.specs.Own.{bound_by}
use Rattle.lease_session.specs.Rows.{Row, send, held, lost, row_text, said}
use Rattle.lease_session.specs.Telling.{AreTold, told_after, told_row}
use Rattle.lease_session.specs.Votes.{IsGrantedBy, IsRefusedFor}

-- ---- marks

-- the lines among them
abbrev pub text_of : List Mark → List ℕ
text_of [] = []
text_of (did by what ∷ marks) = text_of marks
text_of (wrote row ∷ marks) = row_text row ++ text_of marks

-- the messages that a step sends, as the network has it
abbrev pub sent_by : Client → Event → List Message
sent_by by (sends (grant name client number voter)) = []
sent_by by (sends (request name client number epoch)) = request name client number epoch ∷ []
sent_by by (sends (release name client epoch)) = release name client epoch ∷ []
sent_by by (takes (request name client number epoch)) = grant name client number by.machine ∷ []
sent_by by (takes other) = []
sent_by by other = []

-- with those of the steps among the marks
abbrev pub sent_in : List Message → List Mark → List Message
sent_in sent [] = sent
sent_in sent (did by what ∷ marks) = sent_in (sent_by by what ++ sent) marks
sent_in sent (wrote row ∷ marks) = sent_in sent marks

-- what the machine keeps then
abbrev pub after_marks : Terms → ℕ → Machine → List Mark → Machine
after_marks terms at m [] = m
after_marks terms at m (did by what ∷ marks) = after_marks terms at (done terms by m at what) marks
after_marks terms at m (wrote row ∷ marks) = after_marks terms at m marks

-- ---- who does it

-- a process of a machine, and the key of its messages, if it has one
pub record Who : Type 0 where
  pub self : Client
  pub key : Option (List ℕ)

abbrev pub key_of : Option LeaseSeal → Option (List ℕ)
key_of seal = option_map (λ s. s.own) seal

abbrev pub who : LeaseProcess → Who
who p = record { self = record { machine = p.terms.machine; boot = p.start.process; number = 0 }; key = key_of p.seal }

-- ---- what lines say

-- the bytes are the message's spelling, sealed where there is a key
abbrev pub Carries : Option (List ℕ) → List ℕ → LeaseMessage → Type 0
Carries None bytes message = Spells message bytes
Carries (Some key) bytes message = (plain : List ℕ) × (stamp : Stamp) × Spells message plain × (bytes ≡ sealed key plain stamp)

-- a request and a release go from the client to the voter that they name, and an answer back
abbrev pub GoesTo : ℕ → ℕ → LeaseMessage → LeaseBody → Type 0
GoesTo self to m (Request number keeps list) = (m.client.machine ≡ self) × (m.voter ≡ to)
GoesTo self to m (Grant number) = (m.voter ≡ self) × (m.client.machine ≡ to)
GoesTo self to m (Refusal number reason lasts) = (m.voter ≡ self) × (m.client.machine ≡ to)
GoesTo self to m Release = (m.client.machine ≡ self) × (m.voter ≡ to)

-- all of these are among those
abbrev pub AreAmong : List Message → List Message → Type 0
AreAmong messages sent = (message : Message) → IsAmong message messages → IsAmong message sent

pub record IsSent (who : Who) (sent : List Message) (to : ℕ) (message : LeaseMessage) (bytes : List ℕ) : Type 0 where
  -- by a step of the process
  pub by_step : AreAmong (said message) sent
  pub goes_to : GoesTo who.self.machine to message message.body
  pub carried : Carries who.key bytes message

-- one of the clients of the process holds the lease then, by a request of this epoch, until so long after it sent it as a client relies on
-- a lease
pub record IsHeld (terms : Terms) (who : Who) (at : ℕ) (m : Machine) (name : Name) (epoch until : ℕ) : Type 0 where
  pub number : ℕ
  pub ask : Ask
  pub running : m.process ≡ Some who.self.boot
  pub lease : (m.candidate number name).lease ≡ Some ask
  pub of_epoch : ask.epoch ≡ epoch
  pub ends : until ≡ terms.clock who.self.machine who.self.boot ask.sent + terms.relies_for
  pub in_time : terms.clock who.self.machine who.self.boot at < until

-- one of them gave up the epoch
pub record IsGivenUp (who : Who) (sent : List Message) (name : Name) (epoch : ℕ) : Type 0 where
  pub client : Client
  pub up_to : ℕ
  pub covers : epoch ≤ up_to
  pub released : IsAmong (release name client up_to) sent

-- what a line says is so
abbrev pub Tells : Terms → Who → ℕ → Machine → List Message → Row → Type 0
Tells terms who at m sent (send to message bytes) = IsSent who sent to message bytes
Tells terms who at m sent (held name user epoch until) = IsHeld terms who at m name epoch until
Tells terms who at m sent (lost name epoch) = IsGivenUp who sent name epoch
Tells terms who at m sent row = Unit {0}

-- ---- what may be done

-- a start is of a process that doesn't run, and all else of the one that does
abbrev pub Runs : ℕ → Option ℕ → Event → Type 0
Runs boot process (begins floor) = process ≡ Some boot → ⊥
Runs boot process other = process ≡ Some boot

-- what is taken was brought, or sent by a step before
abbrev pub IsHad : List Message → List Message → Event → Type 0
IsHad brought sent (takes message) = IsAmong message brought ⊎ IsAmong message sent
IsHad brought sent other = Unit {0}

pub record MayMark (terms : Terms) (who : Who) (at : ℕ) (brought sent : List Message) (m : Machine) (by : Client) (what : Event) :
    Type 0 where
  pub machine : by.machine ≡ who.self.machine
  pub process : by.boot ≡ who.self.boot
  pub runs : Runs who.self.boot m.process what
  pub may : MayDo terms by m at what
  pub had : IsHad brought sent what

-- the marks may follow, at this true time, where the machine keeps this, the line brought these messages, and these were sent by steps
-- before
abbrev pub Follow : Terms → Who → ℕ → List Message → List Message → Machine → List Mark → Type 0
Follow terms who at brought sent m [] = Unit {0}
Follow terms who at brought sent m (did by what ∷ marks) =
    MayMark terms who at brought sent m by what × Follow terms who at brought (sent_by by what ++ sent) (done terms by m at what) marks
Follow terms who at brought sent m (wrote row ∷ marks) = Tells terms who at m sent row × Follow terms who at brought sent m marks

-- ---- what a process keeps

-- before it begins, its floor is at or above what voters of its machine might grant up to
pub record IsBefore (t : LeaseTerms) (start : Start) (terms : Terms) (m : Machine) : Type 0 where
  pub are : AreOf t terms
  pub no_process : m.process ≡ Some start.process → ⊥
  pub floor : (name : Name) → (m.voter name).bound ≤ start.floor

abbrev pub Stood : LeaseTerms → Start → Option LeaseMachine → Terms → ℕ → Machine → Type 0
Stood t start None terms now m = IsBefore t start terms m
Stood t start (Some machine) terms now m = StandsFor terms now machine m

-- at this time of its clock the process stands for what its machine keeps over the network
abbrev pub IsAt : Terms → ℕ → LeaseProcess → Machine → Type 0
IsAt terms now p m = Stood p.terms p.start p.machine terms now m

-- its machine grants up to the epoch that it did before
pub record AllowsNoMore (old new : LeaseProcess) : Type 0 where
  pub its_start : new.start ≡ old.start
  pub its_bound : bound_by new.start new.machine ≡ bound_by old.start old.machine

-- and now at most up to this one, if it does up to a greater one than before
pub record AllowsUpTo (bound : ℕ) (old new : LeaseProcess) : Type 0 where
  pub its_start : new.start ≡ old.start
  pub its_bound : bound_by new.start new.machine ≤ max (bound_by old.start old.machine) bound

-- no memory was left
abbrev pub IsOut : LeaseProcess → Type 0
IsOut p = p.halt ≡ Some NoMemory

-- its machine does nothing
pub record IsQuiet (old new : LeaseProcess) : Type 0 where
  pub machine : new.machine ≡ old.machine
  pub terms : new.terms ≡ old.terms
  pub start : new.start ≡ old.start
  pub key : key_of new.seal ≡ key_of old.seal

-- and no user is told anything of its lease
pub record IsStill (old new : LeaseProcess) : Type 0 where
  pub machine : new.machine ≡ old.machine
  pub terms : new.terms ≡ old.terms
  pub start : new.start ≡ old.start
  pub key : key_of new.seal ≡ key_of old.seal
  pub told : new.told ≡ old.told

-- it says that the user holds the lease that its client keeps
pub record SaysHeld (now : ℕ) (name : Name) (old new : LeaseProcess) : Type 0 where
  pub user : ℕ
  pub epoch : ℕ
  pub until : ℕ
  pub going : old.halt ≡ None
  pub goes_on : new.halt ≡ None
  pub text : new.text.items ≡ old.text.items ++ row_text (held name user epoch until)
  pub told : new.told.items ≡ told_row old.told.items (held name user epoch until)
  pub holds : (terms : Terms) (at : ℕ) (m : Machine) → terms.clock old.terms.machine old.start.process at ≡ now → IsAt terms now old m
      → IsHeld terms (who old) at m name epoch until
  pub is_so : (x : LeaseMachine) (c : Claim) (r : ClientRequest) → old.machine ≡ Some x → claim_at x name ≡ Some c
      → c.candidate.lease ≡ Some r
      → (user ≡ c.user) × (epoch ≡ r.epoch) × (until ≡ r.sent + c.candidate.relies_for)

-- a process that goes on says this to the user of a name, or no memory is left
pub record TellsUser (row : Row) (old new : LeaseProcess) : Type 0 where
  pub quiet : IsQuiet old new
  pub said : IsOut new ⊎ ((new.halt ≡ None) × (new.text.items ≡ old.text.items ++ row_text row)
      × (new.told.items ≡ told_row old.told.items row))

-- A process went on: at one time of its clock it made these steps and wrote these lines, where these messages were sent by steps before,
-- and a line brought those. It keeps
-- what it told users of their leases, gives up none unsaid, and says of each that its client keeps so. Once no memory is left, its text
-- isn't to be written.
pub record Turn (sent brought : List Message) (now : ℕ) (old new : LeaseProcess) : Type 0 where
  pub marks : List Mark
  pub terms : new.terms ≡ old.terms
  pub start : new.start ≡ old.start
  pub key : key_of new.seal ≡ key_of old.seal
  pub halts : IsOut old → IsOut new
  pub goes_on : new.halt ≡ None → old.halt ≡ None
  pub text : (IsOut new → ⊥) → new.text.items ≡ old.text.items ++ text_of marks
  pub told : (IsOut new → ⊥) → new.told.items ≡ told_after old.told.items marks
  pub careful : (IsOut new → ⊥) → AreTold old.told.items marks
  pub holders : new.halt ≡ None → AreHoldersTold old.machine old.told.items → AreHoldersTold new.machine new.told.items
  pub goes : (terms : Terms) (at : ℕ) (m : Machine) → terms.clock old.terms.machine old.start.process at ≡ now → IsAt terms now old m →
      Follow terms (who old) at brought sent m marks × IsAt terms now new (after_marks terms at m marks)

-- a vote is right by what the machine keeps then
abbrev pub IsRightVote : Answer → Option LeaseMachine → ℕ → Name → Client → ℕ → Type 0
IsRightVote answer.Granted machine now name client epoch = IsGrantedBy machine now name client epoch
IsRightVote (answer.Refused reason lasts) machine now name client epoch = IsRefusedFor reason machine now name client epoch

-- what a client sends
abbrev pub IsTheClients : LeaseBody → Type 0
IsTheClients (Request number keeps list) = Unit {0}
IsTheClients (Grant number) = ⊥
IsTheClients (Refusal number reason lasts) = ⊥
IsTheClients Release = Unit {0}

abbrev pub vote_of : Answer → Vote
vote_of answer.Granted = Granted
vote_of (answer.Refused reason lasts) = Refused

-- a vote on the request of this number, which makes its step where it is granted
pub record Voted (vote : Vote) (name : Name) (client : Client) (number epoch now : ℕ) (old new : LeaseProcess) : Type 0 where
  pub turn : Turn [] (request name client number epoch ∷ []) now old new
  pub grants : vote ≡ Granted → IsAmong (grant name client number old.terms.machine) (sent_in [] turn.marks)

-- a request that was sent, of this client and this number
pub record Requested (name : Name) (client : ClientId) (number epoch now : ℕ) (old new : LeaseProcess) : Type 0 where
  pub turn : Turn [] [] now old new
  pub sends : IsAmong (request name (client_of client) number epoch) (sent_in [] turn.marks)

-- a client of the process gave up its epochs up to this one, and says so
pub record GaveUp (name : Name) (client : Client) (epoch now : ℕ) (old new : LeaseProcess) : Type 0 where
  pub turn : Turn [] [] now old new
  pub sends : IsAmong (release name client epoch) (sent_in [] turn.marks)

-- who asks here for a name
abbrev pub claim_of : Option LeaseMachine → Name → Option Claim
claim_of None name = None
claim_of (Some machine) name = claim_at machine name

-- as this client
pub record IsClientOf (machine : Option LeaseMachine) (name : Name) (client : ClientId) : Type 0 where
  pub claim : Claim
  pub claimed : claim_of machine name ≡ Some claim
  pub as_client : claim.candidate.client ≡ client

-- as a client of this number
pub record AsksAs (machine : Option LeaseMachine) (name : Name) (number : ℕ) : Type 0 where
  pub claim : Claim
  pub claimed : claim_of machine name ≡ Some claim
  pub numbered : claim.candidate.client.number ≡ number
