-- A node that takes messages, and what it has printed so far.
use Rattle.std.specs.Prelude.{◌≡◌, ℕ, List, ◌∷◌, ◌++◌, Bool, true, false}
use Rattle.wire_msg.specs.Envelope.{Envelope}
use Rattle.node_core.specs.State.{State}
use Rattle.node_core.specs.Core.{Core}
use Rattle.console_text.specs.Ends.{Printout, before}
use Rattle.invite_console.specs.Answer.{answers, delivery, message_lines}

pub record Progress : Type 0 where
  pub id : ℕ
  pub nodes : ℕ
  pub state : State
  pub text : List ℕ

-- a message that isn't refused was taken, and its answers were printed
abbrev pub after_message : Progress → Envelope → Progress
after_message p m = record p {
  state = (delivery p.nodes p.id m p.state).state;
  text = p.text ++ message_lines (delivery p.nodes p.id m p.state).sent;
}

-- the core is the same, but for the room of its hand
pub record SameButRoom (old new : Core) : Type 0 where
  pub id : new.id ≡ old.id
  pub nodes : new.nodes ≡ old.nodes
  pub state : new.state ≡ old.state

-- the core took the message, and sends these
pub record Delivers (old : Core) (m : Envelope) (new : Core) (sent : List Envelope) : Type 0 where
  pub id : new.id ≡ old.id
  pub nodes : new.nodes ≡ old.nodes
  pub effect : delivery old.nodes old.id m old.state ≡ record { state = new.state; sent = sent }

-- the whole printout, where these messages come next and then the end
abbrev pub onward : Progress → Printout → List Envelope → Printout
onward p end messages = before p.text (answers p.nodes p.id p.state end messages)

-- the whole printout, or what was printed where a message was refused: then the others don't count
abbrev pub onward_if : Bool → Progress → Printout → List Envelope → Printout
onward_if true p end rest = onward p end rest
onward_if false p end rest = record { text = p.text; good = false }

-- taking the message leaves the whole printout as it is, whatever follows it
abbrev pub TakesNext : Progress → Envelope → Progress → Bool → Type 0
TakesNext old m new goes = (end : Printout) (rest : List Envelope) → onward old end (m ∷ rest) ≡ onward_if goes new end rest
