-- How a session goes on with each message.
use Rattle.std.proofs.Common.{◌≡◌, ℕ, List, [], ◌∷◌, ◌++◌, Bool, true, false, not, codes, refl, sym, ap, ◌∙◌, append_assoc}
use Rattle.wire_msg.specs.Envelope.{Envelope}
use Rattle.node_core.specs.State.{State}
use Rattle.console_text.specs.Ends.{Printout, before, line}
use Rattle.invite_console.specs.Answer.{answers, delivery, is_strange, message_lines}
use Rattle.invite_console.specs.Session.{Progress, after_message, onward, TakesNext}

answers_taken : (nodes self : ℕ) (s : State) (end : Printout) (m : Envelope) (rest : List Envelope) → is_strange nodes self m s ≡ false
    → answers nodes self s end (m ∷ rest) ≡ before (message_lines (delivery nodes self m s).sent)
    (answers nodes self (delivery nodes self m s).state end rest)
unfolding answers
answers_taken nodes self s end m rest known = rw known refl

answers_refused : (nodes self : ℕ) (s : State) (end : Printout) (m : Envelope) (rest : List Envelope) → is_strange nodes self m s ≡ true
    → answers nodes self s end (m ∷ rest) ≡ record { text = line (codes "refused Stranger"); good = false }
unfolding answers
answers_refused nodes self s end m rest strange = rw strange refl

pub answers_end : (nodes self : ℕ) (s : State) (end : Printout) → answers nodes self s end [] ≡ end
unfolding answers
answers_end nodes self s end = refl

pub before_twice : (text more : List ℕ) (o : Printout) → before text (before more o) ≡ before (text ++ more) o
before_twice text more o = ap (λ (t : List ℕ). record { text = t; good = o.good }) (sym (append_assoc text more o.text))

-- a message that is not refused
pub onward_taken : (p : Progress) (end : Printout) (m : Envelope) (rest : List Envelope) → is_strange p.nodes p.id m p.state ≡ false
    → onward p end (m ∷ rest) ≡ onward (after_message p m) end rest
onward_taken p end m rest known =
    ap (before p.text) (answers_taken p.nodes p.id p.state end m rest known) ∙ before_twice p.text _ _

-- one that is
pub onward_refused : (p : Progress) (end : Printout) (m : Envelope) (rest : List Envelope) → is_strange p.nodes p.id m p.state ≡ true
    → onward p end (m ∷ rest) ≡ record { text = p.text ++ line (codes "refused Stranger"); good = false }
onward_refused p end m rest strange = ap (before p.text) (answers_refused p.nodes p.id p.state end m rest strange)

-- nothing more
pub onward_end : (p : Progress) (end : Printout) → onward p end [] ≡ before p.text end
onward_end p end = ap (before p.text) (answers_end p.nodes p.id p.state end)

-- the next message was taken
pub takes_taken : (old new : Progress) (m : Envelope) (taken : Bool) → is_strange old.nodes old.id m old.state ≡ not taken → taken ≡ true
    → new ≡ after_message old m → TakesNext old m new taken
takes_taken old new m true known on step end rest = onward_taken old end m rest known ∙ ap (λ p. onward p end rest) (sym step)
takes_taken old new m false known on step end rest = absurd cc

-- it was refused
pub takes_refused : (old new : Progress) (m : Envelope) (taken : Bool) → is_strange old.nodes old.id m old.state ≡ not taken → taken ≡ false
    → new.text ≡ old.text ++ line (codes "refused Stranger") → TakesNext old m new taken
takes_refused old new m true strange off written end rest = absurd cc
takes_refused old new m false strange off written end rest = onward_refused old end m rest strange
    ∙ ap (λ (t : List ℕ). record { text = t; good = false }) (sym written)
