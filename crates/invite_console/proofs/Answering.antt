-- The printout of `answer`, from what is left of the stream.
use Rattle.std.proofs.Common.{◌≡◌, ℕ, List, [], ◌∷◌, ◌++◌, Bool, true, false, Option, Some, None, codes, ap, ◌∙◌, append-nil}
use Rattle.std.specs.Prelude.{is_none}
use Rattle.wire_msg.specs.Envelope.{Envelope}
use Rattle.wire_msg.specs.Framing.{Begins, Breaks, IsPartial}
use Rattle.wire_msg.specs.Contents.{messages_in, unfinished_in, is_malformed}
use Rattle.wire_msg.proofs.PublicLaws.{read_behind, partial_alone, broken_at_once}
use Rattle.node_core.specs.Start.{alone}
use Rattle.console_text.specs.Ends.{Printout, line}
use Rattle.invite_console.specs.Answer.{end_of_answers, first_count}
use Rattle.invite_console.specs.Session.{Progress, onward, onward_if, TakesNext}
use Rattle.invite_console.proofs.Sessions.{onward_end}

-- where the node begins
abbrev pub beginning : ℕ → ℕ → Progress
beginning id nodes = record { id = id; nodes = nodes; state = alone id first_count; text = [] }

-- the whole printout, where this is left of the stream
abbrev pub onward_over : Progress → List ℕ → Printout
onward_over p left = onward p (end_of_answers (is_malformed left)) (messages_in left)

-- a stream with these messages and this end is left
over : (p : Progress) (left : List ℕ) (messages : List Envelope) (unfinished : Option (List ℕ))
    → (messages_in left ≡ messages) × (unfinished_in left ≡ unfinished)
    → onward_over p left ≡ onward p (end_of_answers (is_none unfinished)) messages
over p left messages unfinished read =
    ap (onward p (end_of_answers (is_malformed left))) read.0 ∙ ap (λ u. onward p (end_of_answers (is_none u)) messages) read.1

over_next : (old new : Progress) (left after : List ℕ) (m : Envelope) (goes : Bool) → Begins left m after → TakesNext old m new goes
    → onward_over old left ≡ onward_if goes new (end_of_answers (is_malformed after)) (messages_in after)
over_next old new left after m goes begins next =
    over old left (m ∷ messages_in after) (unfinished_in after) (read_behind left after m begins)
    ∙ next (end_of_answers (is_malformed after)) (messages_in after)

-- a message more was taken
pub goes_on : (old new : Progress) (left after : List ℕ) (m : Envelope) (goes : Bool) → Begins left m after → TakesNext old m new goes
    → goes ≡ true → onward_over old left ≡ onward_over new after
goes_on old new left after m true begins next on = over_next old new left after m true begins next
goes_on old new left after m false begins next on = absurd cc

-- one was refused: it was the last that counts
pub ends_refused : (old new : Progress) (left after : List ℕ) (m : Envelope) (goes : Bool) → Begins left m after → TakesNext old m new goes
    → goes ≡ false
    → onward_over old left ≡ record { text = new.text; good = false }
ends_refused old new left after m true begins next off = absurd cc
ends_refused old new left after m false begins next off = over_next old new left after m false begins next

-- a frame is bad: `malformed` is printed behind the answers
pub ends_malformed : (now : Progress) (left : List ℕ) → Breaks left []
    → onward_over now left ≡ record { text = now.text ++ line (codes "malformed"); good = false }
ends_malformed now left broken = over now left [] None (broken_at_once left broken) ∙ onward_end now (end_of_answers true)

-- nothing but an unfinished frame is left
pub ends_well : (now : Progress) (left : List ℕ) → IsPartial left → onward_over now left ≡ record { text = now.text; good = true }
ends_well now left partial =
    over now left [] (Some left) (partial_alone left partial)
    ∙ (onward_end now (end_of_answers false) ∙ ap (λ (t : List ℕ). record { text = t; good = true }) (append-nil now.text))
