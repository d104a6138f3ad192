-- The outcome of `show`, from what is left of the stream.
use Rattle.std.proofs.Common.{◌≡◌, ℕ, List, [], ◌∷◌, ◌++◌, length, true, false, Option, Some, None, codes, sym, ap, ◌∙◌, append_assoc}
use Rattle.std.proofs.lemmas.List.Concat.{flat_map-cons}
use Rattle.wire_msg.specs.Envelope.{Envelope}
use Rattle.wire_msg.specs.Framing.{Begins, Breaks, IsPartial}
use Rattle.wire_msg.specs.Contents.{messages_in, unfinished_in}
use Rattle.wire_msg.proofs.PublicLaws.{read_behind, partial_alone, broken_at_once}
use Rattle.console_text.specs.Ends.{before, line}
use Rattle.invite_console.specs.Show.{message_text, shown, shown_of, end_of_show, rest_text}
use Rattle.invite_console.proofs.Sessions.{before_twice}

-- what is shown of a stream with these messages and this end, behind a text
shows : (text left : List ℕ) (messages : List Envelope) (unfinished : Option (List ℕ))
    → (messages_in left ≡ messages) × (unfinished_in left ≡ unfinished)
    → before text (shown_of left) ≡ before text (before (shown messages) (end_of_show unfinished))
shows text left messages unfinished read =
    ap (λ (ms : List Envelope). before text (before (shown ms) (end_of_show (unfinished_in left)))) read.0
    ∙ ap (λ u. before text (before (shown messages) (end_of_show u))) read.1

-- a message more
pub shown_next : (text new left after : List ℕ) (m : Envelope) → Begins left m after → new ≡ text ++ line (message_text m)
    → before text (shown_of left) ≡ before new (shown_of after)
shown_next text new left after m begins added =
    let end = end_of_show (unfinished_in after) in
    shows text left (m ∷ messages_in after) (unfinished_in after) (read_behind left after m begins)
    ∙ (before_twice text (shown (m ∷ messages_in after)) end
    ∙ (ap (λ (t : List ℕ). before (text ++ t) end) (flat_map-cons (λ m. line (message_text m)) m (messages_in after))
    ∙ (ap (λ (t : List ℕ). before t end) (sym (append_assoc text (line (message_text m)) (shown (messages_in after))))
    ∙ (sym (before_twice (text ++ line (message_text m)) (shown (messages_in after)) end)
    ∙ ap (λ (t : List ℕ). before t (shown_of after)) (sym added)))))

-- a frame is bad: `malformed` is printed behind the messages
pub shows_malformed : (text left : List ℕ) → Breaks left []
    → before text (shown_of left) ≡ record { text = text ++ line (codes "malformed"); good = false }
shows_malformed text left broken = shows text left [] None (broken_at_once left broken)

-- an unfinished frame is left
pub shows_rest : (text left : List ℕ) → IsPartial left → before text (shown_of left)
    ≡ record { text = text ++ rest_text (length left); good = true }
shows_rest text left partial = shows text left [] (Some left) (partial_alone left partial)
