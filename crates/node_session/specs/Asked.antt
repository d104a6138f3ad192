-- What a line asks for, as a function of its bytes.
use Rattle.std.specs.Prelude.{ℕ, List, [], ◌∷◌, bytes_eq, codes, if◌then◌else◌, Option, Some, None, option_and_then}
use Rattle.wire_msg.specs.Envelope.{Envelope}
use Rattle.wire_msg.specs.Reading.{message_of}
use Rattle.node_core.specs.declared.event.Event.TheVariants as on
use Rattle.node_core.specs.TimerWords.{timer_named}
use Rattle.line_words.specs.Words.{number_of, words_of}
use Rattle.line_words.specs.Lines.{bytes_of}
use Rattle.schedule.specs.Acts.{of_two, work_of}
use Rattle.schedule.specs.Fields.{node_of, priority_of}
use Rattle.node_words.specs.Words.{event_word}
use Rattle.node_session.specs.declared.asked.Asked.{Asked}
use Rattle.node_session.specs.declared.asked.Asked.TheVariants as ask

-- what is asked with what was read, if it could be read
abbrev pub asked_with : {A : Type 0} → (A → Asked) → Option A → Asked
asked_with asked None = ask.Bad
asked_with asked (Some x) = asked x

abbrev pub timing : List ℕ → Asked
timing word = asked_with (λ timer. ask.Event (on.Timer timer)) (timer_named word)

-- a word by itself
abbrev pub alone_asked : List ℕ → Asked
alone_asked word =
    if bytes_eq word (codes "state") then ask.State else
    if bytes_eq word (codes "jobs") then ask.Jobs else
    if bytes_eq word (codes "compact") then ask.Compact else
    if bytes_eq word (event_word on.Recover) then ask.Event on.Recover else timing word

abbrev pub delivered : Option Envelope → Asked
delivered m = asked_with (λ m. ask.Event (on.Deliver m)) m

-- the message that the bytes of a word spell
abbrev pub delivery : List ℕ → Asked
delivery word = delivered (option_and_then message_of (bytes_of word))

abbrev pub ticking : List ℕ → Asked
ticking word = asked_with ask.Tick (number_of word)

abbrev pub loss : List ℕ → Asked
loss word = asked_with ask.Lost (node_of word)

-- a job that is submitted with this priority, if it is one
abbrev pub submission : List ℕ → List ℕ → Option ℕ → Asked
submission queue payload priority = asked_with (λ work. ask.Event (on.Submit work)) (work_of queue payload priority)

abbrev pub completion : List ℕ → List ℕ → Asked
completion origin id = asked_with ask.Event (of_two on.Finish (node_of origin) (number_of id))

abbrev pub one_field : List ℕ → List ℕ → Asked
one_field name a =
    if bytes_eq name (codes "deliver") then delivery a else
    if bytes_eq name (codes "tick") then ticking a else
    if bytes_eq name (codes "lost") then loss a else ask.Bad

abbrev pub two_fields : List ℕ → List ℕ → List ℕ → Asked
two_fields name a b =
    if bytes_eq name (codes "submit") then submission a b (Some 0) else
    if bytes_eq name (codes "finish") then completion a b else ask.Bad

abbrev pub three_fields : List ℕ → List ℕ → List ℕ → List ℕ → Asked
three_fields name a b c = if bytes_eq name (codes "submit") then submission a b (priority_of c) else ask.Bad

abbrev pub asked_words : List (List ℕ) → Asked
asked_words [] = ask.Bad
asked_words (name ∷ []) = alone_asked name
asked_words (name ∷ a ∷ []) = one_field name a
asked_words (name ∷ a ∷ b ∷ []) = two_fields name a b
asked_words (name ∷ a ∷ b ∷ c ∷ []) = three_fields name a b c
asked_words (name ∷ a ∷ b ∷ c ∷ d ∷ rest) = ask.Bad

-- what a line asks for
abbrev pub asked_of : List ℕ → Asked
asked_of [] = ask.Nothing
asked_of (c ∷ line) = asked_words (words_of (c ∷ line))
