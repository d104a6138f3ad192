-- What seals promise: of the stamps that go, of the messages that are taken, and of the stamps that come.
use Rattle.std.specs.Prelude.{ℕ, ◌≡◌, ◌⊎◌, ◌+◌, ◌==◌, ◌&&◌, List, [], ◌∷◌, ◌++◌, Bool, true, false, get_or, length, Option, Some, None}
use Rattle.wire_msg.specs.Envelope.{Envelope}
use Rattle.wire_msg.specs.Reading.{message_of}
use Rattle.node_core.specs.declared.event.Event.TheVariants as on
use Rattle.line_words.specs.Words.{words_of}
use Rattle.line_words.specs.Lines.{bytes_of, lines_of}
use Rattle.node_timers.specs.Retransmission.{none_waited}
use Rattle.histories.specs.NodeState.{NodeState}
use Rattle.histories.specs.declared.history_event.HistoryEvent.TheVariants.{Crashed}
use Rattle.histories.specs.After.{after}
use Rattle.sealed_msg.specs.declared.stamp.Stamp.{Stamp}
use Rattle.sealed_msg.specs.Stamps.{is_above}
use Rattle.node_session.specs.declared.asked.Asked.{Asked}
use Rattle.node_session.specs.Turns.{Turn, cause}
use Rattle.node_session.specs.Chains.{LineOutcome, AllGoing, after_turns}
use Rattle.node_session.specs.Lines.{At, AreOf, ComesOf, after_line, after_lines, plain_answer}
use Rattle.node_session.specs.Seals.{Brought, Opened, Seals, asked_under, brought_by, brought_word, is_fresh, life_of, message_in}
use Rattle.node_session.specs.Seals.{new_seals, no_stamp, number_by, opened_under, taken_under}

-- each stamp is above the one before it
abbrev pub Climbs : Stamp → List Stamp → Type 0
Climbs last [] = Unit {0}
Climbs last (stamp ∷ stamps) = (is_above stamp last ≡ true) × Climbs stamp stamps

-- ---- what goes

-- the stamps with which the lines of an answer are sealed
abbrev pub stamps_by : Option ℕ → ℕ → Option (List ℕ) → List Stamp → List Stamp
stamps_by life n None later = later
stamps_by None n (Some message) later = later
stamps_by (Some life) n (Some message) later = record { life = life; number = n + 1 } ∷ later

abbrev pub stamps_in : Option ℕ → ℕ → List (List ℕ) → List Stamp
stamps_in life n [] = []
stamps_in life n (line ∷ []) = []
stamps_in life n (line ∷ next ∷ lines) = stamps_by life n (message_in line)
    (stamps_in life (number_by life n (message_in line)) (next ∷ lines))

abbrev pub stamps_of : Option Seals → Option ℕ → List ℕ → List Stamp
stamps_of None life text = []
stamps_of (Some q) life text = stamps_in life q.number (lines_of text)

-- those of the answer to a line, of which this came
abbrev pub stamps_asked : ℕ → ℕ → Bool → At → Asked → Option Seals → LineOutcome → List Stamp
stamps_asked self nodes true a asked seal came = []
stamps_asked self nodes false a asked seal came = stamps_of seal (life_of (after_turns self nodes a.state came.turns))
    (plain_answer self nodes a asked came)

abbrev pub stamps_at : ℕ → ℕ → At → List ℕ → LineOutcome → List Stamp
stamps_at self nodes a line came = stamps_asked self nodes a.stopped a (asked_under a.seal line) (taken_under a.seal line) came

abbrev pub stamps_given : ℕ → ℕ → At → List (List ℕ) → List LineOutcome → List Stamp
stamps_given self nodes a [] all = []
stamps_given self nodes a (line ∷ lines) [] = []
stamps_given self nodes a (line ∷ lines) (came ∷ all) = stamps_at self nodes a line came
    ++ stamps_given self nodes (after_line self nodes a line came) lines all

-- a process of the node: the keys that it was given and what was drawn for it, its lines, and what came of them
pub record Life : Type 0 where
  pub own : List ℕ
  pub other : Option (List ℕ)
  pub drawn : List ℕ
  pub unit : ℕ
  pub lines : List (List ℕ)
  pub all : List LineOutcome

-- it begins where the last one was ended, whenever that was
abbrev pub life_begun : ℕ → ℕ → NodeState → Life → At
life_begun self nodes s life = record {
  stopped = false;
  count = 0;
  state = after self nodes s Crashed;
  waits = none_waited life.unit;
  seal = Some (new_seals life.own life.other life.drawn);
}

abbrev pub life_left : ℕ → ℕ → NodeState → Life → NodeState
life_left self nodes s life = (after_lines self nodes (life_begun self nodes s life) life.lines life.all).state

-- processes of a node one after another, over a disk that keeps what it is told
abbrev pub AreLives : ℕ → ℕ → ℕ → NodeState → List Life → Type 0
AreLives self nodes slots s [] = Unit {0}
AreLives self nodes slots s (life ∷ lives) =
    AreOf self nodes slots (life_begun self nodes s life) life.lines life.all × AllGoing life.all
    × AreLives self nodes slots (life_left self nodes s life) lives

abbrev pub stamps_over : ℕ → ℕ → NodeState → List Life → List Stamp
stamps_over self nodes s [] = []
stamps_over self nodes s (life ∷ lives) = stamps_given self nodes (life_begun self nodes s life) life.lines life.all
    ++ stamps_over self nodes (life_left self nodes s life) lives

-- no stamp is sealed twice, over all lives of a node
abbrev pub NoStampTwice : Type 0
NoStampTwice = (self nodes slots : ℕ) (s : NodeState) (lives : List Life) → AreLives self nodes slots s lives
    → Climbs no_stamp (stamps_over self nodes s lives)

-- ---- what is taken

-- a line brings this message, which was sealed under a key of the session, above all that was taken of its sender
pub record IsOpened (q : Seals) (line : List ℕ) (m : Envelope) : Type 0 where
  pub word : List ℕ
  pub bytes : List ℕ
  pub spelling : List ℕ
  pub stamp : Stamp
  pub brought : brought_word (words_of line) ≡ Some word
  pub spelled : bytes_of word ≡ Some bytes
  pub opened : opened_under q bytes ≡ Some (spelling, stamp)
  pub read : message_of spelling ≡ Some m
  pub fresh : is_fresh q m stamp ≡ true

abbrev pub Delivers : Envelope → List Turn → Type 0
Delivers m [] = ⊥
Delivers m (turn ∷ turns) = (cause turn ≡ Some (on.Deliver m)) ⊎ Delivers m turns

-- under a key, what a node is delivered was opened
abbrev pub OpenedAlone : Type 0
OpenedAlone =
    (self nodes slots : ℕ) (a : At) (line : List ℕ) (came : LineOutcome) (q : Seals) (m : Envelope) → a.seal ≡ Some q
    → ComesOf self nodes slots a line came → Delivers m came.turns → IsOpened q line m

-- ---- what comes of one sender

abbrev pub stamp_fresh : Bool → Stamp → List Stamp
stamp_fresh true stamp = stamp ∷ []
stamp_fresh false stamp = []

-- the stamp of what is taken, where this node sent it
abbrev pub stamp_brought : ℕ → Seals → Brought → List Stamp
stamp_brought sender q (Opened m stamp) = stamp_fresh (is_fresh q m stamp && (m.sender == sender)) stamp
stamp_brought sender q brought = []

abbrev pub stamp_worded : ℕ → Seals → Option (List ℕ) → List Stamp
stamp_worded sender q None = []
stamp_worded sender q (Some word) = stamp_brought sender q (brought_by q word)

abbrev pub stamp_sealed : ℕ → Option Seals → List ℕ → List Stamp
stamp_sealed sender None line = []
stamp_sealed sender (Some q) line = stamp_worded sender q (brought_word (words_of line))

abbrev pub stamp_taken : ℕ → Bool → Option Seals → List ℕ → List Stamp
stamp_taken sender true seal line = []
stamp_taken sender false seal line = stamp_sealed sender seal line

-- the stamps of what is taken of one node
abbrev pub stamps_taken : ℕ → ℕ → ℕ → At → List (List ℕ) → List LineOutcome → List Stamp
stamps_taken sender self nodes a [] all = []
stamps_taken sender self nodes a (line ∷ lines) [] = []
stamps_taken sender self nodes a (line ∷ lines) (came ∷ all) =
    stamp_taken sender a.stopped a.seal line ++ stamps_taken sender self nodes (after_line self nodes a line came) lines all

abbrev pub last_by : ℕ → Option Seals → Stamp
last_by sender None = no_stamp
last_by sender (Some q) = get_or q.last sender no_stamp

-- a stamp is kept for each node
abbrev pub IsWide : Option Seals → Type 0
IsWide None = Unit {0}
IsWide (Some q) = length q.last ≡ 128

-- they rise
abbrev pub TakenRises : Type 0
TakenRises =
    (sender self nodes : ℕ) (a : At) (lines : List (List ℕ)) (all : List LineOutcome) → IsWide a.seal
    → Climbs (last_by sender a.seal) (stamps_taken sender self nodes a lines all)
