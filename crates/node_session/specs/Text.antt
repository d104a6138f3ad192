-- What a node answers, as text.
use Rattle.std.specs.Prelude.{ℕ, List, [], ◌∷◌, ◌++◌, codes, decimal, length, Bool, true, false, Option, Some, None, Ok, Err}
use Rattle.std.specs.List.{flat_map}
use Rattle.hex.specs.Hex.{encode_lower}
use Rattle.console_text.specs.Words.{work_text}
use Rattle.job_model.specs.declared.job.Job.{Job}
use Rattle.job_model.specs.Durable.{Durable}
use Rattle.wire_msg.specs.Envelope.{Envelope}
use Rattle.wire_msg.specs.Spelling.{spelling}
use Rattle.node_core.specs.declared.event.Event.{Event}
use Rattle.node_core.specs.declared.event.Event.TheVariants as on
use Rattle.node_core.specs.declared.in_hand.InHand.{InHand}
use Rattle.node_core.specs.State.{State, is_down}
use Rattle.node_core.specs.Words.{members_of}
use Rattle.durable_node.specs.declared.fault.NodeFault.{NodeFault}
use Rattle.durable_node.specs.declared.fault.NodeFault.TheVariants as node
use Rattle.node_timers.specs.Retransmission.{Waits, sent_again}
use Rattle.histories.specs.NodeState.{NodeState}
use Rattle.node_session.specs.declared.asked.Asked.{Asked}
use Rattle.node_session.specs.declared.asked.Asked.TheVariants as ask
use Rattle.node_session.specs.declared.asked.Unsealed.{Unsealed}
use Rattle.node_session.specs.declared.asked.Unsealed.TheVariants.{Forged, Stale}
use Rattle.node_words.specs.Words.{core_name, event_word, group_part, id_text, ids_text, phase_text, truth_text}
use Rattle.node_session.specs.Turns.{CallEnd, Turn, after_turn, cause, end_of, sent_in}
use Rattle.node_session.specs.Chains.{LineOutcome, after_turns, event_line_end, line_end}
use Rattle.node_session.specs.Changes.{changes, gone_news, held_text, is_finish}

-- ---- words

abbrev pub fault_name : NodeFault → List ℕ
fault_name (node.Core fault) = core_name fault
fault_name node.Full = codes "Full"
fault_name node.Exhausted = codes "Exhausted"
fault_name node.Device = codes "Device"
fault_name node.NotFormatted = codes "NotFormatted"
fault_name (node.Damaged sector) = codes "Damaged " ++ decimal sector
fault_name node.TooSmall = codes "TooSmall"

-- a failed device is a fault, and everything else is refused
abbrev pub denial_word : NodeFault → List ℕ
denial_word node.Device = codes "fault "
denial_word fault = codes "refused "

-- ---- the turns of a line

abbrev pub send_line : Envelope → List ℕ
send_line m = codes "send " ++ decimal m.receiver ++ codes " " ++ encode_lower (spelling m) ++ codes "\n"

abbrev pub send_lines : List Envelope → List ℕ
send_lines [] = []
send_lines (m ∷ ms) = send_line m ++ send_lines ms

-- what is written of a call: the messages, what changed, and the job that left the table
abbrev pub call_text : Option Event → List Envelope → State → State → CallEnd → List ℕ
call_text event sent old new ended = send_lines sent ++ (changes (is_finish event) old new ++ gone_news event ended)

abbrev pub turn_text : ℕ → ℕ → NodeState → Turn → List ℕ
turn_text self nodes s turn = call_text (cause turn) (sent_in self nodes s turn) s.state (after_turn self nodes s turn).state
    (end_of self nodes s turn)

abbrev pub fired_line : Event → List ℕ
fired_line event = codes "fired " ++ event_word event ++ codes "\n"

abbrev pub fired_by : Option Event → List ℕ
fired_by None = []
fired_by (Some event) = fired_line event

-- the event that a tick or a loss made, before what came of it
abbrev pub fired_news : Turn → List ℕ
fired_news turn = fired_by (cause turn)

-- of a request that names its event
abbrev pub no_news : Turn → List ℕ
no_news turn = []

-- what is written of the calls of a line, with what is written before each
abbrev pub turns_text : (Turn → List ℕ) → ℕ → ℕ → NodeState → List Turn → List ℕ
turns_text before self nodes s [] = []
turns_text before self nodes s (turn ∷ turns) = before turn
    ++ (turn_text self nodes s turn ++ turns_text before self nodes (after_turn self nodes s turn) turns)

-- ---- what a recovery mounts

-- the counter, the id of the next job, and the number of jobs
abbrev pub keeps_line : Durable → List ℕ
keeps_line d = codes "keeps " ++ decimal d.counter ++ codes " " ++ decimal d.next ++ codes " " ++ decimal (length d.pending) ++ codes "\n"

abbrev pub keeps_by : Bool → Durable → List ℕ
keeps_by true d = []
keeps_by false d = keeps_line d

-- behind a recovery that was done, what the node keeps then
abbrev pub keeps_news : Event → CallEnd → NodeState → List ℕ
keeps_news on.Recover (Ok answer) s = keeps_by (is_down s.state.phase) s.durable
keeps_news event ended s = []

-- ---- what a tick tells

-- nothing is due before this time, unless something comes
abbrev pub next_line : Option ℕ → List ℕ
next_line None = []
next_line (Some due) = codes "next " ++ decimal due ++ codes "\n"

-- ---- the closing line

-- request n was made
abbrev pub ok_line : ℕ → List ℕ → List ℕ
ok_line n more = codes "ok " ++ decimal n ++ more ++ codes "\n"

abbrev pub denial_line : ℕ → NodeFault → List ℕ
denial_line n fault = denial_word fault ++ decimal n ++ codes " " ++ fault_name fault ++ codes "\n"

abbrev pub bad_line : ℕ → List ℕ
bad_line n = codes "bad " ++ decimal n ++ codes "\n"

-- why a message isn't taken
abbrev pub unsealed_name : Unsealed → List ℕ
unsealed_name Forged = codes "Forged"
unsealed_name Stale = codes "Stale"

-- request n brings such a message
abbrev pub refused_line : ℕ → Unsealed → List ℕ
refused_line n why = codes "refused " ++ decimal n ++ codes " " ++ unsealed_name why ++ codes "\n"

-- the id of a submitted job, which nothing else says
abbrev pub answer_text : Event → Option ℕ → List ℕ
answer_text (on.Submit work) answer = id_text answer
answer_text event answer = []

abbrev pub closing : ℕ → CallEnd → List ℕ
closing n (Ok answer) = ok_line n []
closing n (Err fault) = denial_line n fault

abbrev pub event_closing : ℕ → Event → CallEnd → List ℕ
event_closing n event (Ok answer) = ok_line n (answer_text event answer)
event_closing n event (Err fault) = denial_line n fault

-- ---- the state and the jobs

abbrev pub sets_part : State → List ℕ
sets_part s =
    codes " members " ++ ids_text (members_of s.task) ++ codes " found " ++ ids_text s.found ++ codes " unready " ++ ids_text s.unready

abbrev pub asks_part : State → List ℕ
asks_part s = codes " checking " ++ truth_text s.checking ++ codes " probing " ++ truth_text s.probing

abbrev pub jobs_part : State → Durable → List ℕ
jobs_part s d = codes " count " ++ decimal d.counter ++ codes " pending " ++ decimal (length d.pending) ++ codes " hand "
    ++ decimal (length s.hand)

abbrev pub up_line : State → Durable → List ℕ
up_line s d = codes "state " ++ phase_text s.phase ++ group_part s ++ sets_part s ++ asks_part s ++ jobs_part s d ++ codes "\n"

abbrev pub state_by : Bool → NodeState → List ℕ
state_by true s = codes "state Down\n"
state_by false s = up_line s.state s.durable

abbrev pub state_line : NodeState → List ℕ
state_line s = state_by (is_down s.state.phase) s

abbrev pub pending_line : Job → List ℕ
pending_line job = codes "pending " ++ decimal job.id ++ codes " " ++ work_text job.work.queue job.work.payload job.work.priority
    ++ codes "\n"

abbrev pub hand_line : InHand → List ℕ
hand_line job = codes "hand " ++ held_text job ++ codes "\n"

-- what the node keeps, and then what it works on
abbrev pub jobs_by : Bool → NodeState → List ℕ
jobs_by true s = []
jobs_by false s = flat_map pending_line s.durable.pending ++ flat_map hand_line s.state.hand

abbrev pub jobs_lines : NodeState → List ℕ
jobs_lines s = jobs_by (is_down s.state.phase) s

-- ---- all answers

-- how the answer to an event ends
abbrev pub event_end : ℕ → ℕ → ℕ → NodeState → Event → List Turn → List ℕ
event_end self nodes n s event turns =
    keeps_news event (event_line_end self nodes s turns) (after_turns self nodes s turns)
    ++ event_closing n event (event_line_end self nodes s turns)

-- how the answer to a tick ends
abbrev pub tick_end : ℕ → ℕ → ℕ → NodeState → LineOutcome → List ℕ
tick_end self nodes n s came = next_line came.due ++ closing n (line_end self nodes s came.turns)

-- the answer to the n-th request, where it makes no call
abbrev pub answer_at_once : ℕ → NodeState → Asked → List ℕ
answer_at_once n s ask.State = state_line s ++ ok_line n []
answer_at_once n s ask.Jobs = jobs_lines s ++ ok_line n []
answer_at_once n s (ask.Refused why) = refused_line n why
answer_at_once n s asked = bad_line n

-- the answer to the n-th request, which asks this of a node in this state that waits for these messages; this came of it
abbrev pub answer : ℕ → ℕ → ℕ → NodeState → Waits → Asked → LineOutcome → List ℕ
answer self nodes n s w ask.Nothing came = []
answer self nodes n s w (ask.Event event) came = turns_text no_news self nodes s came.turns ++ event_end self nodes n s event came.turns
answer self nodes n s w ask.Compact came = turns_text no_news self nodes s came.turns ++ closing n (line_end self nodes s came.turns)
answer self nodes n s w (ask.Tick now) came = send_lines (sent_again now w)
    ++ (turns_text fired_news self nodes s came.turns ++ tick_end self nodes n s came)
answer self nodes n s w (ask.Lost id) came = turns_text fired_news self nodes s came.turns ++ closing n (line_end self nodes s came.turns)
answer self nodes n s w asked came = answer_at_once n s asked
