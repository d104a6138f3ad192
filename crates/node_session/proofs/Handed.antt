-- An answer is made of lines: those of the messages that are handed out, and others that hand out nothing.
use Rattle.std.proofs.Common.{◌≡◌, ℕ, ◌+◌, ◌==◌, ◌&&◌, Bool, true, false, List, [], ◌∷◌, ◌++◌, map, refl, sym, ap, ◌∙◌, subst, append_assoc}
use Rattle.std.proofs.Common.{append-nil, arith, Option, Some, None, Ok, Err}
use Rattle.std.proofs.lemmas.Bool.{and_parts}
use Rattle.std.specs.Prelude.{All, codes, decimal, if◌then◌else◌, length}
use Rattle.std.specs.List.{flat_map}
use Rattle.sector_disk.specs.Disk.{DiskState}
use Rattle.node_store.specs.Store.{slots_for}
use Rattle.line_words.specs.Lines.{is_line_feed, lines_of}
use Rattle.line_words.specs.Words.{is_space, words_of}
use Rattle.sealed_msg.specs.declared.stamp.Stamp.{Stamp}
use Rattle.job_model.specs.declared.job.Job.{Job}
use Rattle.job_model.specs.Durable.{Durable}
use Rattle.group_task.specs.Group.{Group}
use Rattle.wire_msg.specs.Envelope.{Envelope}
use Rattle.wire_msg.specs.Spelling.{spelling, IsMessage}
use Rattle.wire_msg.specs.declared.body.Body.{Body}
use Rattle.wire_msg.specs.declared.body.Body.TheVariants as says
use Rattle.console_text.specs.Words.{work_text}
use Rattle.node_core.specs.State.{State, is_down}
use Rattle.node_core.specs.Words.{members_of}
use Rattle.node_core.specs.declared.event.Event.{Event}
use Rattle.node_core.specs.declared.event.Event.TheVariants as on
use Rattle.node_core.specs.declared.fault.CoreFault.{CoreFault}
use Rattle.node_core.specs.declared.fault.CoreFault.TheVariants as core
use Rattle.node_core.specs.declared.in_hand.InHand.{InHand}
use Rattle.node_core.specs.declared.phase.Phase.{Phase}
use Rattle.node_core.specs.declared.phase.Phase.TheVariants as phase
use Rattle.node_core.specs.declared.timer.Timer.TheVariants as timer
use Rattle.durable_node.specs.declared.fault.NodeFault.{NodeFault}
use Rattle.durable_node.specs.declared.fault.NodeFault.TheVariants as node
use Rattle.durable_node.specs.Changes.{dropped_since, held_by, taken_since, told_anew, view_of}
use Rattle.durable_node.specs.declared.group_view.GroupView.{GroupView}
use Rattle.histories.specs.NodeState.{NodeState}
use Rattle.node_timers.specs.Retransmission.{sent_again}
use Rattle.node_session.specs.declared.asked.Asked.{Asked}
use Rattle.node_session.specs.declared.asked.Asked.TheVariants as ask
use Rattle.node_session.specs.declared.asked.Unsealed.{Unsealed}
use Rattle.node_session.specs.declared.asked.Unsealed.TheVariants as unsealed
use Rattle.node_session.specs.Changes.{changes, drop_line, drops_by, gone_at, gone_by, gone_line, gone_news, group_by, group_news}
use Rattle.node_session.specs.Changes.{held_text, is_finish, take_line}
use Rattle.node_words.specs.Words.{core_name, event_word, group_part, group_text, id_text, ids_text, more_ids_text, phase_text, truth_text}
use Rattle.node_session.specs.Turns.{CallEnd, Turn, after_turn, cause, end_of, sent_in}
use Rattle.node_session.specs.Chains.{LineOutcome, IsNone, MayCome, after_turns, event_line_end, line_end, next}
use Rattle.node_session.specs.Lines.{At, AreOf, Comes, after_by, after_line, answer_by, plain_answer}
use Rattle.node_session.specs.Seals.{Seals, Brought, NoBytes, Strange, Garbled, Opened, asked_under, brought_by, brought_word, is_fresh}
use Rattle.node_session.specs.Seals.{life_of, numbered, sealed_behind, sealed_lines, taken_brought, taken_fresh, taken_sealed, taken_told}
use Rattle.node_session.specs.Seals.{taken_under, taken_words, told_life, written}
use Rattle.node_session.specs.Sending.{AreMessagesIn, AreSentIn, MessagesAreSealed, again, counted_under, handed_by, is_send, plain_sends}
use Rattle.node_session.specs.Sending.{sealed_sends, sealed_so_far, send_of, sends_in, sends_under, sent_turns}
use Rattle.node_session.specs.Serving.{SendsSealed, at_of}
use Rattle.node_session.specs.Text.{answer, answer_text, asks_part, bad_line, closing, denial_line, event_closing, event_end, fault_name}
use Rattle.node_session.specs.Text.{fired_by, fired_news, hand_line, jobs_by, jobs_lines, jobs_part, keeps_by, keeps_news, next_line}
use Rattle.node_session.specs.Text.{no_news, ok_line, pending_line, refused_line, send_line, send_lines, sets_part, state_by, state_line}
use Rattle.node_session.specs.Text.{tick_end, turn_text, turns_text, up_line}
use Rattle.node_session.proofs.Rows.{both_lines, none_first, none_of, number_line, one_line, other_word, work_line}
use Rattle.node_session.proofs.Sends.{Piece, Quiet, Sends, AreQuiet, Reads, messages_of, none_so, numbered_so, plain_so, sealed_so, text_of}

-- ---- texts that are made of lines

-- whole lines, which hand out these messages
record IsMade (text : List ℕ) (ms : List Envelope) : Type 0 where
  pub pieces : List Piece
  pub quiet : AreQuiet pieces
  pub text_so : text ≡ text_of pieces
  pub messages : ms ≡ messages_of pieces

text_both : (ps qs : List Piece) → text_of (ps ++ qs) ≡ text_of ps ++ text_of qs
text_both [] qs = refl
text_both (Quiet line ∷ ps) qs = ap (λ (x : List ℕ). (line ++ codes "\n") ++ x) (text_both ps qs)
    ∙ sym (append_assoc (line ++ codes "\n") (text_of ps) (text_of qs))
text_both (Sends m ∷ ps) qs =
    ap (λ (x : List ℕ). (send_of m (spelling m) ++ codes "\n") ++ x) (text_both ps qs)
    ∙ sym (append_assoc (send_of m (spelling m) ++ codes "\n") (text_of ps) (text_of qs))

messages_both : (ps qs : List Piece) → messages_of (ps ++ qs) ≡ messages_of ps ++ messages_of qs
messages_both [] qs = refl
messages_both (Quiet line ∷ ps) qs = messages_both ps qs
messages_both (Sends m ∷ ps) qs = ap (λ (ms : List Envelope). m ∷ ms) (messages_both ps qs)

quiet_both : (ps qs : List Piece) → AreQuiet ps → AreQuiet qs → AreQuiet (ps ++ qs)
quiet_both [] qs first second = second
quiet_both (Quiet line ∷ ps) qs first second = (first.0, first.1, quiet_both ps qs first.2 second)
quiet_both (Sends m ∷ ps) qs first second = quiet_both ps qs first second

both : (x y : List ℕ) (ms ns : List Envelope) → IsMade x ms → IsMade y ns → IsMade (x ++ y) (ms ++ ns)
both x y ms ns a b = record {
  pieces = a.pieces ++ b.pieces;
  quiet = quiet_both a.pieces b.pieces a.quiet b.quiet;
  text_so = ap (λ (t : List ℕ). t ++ y) a.text_so ∙ (ap (λ (t : List ℕ). text_of a.pieces ++ t) b.text_so
      ∙ sym (text_both a.pieces b.pieces));
  messages = ap (λ (t : List Envelope). t ++ ns) a.messages
      ∙ (ap (λ (t : List Envelope). messages_of a.pieces ++ t) b.messages ∙ sym (messages_both a.pieces b.pieces));
}

nothing : IsMade [] []
nothing = record { pieces = []; quiet = tt; text_so = refl; messages = refl }

-- and then lines that hand out nothing
more : (x y : List ℕ) (ms : List Envelope) → IsMade x ms → IsMade y [] → IsMade (x ++ y) ms
more x y ms a b = subst (λ (ns : List Envelope). IsMade (x ++ y) ns) (append-nil ms) (both x y ms [] a b)

each_made : {A : Type 0} (f : A → List ℕ) → ((x : A) → IsMade (f x) []) → (xs : List A) → IsMade (flat_map f xs) []
each_made f made [] = nothing
each_made f made (x ∷ xs) = both (f x) (flat_map f xs) [] [] (made x) (each_made f made xs)

-- ---- one line of another kind

-- a line that begins with this word is none of a message: its first two letters tell
abbrev is_other : List ℕ → Bool
is_other [] = false
is_other (c ∷ []) = false
is_other (c ∷ d ∷ word) = none_of is_space (c ∷ d ∷ []) && (none_of is_line_feed (c ∷ d ∷ word)
    && (if c == 115 && d == 101 then false else true))

other_line : (word text : List ℕ) → is_other word ≡ true → one_line word × (is_send (word ++ text) ≡ false)
other_line [] text other = absurd cc
other_line (c ∷ []) text other = absurd cc
other_line (c ∷ d ∷ word) text other =
    let first = and_parts (none_of is_space (c ∷ d ∷ [])) (none_of is_line_feed (c ∷ d ∷ word) && no_send) other in
    let second = and_parts (none_of is_line_feed (c ∷ d ∷ word)) no_send first.1 in
    let spaces = none_first is_space c (d ∷ []) first.0 in
    (second.0, other_word c d (word ++ text) spaces.0 (none_first is_space d [] spaces.1).0 (by_test (c == 115 && d == 101) second.1))
  where
    no_send : Bool
    no_send = if c == 115 && d == 101 then false else true

    by_test : (b : Bool) → (if b then false else true) ≡ true → b ≡ false
    by_test true is = absurd cc
    by_test false is = refl

-- such a word, and what stands behind it
said : (word text : List ℕ) → one_line text → is_other word ≡ true → IsMade (word ++ text ++ codes "\n") []
said word text one other = (let is = other_line word text other in record {
  pieces = Quiet (word ++ text) ∷ [];
  quiet = (both_lines word text is.0 one, is.1, tt);
  text_so = sym (append-nil (word ++ text ++ codes "\n"));
  messages = refl;
})

-- ---- the group and the hand

id_numbers : (ids : List ℕ) → one_line (more_ids_text ids)
id_numbers [] = refl
id_numbers (id ∷ ids) = both_lines (decimal id) (more_ids_text ids) (number_line id) (id_numbers ids)

ids_line : (ids : List ℕ) → one_line (ids_text ids)
ids_line [] = refl
ids_line (id ∷ ids) = both_lines (decimal id) (more_ids_text ids) (number_line id) (id_numbers ids)

phase_line : (p : Phase) → one_line (phase_text p)
phase_line phase.Down = refl
phase_line phase.Election = refl
phase_line phase.Reorganization = refl
phase_line phase.Normal = refl

-- two texts with a space between them
spaced : (x y : List ℕ) → one_line x → one_line y → one_line (x ++ codes " " ++ y)
spaced x y first second = both_lines (x ++ codes " ") y (both_lines x (codes " ") first refl) second

group_words : (g : Group) → one_line (group_text g)
group_words g = both_lines (decimal g.creator ++ codes ":") (decimal g.count)
    (both_lines (decimal g.creator) (codes ":") (number_line g.creator) refl) (number_line g.count)

group_made : (b : Bool) (t : GroupView) → IsMade (group_by b t) []
group_made true t = said (codes "group Down") [] refl refl
group_made false t =
    let text = phase_text t.phase ++ codes " " ++ decimal t.coordinator ++ codes " " ++ group_text t.group ++ codes " "
    ++ ids_text t.members in
    said (codes "group ") text (spaced (phase_text t.phase ++ codes " " ++ decimal t.coordinator ++ codes " "
    ++ group_text t.group) (ids_text t.members)
    (spaced (phase_text t.phase ++ codes " " ++ decimal t.coordinator) (group_text t.group)
    (spaced (phase_text t.phase) (decimal t.coordinator) (phase_line t.phase) (number_line t.coordinator))
    (group_words t.group)) (ids_line t.members)) refl

news_made : (told : Option GroupView) → IsMade (group_news told) []
news_made None = nothing
news_made (Some t) = group_made (is_down t.phase) t

held_line : (job : InHand) → one_line (held_text job)
held_line job =
    spaced (decimal job.origin ++ codes " " ++ decimal job.id) (work_text job.work.queue job.work.payload job.work.priority)
    (spaced (decimal job.origin) (decimal job.id) (number_line job.origin) (number_line job.id))
    (work_line job.work.queue job.work.payload job.work.priority)

take_made : (job : InHand) → IsMade (take_line job) []
take_made job = said (codes "take ") (held_text job) (held_line job) refl

drop_made : (pair : ℕ × ℕ) → IsMade (drop_line pair) []
drop_made pair = said (codes "drop ") (decimal pair.0 ++ codes " " ++ decimal pair.1)
    (spaced (decimal pair.0) (decimal pair.1) (number_line pair.0) (number_line pair.1)) refl

drops_made : (finished : Bool) (pairs : List (ℕ × ℕ)) → IsMade (drops_by finished pairs) []
drops_made true pairs = nothing
drops_made false pairs = each_made drop_line drop_made pairs

changes_made : (finished : Bool) (old new : State) → IsMade (changes finished old new) []
changes_made finished old new =
    let told = told_anew (view_of old) (view_of new) in
    let taken = taken_since (map held_by old.hand) new.hand in
    let dropped = dropped_since (map held_by old.hand) new.hand in
    both (group_news told) (flat_map take_line taken ++ drops_by finished dropped) [] [] (news_made told)
    (both (flat_map take_line taken) (drops_by finished dropped) [] [] (each_made take_line take_made taken) (drops_made finished dropped))

gone_made : (id : ℕ) → IsMade (gone_line id) []
gone_made id = said (codes "gone ") (decimal id) (number_line id) refl

body_made : (body : Body) (id : ℕ) → IsMade (gone_by body id) []
body_made (says.Done job) id = gone_made id
body_made body id = nothing

gone_event : (event : Option Event) (id : ℕ) → IsMade (gone_at event id) []
gone_event (Some (on.Finish origin job)) id = gone_made id
gone_event (Some (on.Deliver m)) id = body_made m.body id
gone_event event id = nothing

gone_so : (event : Option Event) (ended : CallEnd) → IsMade (gone_news event ended) []
gone_so event (Ok (Some id)) = gone_event event id
gone_so event ended = nothing

-- ---- the calls of a line

sends_made : (ms : List Envelope) → IsMade (send_lines ms) ms
sends_made [] = nothing
sends_made (m ∷ ms) = both (send_line m) (send_lines ms)
    (m ∷ []) ms (record { pieces = Sends m ∷ []; quiet = tt; text_so = sym (append-nil (send_line m)); messages = refl }) (sends_made ms)

turn_made : (self nodes : ℕ) (s : NodeState) (turn : Turn) → IsMade (turn_text self nodes s turn) (sent_in self nodes s turn)
turn_made self nodes s turn =
    let old = s.state in
    let new = (after_turn self nodes s turn).state in
    let finished = is_finish (cause turn) in
    let gone = gone_news (cause turn) (end_of self nodes s turn) in
    more (send_lines (sent_in self nodes s turn)) (changes finished old new ++ gone) (sent_in self nodes s turn)
    (sends_made (sent_in self nodes s turn))
    (both (changes finished old new) gone [] [] (changes_made finished old new) (gone_so (cause turn) (end_of self nodes s turn)))

turns_made : (before : Turn → List ℕ) → ((turn : Turn) → IsMade (before turn) []) → (self nodes : ℕ) (s : NodeState) (turns : List Turn)
    → IsMade (turns_text before self nodes s turns) (sent_turns self nodes s turns)
turns_made before made self nodes s [] = nothing
turns_made before made self nodes s (turn ∷ turns) =
    let t = after_turn self nodes s turn in
    both (before turn) (turn_text self nodes s turn ++ turns_text before self nodes t turns) [] (sent_in self nodes s turn
    ++ sent_turns self nodes t turns) (made turn)
    (both (turn_text self nodes s turn) (turns_text before self nodes t turns) (sent_in self nodes s turn) (sent_turns self nodes t turns)
    (turn_made self nodes s turn) (turns_made before made self nodes t turns))

event_so : (event : Event) → one_line (event_word event)
event_so (on.Timer timer.Check) = refl
event_so event = refl

fired_made : (o : Option Event) → IsMade (fired_by o) []
fired_made None = nothing
fired_made (Some event) = said (codes "fired ") (event_word event) (event_so event) refl

-- ---- the closing line

core_line : (fault : CoreFault) → one_line (core_name fault)
core_line core.Stranger = refl
core_line core.Down = refl
core_line (core.NotCoordinator id) = number_line id
core_line core.NotNormal = refl
core_line core.UnknownJob = refl
core_line core.NoMemory = refl

refused_row : (n : ℕ) (why : List ℕ) → one_line why → IsMade (codes "refused " ++ decimal n ++ codes " " ++ why ++ codes "\n") []
refused_row n why one = said (codes "refused ") (decimal n ++ codes " " ++ why) (spaced (decimal n) why (number_line n) one) refl

denial_made : (n : ℕ) (fault : NodeFault) → IsMade (denial_line n fault) []
denial_made n (node.Core fault) = refused_row n (core_name fault) (core_line fault)
denial_made n node.Full = refused_row n (codes "Full") refl
denial_made n node.Exhausted = refused_row n (codes "Exhausted") refl
denial_made n node.Device = said (codes "fault ") (decimal n ++ codes " " ++ codes "Device")
    (spaced (decimal n) (codes "Device") (number_line n) refl) refl
denial_made n node.NotFormatted = refused_row n (codes "NotFormatted") refl
denial_made n (node.Damaged sector) = refused_row n (fault_name (node.Damaged sector)) (number_line sector)
denial_made n node.TooSmall = refused_row n (codes "TooSmall") refl

ok_made : (n : ℕ) (rest : List ℕ) → one_line rest → IsMade (ok_line n rest) []
ok_made n rest one = said (codes "ok ") (decimal n ++ rest) (both_lines (decimal n) rest (number_line n) one) refl

closing_made : (n : ℕ) (ended : CallEnd) → IsMade (closing n ended) []
closing_made n (Ok answer) = ok_made n [] refl
closing_made n (Err fault) = denial_made n fault

id_line : (o : Option ℕ) → one_line (id_text o)
id_line None = refl
id_line (Some id) = number_line id

event_made : (n : ℕ) (event : Event) (ended : CallEnd) → IsMade (event_closing n event ended) []
event_made n event (Ok answer) = ok_made n (answer_text event answer) (by_event event)
  where
    by_event : (e : Event) → one_line (answer_text e answer)
    by_event (on.Submit work) = id_line answer
    by_event e = refl
event_made n event (Err fault) = denial_made n fault

keeps_made : (b : Bool) (d : Durable) → IsMade (keeps_by b d) []
keeps_made true d = nothing
keeps_made false d =
    said (codes "keeps ") (decimal d.counter ++ codes " " ++ decimal d.next ++ codes " " ++ decimal (length d.pending))
    (spaced (decimal d.counter ++ codes " " ++ decimal d.next) (decimal (length d.pending))
    (spaced (decimal d.counter) (decimal d.next) (number_line d.counter) (number_line d.next)) (number_line (length d.pending))) refl

keeps_so : (event : Event) (ended : CallEnd) (s : NodeState) → IsMade (keeps_news event ended s) []
keeps_so on.Recover (Ok answer) s = keeps_made (is_down s.state.phase) s.durable
keeps_so event ended s = nothing

next_made : (o : Option ℕ) → IsMade (next_line o) []
next_made None = nothing
next_made (Some due) = said (codes "next ") (decimal due) (number_line due) refl

-- ---- the state and the jobs

truth_line : (b : Bool) → one_line (truth_text b)
truth_line true = refl
truth_line false = refl

group_part_line : (s : State) → one_line (group_part s)
group_part_line s =
    both_lines (codes " coord " ++ decimal s.coordinator ++ codes " group ") (group_text s.group)
    (both_lines (codes " coord " ++ decimal s.coordinator) (codes " group ") (number_line s.coordinator) refl) (group_words s.group)

sets_part_line : (s : State) → one_line (sets_part s)
sets_part_line s =
    let members = codes " members " ++ ids_text (members_of s.task) in
    let found = members ++ codes " found " ++ ids_text s.found in
    both_lines (found ++ codes " unready ") (ids_text s.unready)
    (both_lines found (codes " unready ") (both_lines (members
    ++ codes " found ") (ids_text s.found) (both_lines members (codes " found ")
    (ids_line (members_of s.task)) refl) (ids_line s.found)) refl) (ids_line s.unready)

asks_part_line : (s : State) → one_line (asks_part s)
asks_part_line s =
    both_lines (codes " checking " ++ truth_text s.checking ++ codes " probing ") (truth_text s.probing)
    (both_lines (codes " checking " ++ truth_text s.checking) (codes " probing ") (truth_line s.checking) refl) (truth_line s.probing)

jobs_part_line : (s : State) (d : Durable) → one_line (jobs_part s d)
jobs_part_line s d =
    let count = codes " count " ++ decimal d.counter in
    let pending = count ++ codes " pending " ++ decimal (length d.pending) in
    both_lines (pending ++ codes " hand ") (decimal (length s.hand))
    (both_lines pending (codes " hand ") (both_lines (count ++ codes " pending ") (decimal (length d.pending))
    (both_lines count (codes " pending ") (number_line d.counter) refl) (number_line (length d.pending))) refl)
    (number_line (length s.hand))

up_made : (s : State) (d : Durable) → IsMade (up_line s d) []
up_made s d =
    let text = phase_text s.phase ++ group_part s ++ sets_part s ++ asks_part s ++ jobs_part s d in
    said (codes "state ") text
    (both_lines (phase_text s.phase ++ group_part s ++ sets_part s ++ asks_part s) (jobs_part s d)
    (both_lines (phase_text s.phase ++ group_part s ++ sets_part s) (asks_part s)
    (both_lines (phase_text s.phase ++ group_part s) (sets_part s)
    (both_lines (phase_text s.phase) (group_part s) (phase_line s.phase) (group_part_line s)) (sets_part_line s)) (asks_part_line s))
    (jobs_part_line s d)) refl

state_made : (b : Bool) (s : NodeState) → IsMade (state_by b s) []
state_made true s = said (codes "state Down") [] refl refl
state_made false s = up_made s.state s.durable

pending_made : (job : Job) → IsMade (pending_line job) []
pending_made job =
    said (codes "pending ") (decimal job.id ++ codes " " ++ work_text job.work.queue job.work.payload job.work.priority)
    (spaced (decimal job.id) (work_text job.work.queue job.work.payload job.work.priority) (number_line job.id)
    (work_line job.work.queue job.work.payload job.work.priority)) refl

hand_made : (job : InHand) → IsMade (hand_line job) []
hand_made job = said (codes "hand ") (held_text job) (held_line job) refl

jobs_made : (b : Bool) (s : NodeState) → IsMade (jobs_by b s) []
jobs_made true s = nothing
jobs_made false s = both (flat_map pending_line s.durable.pending)
    (flat_map hand_line s.state.hand) [] [] (each_made pending_line pending_made s.durable.pending)
    (each_made hand_line hand_made s.state.hand)

-- ---- all answers

no_turns : (self nodes : ℕ) (s : NodeState) (turns : List Turn) → IsNone turns → [] ≡ sent_turns self nodes s turns
no_turns self nodes s [] none = refl
no_turns self nodes s (turn ∷ turns) none = absurd none

-- what asks nothing of the node hands out nothing
quiet_answer : (self nodes : ℕ) (s : NodeState) (turns : List Turn) (text : List ℕ) → IsNone turns → IsMade text []
    → IsMade text (sent_turns self nodes s turns)
quiet_answer self nodes s turns text none made = subst (λ (ms : List Envelope). IsMade text ms) (no_turns self nodes s turns none) made

answer_made : (self nodes slots n : ℕ) (a : At) (asked : Asked) (came : LineOutcome) → MayCome self nodes slots a.state asked came.turns
    → IsMade (answer self nodes n a.state a.waits asked came) (again asked a.waits ++ sent_turns self nodes a.state came.turns)
answer_made self nodes slots n a ask.Nothing came may = quiet_answer self nodes a.state came.turns [] may nothing
answer_made self nodes slots n a (ask.Event event) came may =
    let ended = event_line_end self nodes a.state came.turns in
    let left = after_turns self nodes a.state came.turns in
    more (turns_text no_news self nodes a.state came.turns) (event_end self nodes n a.state event came.turns)
    (sent_turns self nodes a.state came.turns)
    (turns_made no_news (λ turn. nothing) self nodes a.state came.turns)
    (both (keeps_news event ended left) (event_closing n event ended) [] [] (keeps_so event ended left) (event_made n event ended))
answer_made self nodes slots n a ask.Compact came may =
    more (turns_text no_news self nodes a.state came.turns) (closing n (line_end self nodes a.state came.turns))
    (sent_turns self nodes a.state came.turns)
    (turns_made no_news (λ turn. nothing) self nodes a.state came.turns) (closing_made n (line_end self nodes a.state came.turns))
answer_made self nodes slots n a (ask.Tick now) came may =
    let ended = line_end self nodes a.state came.turns in
    both (send_lines (sent_again now a.waits)) (turns_text fired_news self nodes a.state came.turns ++ tick_end self nodes n a.state came)
    (sent_again now a.waits) (sent_turns self nodes a.state came.turns)
    (sends_made (sent_again now a.waits))
    (more (turns_text fired_news self nodes a.state came.turns) (tick_end self nodes n a.state came)
    (sent_turns self nodes a.state came.turns)
    (turns_made fired_news (λ turn. fired_made (cause turn)) self nodes a.state came.turns)
    (both (next_line came.due) (closing n ended) [] [] (next_made came.due) (closing_made n ended)))
answer_made self nodes slots n a (ask.Lost id) came may =
    more (turns_text fired_news self nodes a.state came.turns) (closing n (line_end self nodes a.state came.turns))
    (sent_turns self nodes a.state came.turns)
    (turns_made fired_news (λ turn. fired_made (cause turn)) self nodes a.state came.turns)
    (closing_made n (line_end self nodes a.state came.turns))
answer_made self nodes slots n a ask.State came may =
    quiet_answer self nodes a.state came.turns (state_line a.state
    ++ ok_line n []) may (both (state_line a.state) (ok_line n []) [] [] (state_made (is_down a.state.state.phase) a.state)
    (ok_made n [] refl))
answer_made self nodes slots n a ask.Jobs came may =
    quiet_answer self nodes a.state came.turns (jobs_lines a.state
    ++ ok_line n []) may (both (jobs_lines a.state) (ok_line n []) [] [] (jobs_made (is_down a.state.state.phase) a.state)
    (ok_made n [] refl))
answer_made self nodes slots n a ask.Bad came may = quiet_answer self nodes a.state came.turns (bad_line n) may
    (said (codes "bad ") (decimal n) (number_line n) refl)
answer_made self nodes slots n a (ask.Refused why) came may =
    quiet_answer self nodes a.state came.turns (refused_line n why) may (by_why why)
  where
    by_why : (w : Unsealed) → IsMade (refused_line n w) []
    by_why unsealed.Forged = refused_row n (codes "Forged") refl
    by_why unsealed.Stale = refused_row n (codes "Stale") refl

-- ---- as it is written

record AreWritten (q : Seals) (life : Option ℕ) (text : List ℕ) (ms : List Envelope) : Type 0 where
  pub lines : sends_in (sealed_lines q.keys life q.number (lines_of text)) ≡ sealed_sends q.keys life q.number ms
  pub number : numbered life q.number (lines_of text) ≡ counted_under (Some q) life ms

written_so : Reads → (q : Seals) (life : Option ℕ) (text : List ℕ) (ms : List Envelope) → IsMade text ms → All IsMessage ms
    → AreWritten q life text ms
written_so reads q None text ms made all =
    let none = none_so q.keys q.number made.pieces made.quiet (subst (λ (x : List Envelope). All IsMessage x) made.messages all) in
    record {
      lines = ap (λ (t : List ℕ). sends_in (sealed_lines q.keys None q.number (lines_of t))) made.text_so ∙ none.0;
      number = ap (λ (t : List ℕ). numbered None q.number (lines_of t)) made.text_so ∙ none.1;
    }
written_so reads q (Some life) text ms made all =
    let all' = subst (λ (x : List Envelope). All IsMessage x) made.messages all in
    record {
      lines = ap (λ (t : List ℕ). sends_in (sealed_lines q.keys (Some life) q.number (lines_of t))) made.text_so
          ∙ (sealed_so reads q.keys life q.number made.pieces made.quiet all'
          ∙ ap (sealed_sends q.keys (Some life) q.number) (sym made.messages));
      number = ap (λ (t : List ℕ). numbered (Some life) q.number (lines_of t)) made.text_so
          ∙ (numbered_so life q.number made.pieces made.quiet all' ∙ ap (λ (x : List Envelope). q.number + length x) (sym made.messages));
    }

-- what is taken is not sealed
same_number : (q : Seals) (line : List ℕ) → (taken_sealed q line).number ≡ q.number
same_number q line = by_word (brought_word (words_of line))
  where
    by_fresh : (b : Bool) (m : Envelope) (stamp : Stamp) → (taken_fresh b q m stamp).number ≡ q.number
    by_fresh true m stamp = refl
    by_fresh false m stamp = refl

    by_brought : (brought : Brought) → (taken_brought q brought).number ≡ q.number
    by_brought NoBytes = refl
    by_brought Strange = refl
    by_brought Garbled = refl
    by_brought (Opened m stamp) = by_fresh (is_fresh q m stamp) m stamp

    by_told : (o : Option (ℕ × List ℕ)) → (taken_told q o).number ≡ q.number
    by_told None = refl
    by_told (Some it) = refl

    by_word : (o : Option (List ℕ)) → (taken_words q line o).number ≡ q.number
    by_word None = by_told (told_life line)
    by_word (Some word) = by_brought (brought_by q word)

-- the same of what a session keeps or doesn't
record AreUnder (seal taken : Option Seals) (life : Option ℕ) (text : List ℕ) (ms : List Envelope) : Type 0 where
  pub lines : sends_in (written taken life text) ≡ sends_under taken life ms
  pub number : sealed_so_far (sealed_behind taken life text) ≡ counted_under seal life ms

counted_same : (q r : Seals) (life : Option ℕ) (ms : List Envelope) → r.number ≡ q.number
    → counted_under (Some r) life ms ≡ counted_under (Some q) life ms
counted_same q r None ms same = same
counted_same q r (Some life) ms same = ap (λ (n : ℕ). n + length ms) same

under_so : Reads → (seal : Option Seals) (line : List ℕ) (life : Option ℕ) (text : List ℕ) (ms : List Envelope) → IsMade text ms
    → All IsMessage ms → AreUnder seal (taken_under seal line) life text ms
under_so reads None line life text ms made all =
    record { lines = ap sends_in made.text_so ∙ (plain_so made.pieces made.quiet ∙ ap plain_sends (sym made.messages)); number = refl }
under_so reads (Some q) line life text ms made all =
    let is = written_so reads (taken_sealed q line) life text ms made all in
    record { lines = is.lines; number = is.number ∙ counted_same q (taken_sealed q line) life ms (same_number q line) }

-- a session that was stopped answers nothing
none_under : (seal taken : Option Seals) (life : Option ℕ)
    → ([] ≡ sends_under taken life []) × (sealed_so_far seal ≡ counted_under seal life [])
none_under seal taken life = (none_sent taken life, none_counted seal life)
  where
    none_sent : (taken : Option Seals) (life : Option ℕ) → ([] ≡ sends_under taken life [])
    none_sent None life = refl
    none_sent (Some q) None = refl
    none_sent (Some q) (Some life) = refl

    none_counted : (seal : Option Seals) (life : Option ℕ) → sealed_so_far seal ≡ counted_under seal life []
    none_counted None life = refl
    none_counted (Some q) None = refl
    none_counted (Some q) (Some life) = omega arith

record AreSentBy (self nodes : ℕ) (b : Bool) (a : At) (line : List ℕ) (came : LineOutcome) : Type 0 where
  pub lines : sends_in (answer_by self nodes b a line came) ≡ sends_under (taken_under a.seal line)
      (life_of (after_by self nodes b a line came).state) (handed_by self nodes b a (asked_under a.seal line) came)
  pub number : sealed_so_far (after_by self nodes b a line came).seal
      ≡ counted_under a.seal (life_of (after_by self nodes b a line came).state) (handed_by self nodes b a (asked_under a.seal line) came)

sent_by : Reads → (self nodes slots : ℕ) (b : Bool) (a : At) (line : List ℕ) (came : LineOutcome)
    → Comes self nodes slots b a.state (asked_under a.seal line) came
    → All IsMessage (handed_by self nodes b a (asked_under a.seal line) came) → AreSentBy self nodes b a line came
sent_by reads self nodes slots true a line came comes all =
    (let none = none_under a.seal (taken_under a.seal line) (life_of a.state) in record { lines = none.0; number = none.1 })
sent_by reads self nodes slots false a line came comes all =
    let asked = asked_under a.seal line in
    let made = answer_made self nodes slots (next a.count asked) a asked came comes.0 in
    let is = under_so reads a.seal line (life_of (after_turns self nodes a.state came.turns)) (plain_answer self nodes a asked came)
    (handed_by self nodes false a asked came) made all in
    record { lines = is.lines; number = is.number }

pub messages_sealed : Reads → MessagesAreSealed
messages_sealed reads self nodes slots a line came comes all =
    (let is = sent_by reads self nodes slots a.stopped a line came comes all in record { lines = is.lines; number = is.number })

-- ---- of lines, one behind another

lines_sent : Reads → (self nodes slots : ℕ) (a : At) (ls : List (List ℕ)) (cs : List LineOutcome) → AreOf self nodes slots a ls cs
    → AreMessagesIn self nodes a ls cs → AreSentIn self nodes a ls cs
lines_sent reads self nodes slots a [] cs came all = tt
lines_sent reads self nodes slots a (l ∷ ls) [] came all = tt
lines_sent reads self nodes slots a (l ∷ ls) (c ∷ cs) came all = (
  messages_sealed reads self nodes slots a l c came.0 all.0,
  lines_sent reads self nodes slots (after_line self nodes a l c) ls cs came.1 all.1,
)

pub sends_sealed : {Disk : Type 0} (disks : Disk → DiskState) → Reads → SendsSealed disks
sends_sealed disks reads old new self nodes lines was s served =
    lines_sent reads self nodes (slots_for (disks was).sectors) (at_of old s) lines served.all served.came served.messages
