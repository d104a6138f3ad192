-- What a service that follows the node reads: that its group changed, and the jobs that came into its hand or left it.
use Rattle.std.specs.Prelude.{ℕ, List, [], ◌++◌, map, codes, decimal, Bool, true, false, Option, Some, None, Ok}
use Rattle.std.specs.List.{flat_map}
use Rattle.console_text.specs.Words.{work_text}
use Rattle.wire_msg.specs.declared.body.Body.{Body}
use Rattle.wire_msg.specs.declared.body.Body.TheVariants as says
use Rattle.node_core.specs.declared.event.Event.{Event}
use Rattle.node_core.specs.declared.event.Event.TheVariants as on
use Rattle.node_core.specs.declared.in_hand.InHand.{InHand}
use Rattle.node_core.specs.State.{State, is_down}
use Rattle.durable_node.specs.Changes.{dropped_since, held_by, taken_since, told_anew, view_of}
use Rattle.durable_node.specs.declared.group_view.GroupView.{GroupView}
use Rattle.node_words.specs.Words.{group_text, ids_text, phase_text}
use Rattle.node_session.specs.Turns.{CallEnd}

-- ---- the group

-- phase, coordinator, number and members; of a node that is down its phase alone
abbrev pub group_by : Bool → GroupView → List ℕ
group_by true view = codes "group Down\n"
group_by false view =
    codes "group " ++ phase_text view.phase ++ codes " " ++ decimal view.coordinator ++ codes " " ++ group_text view.group ++ codes " "
    ++ ids_text view.members ++ codes "\n"

abbrev pub group_line : GroupView → List ℕ
group_line view = group_by (is_down view.phase) view

-- the line is written where another thing was told before
abbrev pub group_news : Option GroupView → List ℕ
group_news None = []
group_news (Some view) = group_line view

-- ---- the hand

-- a job in hand, with its queue and its payload
abbrev pub held_text : InHand → List ℕ
held_text job = decimal job.origin ++ codes " " ++ decimal job.id ++ codes " "
    ++ work_text job.work.queue job.work.payload job.work.priority

abbrev pub take_line : InHand → List ℕ
take_line job = codes "take " ++ held_text job ++ codes "\n"

abbrev pub drop_line : ℕ × ℕ → List ℕ
drop_line pair = codes "drop " ++ decimal pair.0 ++ codes " " ++ decimal pair.1 ++ codes "\n"

abbrev pub is_finish : Option Event → Bool
is_finish (Some (on.Finish origin id)) = true
is_finish event = false

-- who finishes a job knows that it left the hand
abbrev pub drops_by : Bool → List (ℕ × ℕ) → List ℕ
drops_by true pairs = []
drops_by false pairs = flat_map drop_line pairs

-- ---- the own jobs

abbrev pub gone_line : ℕ → List ℕ
gone_line id = codes "gone " ++ decimal id ++ codes "\n"

abbrev pub gone_by : Body → ℕ → List ℕ
gone_by (says.Done job) id = gone_line id
gone_by body id = []

-- the answer to a command that takes a job out of the table is its id
abbrev pub gone_at : Option Event → ℕ → List ℕ
gone_at (Some (on.Finish origin job)) id = gone_line id
gone_at (Some (on.Deliver m)) id = gone_by m.body id
gone_at event id = []

abbrev pub gone_news : Option Event → CallEnd → List ℕ
gone_news event (Ok (Some id)) = gone_at event id
gone_news event ended = []

-- ---- all

-- a group that is told anew, and the jobs that were taken and dropped; finished: whether a job was
abbrev pub news : Bool → Option GroupView → List InHand → List (ℕ × ℕ) → List ℕ
news finished group taken dropped = group_news group ++ (flat_map take_line taken ++ drops_by finished dropped)

-- what another state adds
abbrev pub changes : Bool → State → State → List ℕ
changes finished old new =
    news finished (told_anew (view_of old) (view_of new)) (taken_since (map held_by old.hand) new.hand)
    (dropped_since (map held_by old.hand) new.hand)
