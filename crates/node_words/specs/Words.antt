-- How texts name what a node is in, what it does and says, and why it refuses.
use Rattle.std.specs.Prelude.{ℕ, List, [], ◌∷◌, ◌++◌, codes, decimal, Bool, true, false, Option, Some, None}
use Rattle.group_task.specs.Group.{Group}
use Rattle.wire_msg.specs.declared.body.Body.{Body}
use Rattle.wire_msg.specs.declared.body.Body.TheVariants as says
use Rattle.node_core.specs.declared.event.Event.{Event}
use Rattle.node_core.specs.declared.event.Event.TheVariants as on
use Rattle.node_core.specs.declared.fault.CoreFault.{CoreFault}
use Rattle.node_core.specs.declared.fault.CoreFault.TheVariants as core
use Rattle.node_core.specs.declared.phase.Phase.{Phase}
use Rattle.node_core.specs.declared.phase.Phase.TheVariants.{Down, Election, Reorganization, Normal}
use Rattle.node_core.specs.State.{State}
use Rattle.node_core.specs.TimerWords.{word_of}

abbrev pub truth_text : Bool → List ℕ
truth_text true = codes "yes"
truth_text false = codes "no"

abbrev pub group_text : Group → List ℕ
group_text g = decimal g.creator ++ codes ":" ++ decimal g.count

-- numbers, each behind a comma
abbrev pub more_ids_text : List ℕ → List ℕ
more_ids_text [] = []
more_ids_text (id ∷ ids) = codes "," ++ decimal id ++ more_ids_text ids

-- numbers joined by commas; a dash stands for none
abbrev pub ids_text : List ℕ → List ℕ
ids_text [] = codes "-"
ids_text (id ∷ ids) = decimal id ++ more_ids_text ids

abbrev pub phase_text : Phase → List ℕ
phase_text Down = codes "Down"
phase_text Election = codes "Election"
phase_text Reorganization = codes "Reorganization"
phase_text Normal = codes "Normal"

-- the coordinator and the group of a node that is up
abbrev pub group_part : State → List ℕ
group_part s = codes " coord " ++ decimal s.coordinator ++ codes " group " ++ group_text s.group

-- the word of an event, as requests and traces have it
abbrev pub event_word : Event → List ℕ
event_word (on.Timer timer) = word_of timer
event_word (on.Deliver m) = codes "deliver"
event_word (on.Submit work) = codes "submit"
event_word (on.Finish origin id) = codes "finish"
event_word on.Recover = codes "recover"

-- the word of a message's kind
abbrev pub kind_word : Body → List ℕ
kind_word says.AreYouCoordinator = codes "AreYouCoordinator"
kind_word (says.Coordinator answer) = codes "Coordinator"
kind_word (says.AreYouThere g) = codes "AreYouThere"
kind_word (says.Here g answer) = codes "Here"
kind_word (says.Invitation g) = codes "Invitation"
kind_word (says.Accept g) = codes "Accept"
kind_word (says.Ready task) = codes "Ready"
kind_word (says.ReadyAck g) = codes "ReadyAck"
kind_word (says.Work g id work) = codes "Work"
kind_word (says.Done id) = codes "Done"

-- the group that a message names, behind its kind
abbrev pub named_part : Option Group → List ℕ
named_part None = []
named_part (Some g) = codes " " ++ group_text g

-- the answer of a message that has one, behind other words
abbrev pub answer_part : Body → List ℕ
answer_part (says.Coordinator answer) = codes " " ++ truth_text answer
answer_part (says.Here g answer) = codes " " ++ truth_text answer
answer_part body = []

abbrev pub core_name : CoreFault → List ℕ
core_name core.Stranger = codes "Stranger"
core_name core.Down = codes "Down"
core_name (core.NotCoordinator id) = codes "NotCoordinator " ++ decimal id
core_name core.NotNormal = codes "NotNormal"
core_name core.UnknownJob = codes "UnknownJob"
core_name core.NoMemory = codes "NoMemory"

-- the id of a submitted job, behind the word that says that it was taken
abbrev pub id_text : Option ℕ → List ℕ
id_text None = []
id_text (Some id) = codes " id " ++ decimal id
