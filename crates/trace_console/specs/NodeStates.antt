-- How a node stands with its disk, as lines.
use Rattle.std.specs.Prelude.{ℕ, List, [], ◌++◌, codes, decimal, Option, Some, None}
use Rattle.std.specs.List.{flat_map}
use Rattle.group_task.specs.Assignment.{Assignment}
use Rattle.job_model.specs.Durable.{Durable}
use Rattle.job_model.specs.declared.job.Job.{Job}
use Rattle.job_model.specs.declared.node_command.NodeCommand.{NodeCommand as Command}
use Rattle.job_model.specs.declared.node_command.NodeCommand.TheVariants.{Raise, Put, Done}
use Rattle.console_text.specs.Words.{work_text}
use Rattle.node_core.specs.State.{State}
use Rattle.node_core.specs.declared.in_hand.InHand.{InHand}
use Rattle.node_words.specs.Words.{group_part, group_text, ids_text, phase_text, truth_text}
use Rattle.histories.specs.NodeState.{NodeState}

-- the group that its task is of, and its members
unfoldable pub task_text : Option Assignment → List ℕ
task_text None = codes " task - members -"
task_text (Some task) = codes " task " ++ group_text task.group ++ codes " members " ++ ids_text task.members

-- what it asked, and whom it waits for
unfoldable pub asking_text : State → List ℕ
asking_text s = codes " found " ++ ids_text s.found ++ codes " unready " ++ ids_text s.unready ++ codes " checking "
    ++ truth_text s.checking ++ codes " probing " ++ truth_text s.probing

unfoldable pub state_text : State → List ℕ
state_text s = phase_text s.phase ++ group_part s ++ codes " up " ++ ids_text s.up ++ task_text s.task ++ asking_text s

-- its counter, and the id of its next job
unfoldable pub numbers_text : Durable → List ℕ
numbers_text d = codes " count " ++ decimal d.counter ++ codes " next " ++ decimal d.next

-- a line for each job, behind the end of the line before
unfoldable pub pending_text : Job → List ℕ
pending_text job = codes "\npending " ++ decimal job.id ++ codes " " ++ work_text job.work.queue job.work.payload job.work.priority

unfoldable pub held_text : InHand → List ℕ
held_text job = codes "\nhand " ++ decimal job.origin ++ codes " " ++ decimal job.id ++ codes " "
    ++ work_text job.work.queue job.work.payload job.work.priority

-- and for a command in doubt
abbrev pub doubt_text : Option Command → List ℕ
doubt_text None = []
doubt_text (Some Raise) = codes "\ndoubt raise"
doubt_text (Some (Put work)) = codes "\ndoubt put " ++ work_text work.queue work.payload work.priority
doubt_text (Some (Done id)) = codes "\ndoubt done " ++ decimal id

abbrev pub jobs_text : NodeState → List ℕ
jobs_text s = flat_map pending_text s.durable.pending ++ flat_map held_text s.state.hand

unfoldable pub node_state_text : NodeState → List ℕ
node_state_text s = state_text s.state ++ numbers_text s.durable ++ jobs_text s ++ doubt_text s.doubt
