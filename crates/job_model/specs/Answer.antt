-- What the disk answers when it has taken a command.
use Rattle.std.specs.Prelude.{ℕ, ◌+◌, Option, option_map, unwrap_or}
use Rattle.job_model.specs.declared.node_command.NodeCommand.{NodeCommand as Command}
use Rattle.job_model.specs.declared.node_command.NodeCommand.TheVariants.{Raise, Put, Done}
use Rattle.job_model.specs.Durable.{Durable}

-- the new count, the id of the new job, or the id of the job that is done
abbrev pub answer_of : Durable → Command → ℕ
answer_of d Raise = d.counter + 1
answer_of d (Put work) = d.next
answer_of d (Done id) = id

-- the answer to the command that an event wants; where it wants none, it isn't looked at
abbrev pub answer_to : Durable → Option Command → ℕ
answer_to d wants = unwrap_or (option_map (answer_of d) wants) 0
