-- Which events take memory. Every other event is never refused for want of it.
use Rattle.std.specs.Prelude.{◌≡◌, ℕ, ◌==◌, Bool, true, false, not, ◌&&◌, ◌||◌, Result, Ok, Err}
use Rattle.group_task.specs.Group.{same_group}
use Rattle.group_task.specs.Ids.{has}
use Rattle.wire_msg.specs.declared.body.Body.{Body}
use Rattle.wire_msg.specs.declared.body.Body.TheVariants as says
use Rattle.node_core.specs.declared.event.Event.{Event}
use Rattle.node_core.specs.declared.event.Event.TheVariants as on
use Rattle.node_core.specs.declared.timer.Timer.TheVariants as timer
use Rattle.node_core.specs.declared.fault.CoreFault.{CoreFault}
use Rattle.node_core.specs.declared.fault.CoreFault.TheVariants.{NoMemory}
use Rattle.node_core.specs.declared.plan.Plan.{Plan}
use Rattle.node_core.specs.declared.phase.Phase.TheVariants.{Down, Election, Reorganization, Normal}
use Rattle.node_core.specs.State.{State, in_phase}
use Rattle.node_core.specs.Words.{leads_in, members_of, owner, holds}
use Rattle.node_core.specs.Timers.{merges, follows}
use Rattle.node_core.specs.Messages.{was_probed, takes_invitation, is_told}
use Rattle.node_core.specs.Planned.{gain_of}

-- where its guard holds, a message takes memory for its answer or for the work that it brings, but for those that are noted, give
-- the group up, or change the disk alone. A question is answered by every node that is up
abbrev pub delivered_takes : ℕ → ℕ → Body → State → Bool
delivered_takes self from (says.Coordinator agreed) s = false
delivered_takes self from (says.Here group agreed) s = was_probed from group s && agreed
delivered_takes self from (says.Invitation group) s = takes_invitation self group s
delivered_takes self from (says.Accept group) s = false
delivered_takes self from (says.Ready task) s = is_told self from task s && (in_phase Reorganization s.phase || in_phase Normal s.phase)
delivered_takes self from (says.ReadyAck group) s = false
delivered_takes self from (says.Work group id work) s =
    in_phase Normal s.phase && same_group group s.group && has (members_of s.task) from
    && owner s work.queue == self && not (holds s.hand from id)
delivered_takes self from (says.Done id) s = false
delivered_takes self from body s = not (in_phase Down s.phase)

abbrev pub takes_memory : ℕ → Event → State → Bool
takes_memory self (on.Timer timer.Check) s = leads_in Normal self s
takes_memory self (on.Timer timer.Merge) s = merges self s
takes_memory self (on.Timer timer.Accept) s = leads_in Election self s
takes_memory self (on.Timer timer.Ready) s = false
takes_memory self (on.Timer timer.Coord) s = follows self s && not s.probing
takes_memory self (on.Timer timer.Dispatch) s = in_phase Normal s.phase
takes_memory self (on.Deliver m) s = delivered_takes self m.sender m.body s
takes_memory self on.Recover s = false
takes_memory self (on.Submit work) s = true
takes_memory self (on.Finish origin job) s = not (origin == self)

-- where the row takes no memory, it is planned, and its plan needs no room in the hand
abbrev pub Spares : {E : Type 0} → Bool → Result Plan E → Type 0
Spares takes (Ok plan) = takes ≡ false → gain_of plan.act ≡ 0
Spares takes (Err e) = takes ≡ true

-- likewise where an event may also be refused by the table
abbrev pub SparesMemory : Bool → Result Plan CoreFault → Type 0
SparesMemory takes (Ok plan) = takes ≡ false → gain_of plan.act ≡ 0
SparesMemory takes (Err fault) = fault ≡ NoMemory → takes ≡ true
