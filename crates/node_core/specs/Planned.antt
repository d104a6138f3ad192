-- What a plan will make of the state of a node.
use Rattle.std.specs.Prelude.{ℕ, ◌≡◌, ◌==◌, ◌≤◌, List, [], ◌∷◌, ◌++◌, length, if◌then◌else◌, Option, Some, None, vec_capacity, vec_len}
use Rattle.group_task.specs.Others.{AreOthers}
use Rattle.job_model.specs.declared.node_command.NodeCommand.{NodeCommand as Command}
use Rattle.job_model.specs.declared.node_command.NodeCommand.TheVariants.{Raise, Put, Done}
use Rattle.wire_msg.specs.Envelope.{Envelope}
use Rattle.wire_msg.specs.declared.body.Body.TheVariants.{Invitation, Work}
use Rattle.node_core.specs.declared.wanted.Wanted.{Wanted}
use Rattle.node_core.specs.declared.wanted.Wanted.TheVariants as wanted
use Rattle.node_core.specs.declared.wanted.WantedRef.{WantedRef}
use Rattle.node_core.specs.declared.wanted.WantedRef.TheVariants as lent
use Rattle.node_core.specs.declared.plan.PlannedEffect.{PlannedEffect}
use Rattle.node_core.specs.declared.plan.PlannedEffect.TheVariants.{Stay, Mark, Apply, Invite, Recover, Place, Finish}
use Rattle.node_core.specs.declared.plan.Plan.{Plan}
use Rattle.node_core.specs.declared.node_view.NodeView.{NodeView}
use Rattle.node_core.specs.declared.phase.Phase.TheVariants.{Election}
use Rattle.node_core.specs.State.{State, with_standing}
use Rattle.node_core.specs.Effect.{Effect, quietly, tells}
use Rattle.node_core.specs.Words.{own_group, without_held}
use Rattle.node_core.specs.Noted.{noted}
use Rattle.node_core.specs.Start.{alone, entering}
use Rattle.node_core.specs.Consistent.{IsConsistent}
use Rattle.node_core.specs.NodeView.{state_at}

-- what carrying out the plan makes of the state, where answer is the new count or the new id
abbrev pub carried : ℕ → PlannedEffect → ℕ → State → Effect → Effect
carried self (Stay job) answer s ready = ready
carried self (Mark note) answer s ready = record ready { state = noted note s }
carried self (Apply change) answer s ready =
    record ready { state = with_standing change.value.group_state (s.hand ++ change.value.gains.items) }
carried self (Invite receivers) answer s ready =
    tells self (entering Election (own_group self answer)) receivers (Invitation (own_group self answer))
carried self Recover answer s ready = quietly (alone self answer)
carried self (Place to work) answer s ready =
    if to == self
    then quietly (record s { hand = s.hand ++ (record { origin = self; id = answer; work = work.now }) ∷ [] })
    else tells self s (to ∷ []) (Work s.group answer work.now)
carried self (Finish origin id job) answer s ready =
    record ready { state = record s { hand = without_held s.hand origin id } }

abbrev pub planned_effect : ℕ → Plan → ℕ → State → Effect
planned_effect self plan answer s = carried self plan.act answer s (record { state = s; sent = plan.messages.items })

-- the command that marks a job as done, if there is one
abbrev pub done_wanted : Option ℕ → Option Command
done_wanted None = None
done_wanted (Some id) = Some (Done id)

-- the command that a plan with this act wants
abbrev pub act_wants : PlannedEffect → Option Command
act_wants (Stay job) = done_wanted job
act_wants (Mark note) = None
act_wants (Apply change) = None
act_wants (Invite receivers) = Some Raise
act_wants Recover = Some Raise
act_wants (Place to work) = Some (Put work.now)
act_wants (Finish origin id job) = done_wanted job

-- the command that a plan wants
abbrev pub plan_wants : Plan → Option Command
plan_wants plan = act_wants plan.act

-- the command that a value of `Wanted` names
abbrev pub wanted_by : Wanted → Option Command
wanted_by wanted.None = None
wanted_by wanted.Raise = Some Raise
wanted_by (wanted.Put work) = Some (Put work)
wanted_by (wanted.Done id) = Some (Done id)

-- the command that a value of `WantedRef` names
abbrev pub lent_by : WantedRef → Option Command
lent_by lent.None = None
lent_by lent.Raise = Some Raise
lent_by (lent.Put work) = Some (Put work.now)
lent_by (lent.Done id) = Some (Done id)

-- how many messages carrying out the plan sends
abbrev pub act_sends : ℕ → PlannedEffect → List Envelope → ℕ
act_sends self (Stay job) messages = length messages
act_sends self (Mark note) messages = length messages
act_sends self (Apply change) messages = length messages
act_sends self (Invite receivers) messages = length receivers
act_sends self Recover messages = 0
act_sends self (Place to work) messages = if to == self then 0 else 1
act_sends self (Finish origin id job) messages = length messages

abbrev pub plan_sends : ℕ → Plan → ℕ
plan_sends self plan = act_sends self plan.act plan.messages.items

-- by how many jobs the hand may grow
abbrev pub gain_of : PlannedEffect → ℕ
gain_of (Stay job) = 0
gain_of (Mark note) = 0
gain_of (Apply change) = vec_len change.value.gains
gain_of (Invite receivers) = 0
gain_of Recover = 0
gain_of (Place to work) = 1
gain_of (Finish origin id job) = 0

-- the plan can be carried out without growth, and leaves a consistent state
abbrev pub CanAct : ℕ → ℕ → State → PlannedEffect → List Envelope → ℕ → Type 0
CanAct nodes self s (Stay job) sent room = Unit {0}
CanAct nodes self s (Mark note) sent room = IsConsistent nodes self (noted note s)
CanAct nodes self s (Apply change) sent room =
    IsConsistent nodes self (with_standing change.value.group_state (s.hand ++ change.value.gains.items))
CanAct nodes self s (Invite receivers) sent room = (sent ≡ []) × (length receivers ≤ room) × AreOthers nodes self receivers
CanAct nodes self s Recover sent room = sent ≡ []
CanAct nodes self s (Place to work) sent room = (sent ≡ []) × (1 ≤ room)
CanAct nodes self s (Finish origin id job) sent room = IsConsistent nodes self (record s { hand = without_held s.hand origin id })

-- the plan makes this effect, for every answer, and wants this command
pub record IsPlanOf (node_view : NodeView) (plan : Plan) (wants : Option Command) (effect : ℕ → Effect) : Type 0 where
  pub effect_is : (answer : ℕ) → planned_effect node_view.id plan answer (state_at node_view) ≡ effect answer
  pub wants_is : plan_wants plan ≡ wants
  pub fits : CanAct node_view.nodes node_view.id (state_at node_view) plan.act plan.messages.items (vec_capacity plan.messages)
