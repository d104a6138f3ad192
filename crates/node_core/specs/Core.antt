-- What contracts see of the state machine of a node.
use Rattle.std.specs.Prelude.{ℕ, ◌≡◌, ◌≢◌, ◌+◌, ◌≤◌, List, length, vec_capacity, Result, Err, IfOk, IfErr, OnErr, IfSome, Some, None, true}
use Rattle.job_model.specs.declared.job.Job.{Job}
use Rattle.node_core.specs.declared.event.Event.{Event}
use Rattle.node_core.specs.declared.plan.Plan.{Plan}
use Rattle.node_core.specs.State.{State}
use Rattle.node_core.specs.Effects.{effect_of}
use Rattle.node_core.specs.Wants.{wants_of}
use Rattle.node_core.specs.Planned.{CanAct, gain_of, plan_wants, plan_sends, planned_effect}
use Rattle.node_core.specs.Most.{most_of}
use Rattle.node_core.specs.declared.fault.CoreFault.{CoreFault}
use Rattle.node_core.specs.declared.fault.CoreFault.TheVariants.{NoMemory}
use Rattle.node_core.specs.Refusals.{refusal_of}
use Rattle.node_core.specs.Memory.{takes_memory}

-- the node, the number of nodes, its state, and for how many jobs its hand has room
pub record Core : Type 0 where
  pub id : ℕ
  pub nodes : ℕ
  pub state : State
  pub room : ℕ

-- the plan can be carried out on this core without growth
pub record CanCarry (core : Core) (plan : Plan) : Type 0 where
  pub fits : CanAct core.nodes core.id core.state plan.act plan.messages.items (vec_capacity plan.messages)
  pub room : length core.state.hand + gain_of plan.act ≤ core.room

-- carrying the plan out does what the event does: it is what the last planning of this core left
pub record IsPlanFor (core : Core) (pending : List Job) (event : Event) (plan : Plan) : Type 0 where
  pub effect_is : (answer : ℕ) →
      planned_effect core.id plan answer core.state ≡ effect_of core.nodes core.id pending event answer core.state
  pub wants_is : plan_wants plan ≡ wants_of core.id pending event core.state
  pub few : plan_sends core.id plan ≤ most_of core.nodes pending
  pub can_carry : CanCarry core plan

-- what planning an event leaves of a core, and answers: the plan, or why the event is refused
pub record IsPlanned (before after : Core) (pending : List Job) (event : Event) (result : Result Plan CoreFault) : Type 0 where
  pub kept : after ≡ record before { room = after.room }
  pub plan : IfOk result (IsPlanFor after pending event)
  pub done : IfOk result (λ _. refusal_of before.nodes before.id event before.state ≡ None)
  -- a refusal of the table comes first
  pub refused : IfSome (refusal_of before.nodes before.id event before.state) (λ fault. result ≡ Err fault)
  pub memory : IfErr result (λ fault. fault ≢ NoMemory → refusal_of before.nodes before.id event before.state ≡ Some fault)
  pub spares : result ≡ Err NoMemory → takes_memory before.id event before.state ≡ true
  pub unchanged : OnErr result (after ≡ before)
