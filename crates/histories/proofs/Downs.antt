-- Nothing happens at a node that is down, until it mounts its disk.
use Rattle.std.proofs.Common.{◌≡◌, ℕ, true, false, List, [], refl, sym, ap, subst, None}
use Rattle.job_model.specs.declared.job.Job.{Job}
use Rattle.job_model.specs.Answer.{answer_to}
use Rattle.wire_msg.specs.declared.body.Body.{Body}
use Rattle.wire_msg.specs.declared.body.Body.TheVariants.{Here}
use Rattle.node_core.specs.declared.event.Event.{Event}
use Rattle.node_core.specs.declared.event.Event.TheVariants.{Timer, Deliver, Submit, Finish, Recover}
use Rattle.node_core.specs.declared.timer.Timer.TheVariants as timer
use Rattle.node_core.specs.State.{State}
use Rattle.node_core.specs.Start.{down}
use Rattle.node_core.specs.Effect.{Effect, quietly}
use Rattle.node_core.specs.Effects.{effect_of}
use Rattle.node_core.specs.Wants.{delivered_wants, wants_of}
use Rattle.node_core.specs.Refusals.{refusal_of}
use Rattle.histories.specs.NodeState.{NodeState, wants_at, effect_at}
use Rattle.histories.specs.Possible.{IsForNode}
use Rattle.histories.proofs.Reaches.{stays_down}

body_wants_none : (self from : ℕ) (pending : List Job) (body : Body) → delivered_wants from pending body (down self) ≡ None
body_wants_none self from pending (Here group agreed) = refl
body_wants_none self from pending body = refl

pub down_wants_none : (self nodes : ℕ) (pending : List Job) (event : Event) → IsForNode (down self) event
    → refusal_of nodes self event (down self) ≡ None → wants_of self pending event (down self) ≡ None
down_wants_none self nodes pending (Timer timer.Merge) up h = refl
down_wants_none self nodes pending (Deliver m) up h = body_wants_none self m.sender pending m.body
down_wants_none self nodes pending (Submit work) up h = absurd cc
down_wants_none self nodes pending (Finish origin id) up h = absurd cc
down_wants_none self nodes pending Recover up h = absurd (let risen : true ≡ false = up refl in cc)
down_wants_none self nodes pending event up h = refl

-- an event that a node takes while it is down
pub record StaysDown (self nodes : ℕ) (s : NodeState) (event : Event) : Type 0 where
  pub state : (effect_at self nodes s event).state ≡ down self
  pub sent : (effect_at self nodes s event).sent ≡ []
  pub wants : wants_at self nodes s event ≡ None

pub at_down : (self nodes : ℕ) (s : NodeState) (event : Event) → s.state ≡ down self → IsForNode s.state event
    → refusal_of nodes self event s.state ≡ None → StaysDown self nodes s event
at_down self nodes s event is up taken =
    let for_down : IsForNode (down self) event = subst (λ (v : State). IsForNode v event) is up in
    let taken_down : refusal_of nodes self event (down self) ≡ None =
    subst (λ (v : State). refusal_of nodes self event v ≡ None) is taken in
    let still : effect_at self nodes s event ≡ quietly (down self) =
    subst (λ (v : State). effect_of nodes self s.durable.pending event (answer_to s.durable (wants_of self s.durable.pending event v)) v
    ≡ quietly (down self)) (sym is)
    (stays_down self nodes s.durable.pending event (answer_to s.durable (wants_of self s.durable.pending event (down self))) for_down
    taken_down) in record {
      state = ap (λ (e : Effect). e.state) still;
      sent = ap (λ (e : Effect). e.sent) still;
      wants = subst (λ (v : State). wants_of self s.durable.pending event v ≡ None) (sym is)
          (down_wants_none self nodes s.durable.pending event for_down taken_down);
    }
