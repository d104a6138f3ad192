-- A message is planned and committed.
use Rattle.std.proofs.Common.{◌≡◌, List, [], sym, ap, ◌∙◌}
use Rattle.job_model.specs.declared.job.Job.{Job}
use Rattle.wire_msg.specs.Envelope.{Envelope}
use Rattle.node_core.specs.declared.event.Event.{Event}
use Rattle.node_core.specs.declared.event.Event.TheVariants.{Deliver}
use Rattle.node_core.specs.declared.plan.Plan.{Plan}
use Rattle.node_core.specs.Effect.{Effect}
use Rattle.node_core.specs.Effects.{effect_of}
use Rattle.node_core.specs.Core.{Core, IsPlanFor}
use Rattle.node_core.specs.Quiet.{IsQuiet}
use Rattle.node_core.proofs.PublicLaws.{stays_quiet}
use Rattle.invite_console.specs.Answer.{next_count}
use Rattle.invite_console.specs.Session.{Delivers}

-- what the plan was made for is what comes of it
pub delivers : (old planned new : Core) (pending : List Job) (m : Envelope) (plan : Plan) (sent : List Envelope) → pending ≡ []
    → planned ≡ record old { room = planned.room } → new ≡ record planned { state = new.state; room = new.room }
    → IsPlanFor planned pending (Deliver m) plan
    → ((jobs : List Job) (event : Event) → IsPlanFor planned jobs event plan
    → effect_of planned.nodes planned.id jobs event next_count planned.state ≡ record { state = new.state; sent = sent })
    → Delivers old m new sent
delivers old planned new pending m plan sent empty kept same planned_for step = record {
  id = ap (λ c. c.id) same ∙ ap (λ c. c.id) kept;
  nodes = ap (λ c. c.nodes) same ∙ ap (λ c. c.nodes) kept;
  effect =
      sym (ap (λ (c : Core). effect_of c.nodes c.id [] (Deliver m) next_count c.state) kept)
      ∙ (sym (ap (λ jobs. effect_of planned.nodes planned.id jobs (Deliver m) next_count planned.state) empty)
      ∙ step pending (Deliver m) planned_for);
}

pub quiet_after : (old new : Core) (m : Envelope) (sent : List Envelope) → IsQuiet old.state → Delivers old m new sent → IsQuiet new.state
quiet_after old new m sent quiet h = sym (ap (λ (e : Effect). e.state.probing) h.effect)
    ∙ stays_quiet old.id m.sender m.body next_count old.state quiet
