-- One pass over the commands that events want: a job is ended by a Finish of the node's own or by a Done that is delivered, and
-- no job but a pending one.
use Rattle.std.proofs.Common.{◌≡◌, ◌⊎◌, ◌∙◌, ℕ, Bool, true, false, not, ◌&&◌, List, refl, sym, subst, inl, inr, Option, Some, None}
use Rattle.std.specs.Prelude.{if◌then◌else◌, ◌==◌}
use Rattle.job_model.specs.declared.job.Job.{Job}
use Rattle.job_model.specs.declared.work.Work.{Work}
use Rattle.job_model.specs.declared.node_command.NodeCommand.{NodeCommand as Command}
use Rattle.job_model.specs.declared.node_command.NodeCommand.TheVariants.{Raise, Put, Done}
use Rattle.job_model.specs.Fold.{is_pending}
use Rattle.wire_msg.specs.Envelope.{Envelope}
use Rattle.wire_msg.specs.declared.body.Body.{Body}
use Rattle.wire_msg.specs.declared.body.Body.TheVariants.{Here, Done as DoneMessage}
use Rattle.node_core.specs.declared.event.Event.{Event}
use Rattle.node_core.specs.declared.event.Event.TheVariants.{Timer, Deliver, Submit, Finish, Recover}
use Rattle.node_core.specs.declared.timer.Timer.TheVariants as timer
use Rattle.node_core.specs.State.{State, is_down}
use Rattle.node_core.specs.Wants.{delivered_wants, wants_of}
use Rattle.histories.proofs.Tests.{and_left, and_right, eq_nat}

-- why a job is done: by a Finish of the node's own, or by a Done that is delivered
abbrev pub Cause : ℕ → Event → ℕ → Type 0
Cause self event id = (event ≡ Finish self id) ⊎ ((m : Envelope) × (event ≡ Deliver m) × (m.body ≡ DoneMessage id))

-- what an event may want
pub data MayWant (self : ℕ) (pending : List Job) (event : Event) (wants : Option Command) : Type 0 where
  wants_none : wants ≡ None → MayWant self pending event wants
  raises : wants ≡ Some Raise → MayWant self pending event wants
  puts : (work : Work) → event ≡ Submit work → wants ≡ Some (Put work) → MayWant self pending event wants
  ends : (id : ℕ) → is_pending pending id ≡ true → Cause self event id → wants ≡ Some (Done id) → MayWant self pending event wants

by_raise : (self : ℕ) (pending : List Job) (event : Event) (b : Bool) → MayWant self pending event (if b then Some Raise else None)
by_raise self pending event true = raises refl
by_raise self pending event false = wants_none refl

by_end : (self : ℕ) (pending : List Job) (event : Event) (b : Bool) (id : ℕ) → (b ≡ true → is_pending pending id ≡ true)
    → (b ≡ true → Cause self event id) → MayWant self pending event (if b then Some (Done id) else None)
by_end self pending event true id is why = ends id (is refl) (why refl) refl
by_end self pending event false id is why = wants_none refl

body_wants : (self : ℕ) (pending : List Job) (m : Envelope) (body : Body) (s : State) → m.body ≡ body
    → MayWant self pending (Deliver m) (delivered_wants m.sender pending body s)
body_wants self pending m (Here group agreed) s is = by_raise self pending (Deliver m) _
body_wants self pending m (DoneMessage id) s is = by_end self pending (Deliver m)
    (not (is_down s.phase) && is_pending pending id) id (λ t. and_right _ _ t) (λ t. inr (m, refl, is))
body_wants self pending m body s is = wants_none refl

pub may_want : (self : ℕ) (pending : List Job) (event : Event) (s : State) → MayWant self pending event (wants_of self pending event s)
may_want self pending (Timer timer.Merge) s = by_raise self pending (Timer timer.Merge) _
may_want self pending (Timer timer.Ready) s = by_raise self pending (Timer timer.Ready) _
may_want self pending (Timer timer.Coord) s = by_raise self pending (Timer timer.Coord) _
may_want self pending (Deliver m) s = body_wants self pending m m.body s refl
may_want self pending (Submit work) s = puts work refl refl
may_want self pending (Finish origin id) s = by_end self pending (Finish origin id)
    (origin == self && is_pending pending id) id (λ t. and_right _ _ t)
    (λ t. inl (let own : origin ≡ self = eq_nat origin self (and_left _ _ t) in λ k. Finish (own k) id))
may_want self pending Recover s = raises refl
may_want self pending event s = wants_none refl

-- ---- a command that ends a job

pub record Ends (self : ℕ) (pending : List Job) (event : Event) (id : ℕ) : Type 0 where
  pub is_pending : is_pending pending id ≡ true
  pub cause : Cause self event id

ends_by : (self : ℕ) (pending : List Job) (event : Event) (wants : Option Command) (id : ℕ) → MayWant self pending event wants
    → wants ≡ Some (Done id) → Ends self pending event id
ends_by self pending event wants id (wants_none none) is = (let both : None ≡ Some (Done id) = sym none ∙ is in absurd cc)
ends_by self pending event wants id (raises raise) is = (let both : Some Raise ≡ Some (Done id) = sym raise ∙ is in absurd cc)
ends_by self pending event wants id (puts work of put) is = (let both : Some (Put work) ≡ Some (Done id) = sym put ∙ is in absurd cc)
ends_by self pending event wants id (ends job there why done) is =
    let both : Some (Done job) ≡ Some (Done id) = sym done ∙ is in
    let same : job ≡ id = cc both in
    subst (λ (k : ℕ). Ends self pending event k) same (record { is_pending = there; cause = why })

pub wanted_pending : (self : ℕ) (pending : List Job) (event : Event) (s : State) (id : ℕ) → wants_of self pending event s ≡ Some (Done id)
    → is_pending pending id ≡ true
wanted_pending self pending event s id h = (ends_by self pending event (wants_of self pending event s) id (may_want self pending event s)
    h).is_pending

pub causes : (self : ℕ) (pending : List Job) (event : Event) (s : State) (id : ℕ) → wants_of self pending event s ≡ Some (Done id)
    → Cause self event id
causes self pending event s id h = (ends_by self pending event (wants_of self pending event s) id (may_want self pending event s) h).cause
