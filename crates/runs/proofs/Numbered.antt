-- The messages of a moment are those under its numbers, also when more were sent after it.
use Rattle.std.proofs.Common.{◌≡◌, ℕ, zero, suc, List, [], ◌∷◌, ◌++◌, length, take, drop, slice_get, refl, sym, ◌∙◌, ap, subst, Some}
use Rattle.std.proofs.Common.{append_assoc}
use Rattle.std.proofs.lemmas.List.{append-nil}
use Rattle.std.proofs.Math.Seq.{drop-append_seam, take-append_seam}
use Rattle.wire_msg.specs.Envelope.{Envelope}
use Rattle.histories.specs.NodeState.{NodeState}
use Rattle.histories.specs.declared.history_event.HistoryEvent.{HistoryEvent}
use Rattle.histories.specs.declared.history_event.HistoryEvent.TheVariants.{NoOp, Crashed}
use Rattle.histories.specs.declared.history_event.NoOpKind.TheVariants.{Nothing}
use Rattle.histories.specs.After.{sent_at}
use Rattle.schedule.specs.declared.act.Act.{Act}
use Rattle.schedule.specs.declared.act.Act.TheVariants as act
use Rattle.runs.specs.World.{World, node_in, start}
use Rattle.runs.specs.Step.{Step, Takes, Changes, Denies, step_sent, world_after}
use Rattle.runs.specs.Run.{IsAllowed, RunFrom, world_at}
use Rattle.runs.proofs.ExactRuns.{left_run}
use Rattle.runs.proofs.Exact.{all_acts_run}
use Rattle.runs.proofs.Reports.{moments_from, moments_are}
use Rattle.runs.specs.declared.outcome.Outcome.{Outcome}
use Rattle.runs.specs.declared.outcome.Outcome.TheVariants.{Done}
use Rattle.runs.specs.Acts.{what_outcome, act_outcome}
use Rattle.runs.specs.Reporting.{Moment, Report, moment_of}
use Rattle.runs.specs.Growth.{IsLeft, acts_in}
use Rattle.runs.specs.Numbered.{sent_under}

-- what stands behind the first ones, as many as it is
part_between : (first part rest : List Envelope) → take (length part) (drop (length first) ((first ++ part) ++ rest)) ≡ part
part_between first part rest = rw (append_assoc first part rest, drop-append_seam first (part ++ rest)) (take-append_seam part rest)

-- an act that was done says how many messages had been sent before it and by it, and another one sends none
abbrev pub IsSaid : ℕ → List Envelope → Outcome → Type 0
IsSaid first sent (Done answer k many) = Done answer k many ≡ Done answer first (length sent)
IsSaid first sent refused = sent ≡ []

-- what comes at a node
node_said : (n nodes first : ℕ) (s : NodeState) (what : HistoryEvent) (a : Act)
    → IsSaid first (sent_at n nodes s what) (what_outcome n nodes first s what a)
node_said n nodes first s (NoOp Nothing) a = refl
node_said n nodes first s Crashed (act.Compact m) = refl
node_said n nodes first s _ a = refl

pub step_said : (nodes : ℕ) (w : World) (a : Act) (step : Step)
    → IsSaid (length w.net.sent) (step_sent nodes w step) (act_outcome nodes w a step)
step_said nodes w a (Takes n number what) = node_said n nodes (length w.net.sent) (node_in w.states n) what a
step_said nodes w a _ = refl

said_numbered : (before sent rest : List Envelope) (o : Outcome) → IsSaid (length before) sent o
    → sent ≡ sent_under ((before ++ sent) ++ rest) o
said_numbered before sent rest (Done answer k many) is = sym (ap (sent_under ((before ++ sent) ++ rest)) is ∙ part_between before sent rest)
said_numbered before sent rest _ is = is

pub step_numbered : (nodes : ℕ) (w : World) (a : Act) (step : Step) (rest : List Envelope)
    → step_sent nodes w step ≡ sent_under ((world_after nodes w step).net.sent ++ rest) (act_outcome nodes w a step)
step_numbered nodes w a (Takes n number what) rest = said_numbered w.net.sent _ rest _ (step_said nodes w a (Takes n number what))
step_numbered nodes w a _ rest = refl

-- ---- messages are only added, at the end

pub step_adds : (nodes : ℕ) (w : World) (step : Step) → IsAllowed nodes w step
    → (world_after nodes w step).net.sent ≡ w.net.sent ++ step_sent nodes w step
step_adds nodes w (Takes n number what) allowed = refl
step_adds nodes w (Changes net) allowed = allowed ∙ sym (append-nil w.net.sent)
step_adds nodes w (Denies n why) allowed = sym (append-nil w.net.sent)

pub run_adds : (nodes : ℕ) (steps : List Step) (w : World) → RunFrom nodes w steps
    → (more : List Envelope) × ((world_at nodes w steps).net.sent ≡ w.net.sent ++ more)
run_adds nodes [] w run = ([], sym (append-nil w.net.sent))
run_adds nodes (step ∷ steps) w run =
    let rest = run_adds nodes steps (world_after nodes w step) run.1 in (
      step_sent nodes w step ++ rest.0,
      rest.1 ∙ (ap (λ (ms : List Envelope). ms ++ rest.0) (step_adds nodes w step run.0)
          ∙ append_assoc w.net.sent (step_sent nodes w step) rest.0),
    )

-- ---- moments

-- whatever steps there are, and whatever is sent after them
pub moment_numbered : (k nodes : ℕ) (acts : List Act) (steps : List Step) (w : World) (m : Moment) (more : List Envelope)
    → RunFrom nodes w steps → slice_get (moments_from nodes w acts steps) k ≡ Some m
    → m.sent ≡ sent_under ((world_at nodes w steps).net.sent ++ more) m.outcome
moment_numbered k nodes [] steps w m more run at = absurd cc
moment_numbered k nodes (a ∷ acts) [] w m more run at = absurd cc
moment_numbered zero nodes (a ∷ acts) (step ∷ steps) w m more run at =
    let it : moment_of nodes w a step ≡ m = cc at in
    let grown = run_adds nodes steps (world_after nodes w step) run.1 in
    subst (λ (x : Moment). x.sent ≡ sent_under ((world_at nodes (world_after nodes w step) steps).net.sent ++ more) x.outcome) it
    (subst (λ (all : List Envelope). step_sent nodes w step ≡ sent_under all (act_outcome nodes w a step))
    (sym (append_assoc (world_after nodes w step).net.sent grown.0 more) ∙ ap (λ (all : List Envelope). all ++ more) (sym grown.1))
    (step_numbered nodes w a step (grown.0 ++ more)))
moment_numbered (suc k) nodes (a ∷ acts) (step ∷ steps) w m more run at =
    moment_numbered k nodes acts steps (world_after nodes w step) m more run.1 at

-- of a cluster that a run left, and its report
pub left_numbered : (nodes slots : ℕ) (w : World) (r : Report) (more : List Envelope) → IsLeft nodes slots w r → (k : ℕ) (m : Moment)
    → slice_get r.moments k ≡ Some m → m.sent ≡ sent_under (w.net.sent ++ more) m.outcome
left_numbered nodes slots w r more left k m at =
    let shown : slice_get (moments_from nodes (start nodes) (acts_in r) left.steps) k ≡ Some m =
    subst (λ (ms : List Moment). slice_get ms k ≡ Some m) (ap (λ (x : Report). x.moments) left.reported
    ∙ moments_are nodes (acts_in r) left.steps) at in
    subst (λ (x : World). m.sent ≡ sent_under (x.net.sent ++ more) m.outcome) (sym left.world)
    (moment_numbered k nodes (acts_in r) left.steps (start nodes) m more
    (all_acts_run nodes slots (start nodes) (acts_in r) left.steps (left_run nodes slots w r left)) shown)
