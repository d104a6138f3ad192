-- No more jobs are pending than a disk has slots, with the command in doubt or without it.
use Rattle.std.proofs.Common.{◌≡◌, ℕ, ◌+◌, ◌≤◌, Bool, true, false, not, List, [], ◌∷◌, length, slice_get, refl, ap, subst, inl, inr}
use Rattle.std.proofs.Common.{arith, Option, Some, None}
use Rattle.std.specs.Prelude.{◌==◌}
use Rattle.std.proofs.lemmas.Bool.{cases_lt}
use Rattle.std.proofs.lemmas.List.{length-append}
use Rattle.std.proofs.lemmas.List.Sums.{length-filter, count_by-le-length}
use Rattle.job_model.specs.declared.job.Job.{Job}
use Rattle.job_model.specs.declared.node_command.NodeCommand.{NodeCommand as Command}
use Rattle.job_model.specs.declared.node_command.NodeCommand.TheVariants.{Raise, Put, Done}
use Rattle.job_model.specs.Durable.{Durable}
use Rattle.job_model.specs.Fold.{after_wanted}
use Rattle.node_core.specs.State.{is_down}
use Rattle.node_core.specs.NodeStep.{IsFull}
use Rattle.histories.specs.NodeState.{NodeState, wants_at, settled}
use Rattle.histories.specs.declared.history_event.HistoryEvent.{HistoryEvent}
use Rattle.histories.specs.declared.history_event.HistoryEvent.TheVariants.{Did, Faulted, Recovered}
use Rattle.histories.specs.declared.history_event.HistoryEvent.TheVariants.{RaiseFailed, RaiseRefused}
use Rattle.histories.specs.After.{after, mounted_at}
use Rattle.histories.specs.Possible.{IsPossible, IsOfSlots}
use Rattle.histories.specs.Marks.{IsNone}
use Rattle.histories.proofs.PublicLaws.{at_down, DoubtIsDown, doubt_after}
use Rattle.schedule.specs.declared.act.Act.{Act}
use Rattle.runs.specs.World.{World, start}
use Rattle.runs.specs.Step.{Step, world_after}
use Rattle.runs.specs.Run.{world_at}
use Rattle.runs.specs.Acts.{IsRunOf}
use Rattle.runs.proofs.ExactRuns.{left_run}
use Rattle.runs.specs.Reporting.{Report}
use Rattle.runs.specs.Growth.{IsLeft, acts_in}
use Rattle.runs.proofs.Keeping.{opens_with, AllStates, lawful_keeps}

-- ---- one command

-- by how many jobs a command makes the pending ones more
abbrev gain : Option Command → ℕ
gain None = 0
gain (Some Raise) = 0
gain (Some (Put work)) = 1
gain (Some (Done id)) = 0

wanted_few : (d : Durable) (wants : Option Command) → length (after_wanted d wants).pending ≤ length d.pending + gain wants
wanted_few d None = omega arith
wanted_few d (Some Raise) = omega arith
wanted_few d (Some (Put work)) = let job : Job = record { id = d.next; work = work } in omega (arith, length-append d.pending (job ∷ []))
wanted_few d (Some (Done id)) = let test : Job → Bool = λ job. not (job.id == id) in
    omega (arith, length-filter test d.pending, count_by-le-length test d.pending)

settled_few : (kept : Bool) (s : NodeState) → length (settled kept s).pending ≤ length s.durable.pending + gain s.doubt
settled_few true s = wanted_few s.durable s.doubt
settled_few false s = omega arith

-- a Put that isn't refused as Full leaves room for its job
leaves_room : (slots : ℕ) (d : Durable) (wants : Option Command) → (IsFull slots d wants → ⊥) → length d.pending ≤ slots
    → length d.pending + gain wants ≤ slots
leaves_room slots d (Some (Put work)) fits h = elim (cases_lt slots (length d.pending + 3)) [
  | inl full ↦ absurd (fits full)
  | inr room ↦ omega (arith, room)
]
leaves_room slots d _ fits h = omega (arith, h)

no_gain : (doubt : Option Command) → IsNone doubt → gain doubt ≡ 0
no_gain None h = refl
no_gain (Some c) h = absurd h

-- ---- one node

-- there is a slot for each pending job, and for that of the command in doubt; a command is in doubt only where the node is down
record HasRoom (slots self : ℕ) (s : NodeState) : Type 0 where
  few : length s.durable.pending + gain s.doubt ≤ slots
  doubt : DoubtIsDown self s

few_kept : (slots self nodes : ℕ) (s : NodeState) (what : HistoryEvent) → IsPossible self nodes s what → IsOfSlots slots self nodes s what
    → HasRoom slots self s
    → length (after self nodes s what).durable.pending + gain (after self nodes s what).doubt ≤ slots
few_kept slots self nodes s (Did event) may fits h =
    let wanted = wanted_few s.durable (wants_at self nodes s event) in
    elim h.doubt [
      | inl none ↦ omega (
        arith,
        wanted,
        leaves_room slots s.durable (wants_at self nodes s event) fits (omega (arith, h.few)),
        no_gain s.doubt none,
      )
      | inr is ↦ omega (arith, wanted, ap gain (at_down self nodes s event is may.0 may.1.by_core).wants, h.few)
    ]
few_kept slots self nodes s (Faulted event) may fits h =
    leaves_room slots s.durable (wants_at self nodes s event) fits (omega (arith, h.few))
few_kept slots self nodes s (Recovered kept) may fits h = omega (arith, settled_few kept s, h.few)
few_kept slots self nodes s (RaiseFailed kept) may fits h = omega (arith, settled_few kept s, h.few)
few_kept slots self nodes s _ may fits h = h.few

room_kept : (slots self nodes : ℕ) (s : NodeState) (what : HistoryEvent) → IsPossible self nodes s what → IsOfSlots slots self nodes s what
    → HasRoom slots self s → HasRoom slots self (after self nodes s what)
room_kept slots self nodes s what may fits h = record {
  few = few_kept slots self nodes s what may fits h;
  doubt = doubt_after self nodes s what may h.doubt;
}

-- ---- all nodes

run_rooms : (nodes slots : ℕ) (acts : List Act) (steps : List Step) (w : World) → IsRunOf nodes slots w acts steps
    → AllStates (HasRoom slots) w → AllStates (HasRoom slots) (world_at nodes w steps)
run_rooms nodes slots [] [] w run all = all
run_rooms nodes slots (a ∷ acts) (step ∷ steps) w run all =
    run_rooms nodes slots acts steps (world_after nodes w step) run.2
    (lawful_keeps (HasRoom slots) (HasRoom slots) nodes slots (λ n s h. h) (λ n s what may fits h.
    room_kept slots n nodes s what may fits h) w step run.1 all)
run_rooms nodes slots _ _ w run all = absurd run

start_rooms : (nodes slots : ℕ) → AllStates (HasRoom slots) (start nodes)
start_rooms nodes slots = opens_with (HasRoom slots) nodes (λ n. record { few = omega arith; doubt = inl tt })

-- in a run over disks of so many slots no node has more pending jobs than slots, whether its command in doubt is kept or not
pub few_pending : (nodes slots : ℕ) (acts : List Act) (steps : List Step) → IsRunOf nodes slots (start nodes) acts steps
    → (n : ℕ) (s : NodeState) → slice_get (world_at nodes (start nodes) steps).states n ≡ Some s → (kept : Bool)
    → length (settled kept s).pending ≤ slots
few_pending nodes slots acts steps run n s at kept = omega (
  arith,
  settled_few kept s,
  (run_rooms nodes slots acts steps (start nodes) run (start_rooms nodes slots) n s at).few,
)

-- of a cluster that a run left
pub left_few : (nodes slots : ℕ) (w : World) (r : Report) → IsLeft nodes slots w r
    → (n : ℕ) (s : NodeState) → slice_get w.states n ≡ Some s → (kept : Bool) → length (settled kept s).pending ≤ slots
left_few nodes slots w r left n s at kept =
    let there : slice_get (world_at nodes (start nodes) left.steps).states n ≡ Some s =
    subst (λ (x : World). slice_get x.states n ≡ Some s) left.world at in
    few_pending nodes slots (acts_in r) left.steps (left_run nodes slots w r left) n s there kept

-- what a mounting gives there, at a node that is down
pub mounted_few : (nodes slots : ℕ) (w : World) (r : Report) → IsLeft nodes slots w r → (n : ℕ) (s : NodeState)
    → slice_get w.states n ≡ Some s
    → (among : ℕ) (what : HistoryEvent) → IsPossible n among s what → (d : Durable) → mounted_at s what ≡ Some d
    → (is_down s.state.phase ≡ true) × (length d.pending ≤ slots)
mounted_few nodes slots w r left n s at among (Recovered kept) may d is = (
  may.0,
  subst (λ (x : Durable). length x.pending ≤ slots) (let same : settled kept s ≡ d = cc is in
      same) (left_few nodes slots w r left n s at kept),
)
mounted_few nodes slots w r left n s at among (RaiseFailed kept) may d is = (
  may.0,
  subst (λ (x : Durable). length x.pending ≤ slots) (let same : settled kept s ≡ d = cc is in
      same) (left_few nodes slots w r left n s at kept),
)
mounted_few nodes slots w r left n s at among (RaiseRefused kept) may d is = (
  may.0,
  subst (λ (x : Durable). length x.pending ≤ slots) (let same : settled kept s ≡ d = cc is in
      same) (left_few nodes slots w r left n s at kept),
)
mounted_few nodes slots w r left n s at among _ may d is = absurd (let bad = is in cc)
