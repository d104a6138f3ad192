-- Jobs stay on a node's disk until it is tried to take them out.
use Rattle.std.proofs.Common.{◌≡◌, ◌⊎◌, ℕ, Bool, true, false, not, List, [], ◌∷◌, ◌++◌, length, refl, sym, ap, subst, inl, inr, Option}
use Rattle.std.proofs.Common.{Some, None}
use Rattle.std.specs.Prelude.{◌==◌}
use Rattle.std.proofs.lemmas.Bool.{cases_Bool, cond_both}
use Rattle.job_model.specs.declared.job.Job.{Job}
use Rattle.job_model.specs.declared.node_command.NodeCommand.{NodeCommand as Command}
use Rattle.job_model.specs.declared.node_command.NodeCommand.TheVariants.{Raise, Put, Done}
use Rattle.job_model.specs.Durable.{Durable}
use Rattle.job_model.specs.Fold.{after_wanted, without_job}
use Rattle.histories.specs.Lists.{IsAmong}
use Rattle.histories.specs.NodeState.{NodeState, wants_at, settled}
use Rattle.histories.specs.declared.history_event.HistoryEvent.{HistoryEvent}
use Rattle.histories.specs.declared.history_event.HistoryEvent.TheVariants.{Did, Faulted, Recovered, RaiseFailed}
use Rattle.histories.specs.HistoryEvent.{Entry}
use Rattle.histories.specs.After.{after}
use Rattle.histories.specs.History.{replay}
use Rattle.histories.proofs.PublicLaws.{among_left, eq_nat}
use Rattle.processes.specs.Files.{at_first}
use Rattle.processes.specs.Jobs.{JobsAreKept, Tries, tried}

pub tries_left : (self nodes : ℕ) (s : NodeState) (es fs : List Entry) (c : Command) → Tries self nodes s es c
    → Tries self nodes s (es ++ fs) c
tries_left self nodes s [] fs c h = absurd h
tries_left self nodes s (e ∷ es) fs c h = elim h [
  | inl is ↦ inl is
  | inr k ↦ inr (tries_left self nodes (after self nodes s e.what) es fs c k)
]

pub tries_right : (self nodes : ℕ) (s : NodeState) (es fs : List Entry) (c : Command) → Tries self nodes (replay self nodes s es) fs c
    → Tries self nodes s (es ++ fs) c
tries_right self nodes s [] fs c h = h
tries_right self nodes s (e ∷ es) fs c h = inr (tries_right self nodes (after self nodes s e.what) es fs c h)

pub replay_both : (self nodes : ℕ) (s : NodeState) (es fs : List Entry)
    → replay self nodes s (es ++ fs) ≡ replay self nodes (replay self nodes s es) fs
replay_both self nodes s [] fs = refl
replay_both self nodes s (e ∷ es) fs = replay_both self nodes (after self nodes s e.what) es fs

among_others : (id : ℕ) (jobs : List Job) (job : Job) → IsAmong job jobs → (job.id == id) ≡ false → IsAmong job (without_job jobs id)
among_others id [] job i other = absurd i
among_others id (x ∷ jobs) job i other = elim i [
  | inl e ↦ (let here : (x.id == id) ≡ false = subst (λ (y : Job). (y.id == id) ≡ false) e other in rw here (inl e))
  | inr k ↦ (let rest = among_others id jobs job k other in
      cond_both (not (x.id == id)) _ _ (IsAmong job) (λ _. inr rest) (λ _. rest))
]

-- a command leaves a job, or takes it out
command_keeps : (d : Durable) (wants : Option Command) (job : Job) → IsAmong job d.pending
    → IsAmong job (after_wanted d wants).pending ⊎ (wants ≡ Some (Done job.id))
command_keeps d None job i = inl i
command_keeps d (Some Raise) job i = inl i
command_keeps d (Some (Put work)) job i = inl (among_left job d.pending (record { id = d.next; work = work } ∷ []) i)
command_keeps d (Some (Done id)) job i = elim (cases_Bool (job.id == id)) [
  | inl is ↦ inr (ap (λ (k : ℕ). Some (Done k)) (sym (eq_nat job.id id is)))
  | inr is ↦ inl (among_others id d.pending job i is)
]

settled_keeps : (kept : Bool) (s : NodeState) (job : Job) → IsAmong job s.durable.pending
    → IsAmong job (settled kept s).pending ⊎ (s.doubt ≡ Some (Done job.id))
settled_keeps true s job i = command_keeps s.durable s.doubt job i
settled_keeps false s job i = inl i

-- an entry leaves a job, or it was tried to take it out in it, or before
entry_keeps : (self nodes : ℕ) (s : NodeState) (what : HistoryEvent) (job : Job) → IsAmong job s.durable.pending
    → IsAmong job (after self nodes s what).durable.pending ⊎ ((tried self nodes s what ≡ Some (Done job.id))
    ⊎ (s.doubt ≡ Some (Done job.id)))
entry_keeps self nodes s (Did event) job i = elim (command_keeps s.durable (wants_at self nodes s event) job i) [
  | inl k ↦ inl k
  | inr is ↦ inr (inl is)
]
entry_keeps self nodes s (Recovered kept) job i = elim (settled_keeps kept s job i) [ inl k ↦ inl k | inr is ↦ inr (inr is) ]
entry_keeps self nodes s (RaiseFailed kept) job i = elim (settled_keeps kept s job i) [ inl k ↦ inl k | inr is ↦ inr (inr is) ]
entry_keeps self nodes s what job i = inl i

-- a command in doubt was tried
doubt_tried : (self nodes : ℕ) (s : NodeState) (what : HistoryEvent) (id : ℕ) → (after self nodes s what).doubt ≡ Some (Done id)
    → (s.doubt ≡ Some (Done id)) ⊎ (tried self nodes s what ≡ Some (Done id))
doubt_tried self nodes s (Faulted event) id is = inr is
doubt_tried self nodes s (Recovered kept) id is = absurd (let none : None ≡ Some (Done id) = is in cc)
doubt_tried self nodes s (RaiseFailed kept) id is = absurd (let raise : Some Raise ≡ Some (Done id) = is in cc)
doubt_tried self nodes s what id is = inl is

-- where none was in doubt before
pub doubted_tried : (self nodes : ℕ) (s : NodeState) (es : List Entry) (id : ℕ) → (replay self nodes s es).doubt ≡ Some (Done id)
    → (s.doubt ≡ Some (Done id)) ⊎ Tries self nodes s es (Done id)
doubted_tried self nodes s [] id is = inl is
doubted_tried self nodes s (e ∷ es) id is = elim (doubted_tried self nodes (after self nodes s e.what) es id is) [
  | inl now ↦ elim (doubt_tried self nodes s e.what id now) [ inl old ↦ inl old | inr here ↦ inr (inl here) ]
  | inr behind ↦ inr (inr behind)
]

entries_keep : (self nodes : ℕ) (s : NodeState) (es : List Entry) (job : Job) → IsAmong job s.durable.pending
    → IsAmong job (replay self nodes s es).durable.pending ⊎ ((s.doubt ≡ Some (Done job.id)) ⊎ Tries self nodes s es (Done job.id))
entries_keep self nodes s [] job i = inl i
entries_keep self nodes s (e ∷ es) job i = elim (entry_keeps self nodes s e.what job i) [
  | inl k ↦ elim (entries_keep self nodes (after self nodes s e.what) es job k) [
    | inl j ↦ inl j
    | inr ended ↦ elim ended [
      | inl doubt ↦ elim (doubt_tried self nodes s e.what job.id doubt) [ inl old ↦ inr (inl old) | inr here ↦ inr (inr (inl here)) ]
      | inr behind ↦ inr (inr (inr behind))
    ]
  ]
  | inr ended ↦ elim ended [ inl here ↦ inr (inr (inl here)) | inr doubt ↦ inr (inl doubt) ]
]

pub jobs_are_kept : JobsAreKept
jobs_are_kept cluster over n two job i =
    let nodes = length cluster in
    let s = at_first n two.node.file in
    let whole = replay_both n nodes s two.first two.more in
    elim (entries_keep n nodes (replay n nodes s two.first) two.more job i) [
      | inl k ↦ inl (subst (λ (x : NodeState). IsAmong job x.durable.pending) (sym whole) k)
      | inr ended ↦ elim ended [
        | inl doubt ↦ elim (doubted_tried n nodes s two.first job.id doubt) [
          | inl old ↦ absurd (let none : None ≡ Some (Done job.id) = old in cc)
          | inr before ↦ inr (tries_left n nodes s two.first two.more (Done job.id) before)
        ]
        | inr behind ↦ inr (tries_right n nodes s two.first two.more (Done job.id) behind)
      ]
    ]
