-- Whether the command in doubt is in what was mounted.
use Rattle.std.proofs.Common.{◌≡◌, ◌+◌, ◌||◌, ℕ, Bool, true, false, not, cond, eqb, List, [], ◌∷◌, Option, Some, None, refl, sym, ap, subst}
use Rattle.std.proofs.Common.{◌∙◌, arith, ◌==◌}
use Rattle.std.proofs.lemmas.Bool.Decides.{nat_tests}
use Rattle.job_model.specs.declared.node_command.NodeCommand.{NodeCommand as Command}
use Rattle.job_model.specs.declared.node_command.NodeCommand.TheVariants.{Raise, Put, Done}
use Rattle.job_model.specs.Durable.{Durable}
use Rattle.job_model.specs.Fold.{is_pending, without_job}
use Rattle.job_model.specs.declared.job.Job.{Job}
use Rattle.node_core.specs.State.{State}
use Rattle.histories.specs.NodeState.{NodeState, settled}
use Rattle.histories.specs.Possible.{IsSettling}
use Rattle.durable_node.specs.Node.{shown_doubt}
use Rattle.durable_node.specs.Remounting.{IsKeptIn}

-- where no job has this id, none goes
none_by : (b rest : Bool) (job : Job) (jobs left : List Job) → (b || rest) ≡ false → (rest ≡ false → left ≡ jobs)
    → cond (not b) (job ∷ left) left ≡ job ∷ jobs
none_by true rest job jobs left none more = absurd cc
none_by false rest job jobs left none more = ap (λ (js : List Job). job ∷ js) (more none)

without_none : (jobs : List Job) (id : ℕ) → is_pending jobs id ≡ false → without_job jobs id ≡ jobs
without_none [] id none = refl
without_none (job ∷ jobs) id none = none_by (eqb job.id id)
    (is_pending jobs id) job jobs (without_job jobs id) none (λ rest. without_none jobs id rest)

gone_by : (b : Bool) (job : Job) (jobs : List Job) (id : ℕ) → eqb job.id id ≡ b → is_pending jobs id ≡ false
    → is_pending (cond (not b) (job ∷ jobs) jobs) id ≡ false
gone_by true job jobs id is none = none
gone_by false job jobs id is none = ap (λ (b : Bool). b || is_pending jobs id) is ∙ none

-- the job is gone
gone : (jobs : List Job) (id : ℕ) → is_pending (without_job jobs id) id ≡ false
gone [] id = refl
gone (job ∷ jobs) id = gone_by (eqb job.id id) job (without_job jobs id) id refl (gone jobs id)

went_on : (now before : ℕ) → now ≡ before + 1 → not (now == before) ≡ true
went_on now before is = grind (arith, nat_tests, is)

stayed : (now before : ℕ) → now ≡ before → not (now == before) ≡ false
stayed now before is = grind (arith, nat_tests, is)

module _ (state : State) (e d : Durable) where
  abbrev at : Option Command → NodeState
  at doubt = record { state = state; durable = e; doubt = doubt }

  abbrev Settles : Option Command → Bool → Type 0
  Settles doubt kept = IsSettling kept doubt × (d ≡ settled kept (at doubt))

  -- the flag is the one of what was mounted
  same : (c : Command) (flag kept : Bool) → flag ≡ kept → d ≡ settled kept (at (Some c)) → Settles (Some c) flag
  same c flag true is is_so = subst (λ (b : Bool). Settles (Some c) b) (sym is) (λ kept. refl, is_so)
  same c flag false is is_so = subst (λ (b : Bool). Settles (Some c) b) (sym is) (λ kept. refl, is_so)

  done_so : (id : ℕ) (flag b : Bool) → flag ≡ not (is_pending d.pending id) → is_pending e.pending id ≡ b → d ≡ e
      → Settles (Some (Done id)) flag
  done_so id flag true is pending is_so = same (Done id) flag false (is
      ∙ ap not (ap (λ (x : Durable). is_pending x.pending id) is_so ∙ pending)) is_so
  done_so id flag false is pending is_so =
      same (Done id) flag true (is ∙ ap not (ap (λ (x : Durable). is_pending x.pending id) is_so ∙ pending))
      (is_so ∙ (λ i. record { counter = e.counter; next = e.next; pending = sym (without_none e.pending id pending) i }))

  by_doubt : (doubt : Option Command) (flag kept : Bool) → IsKeptIn (shown_doubt e doubt) d flag → IsSettling kept doubt
      → d ≡ settled kept (at doubt) → Settles doubt flag
  by_doubt None flag true is settling is_so = (let none : false ≡ true = settling refl in absurd cc)
  by_doubt None flag false is settling is_so = subst (λ (b : Bool). Settles None b) (sym is) (λ kept. absurd cc, is_so)
  by_doubt (Some Raise) flag true is settling is_so = same Raise flag true (is
      ∙ went_on d.counter e.counter (ap (λ (x : Durable). x.counter) is_so)) is_so
  by_doubt (Some Raise) flag false is settling is_so = same Raise flag false (is
      ∙ stayed d.counter e.counter (ap (λ (x : Durable). x.counter) is_so)) is_so
  by_doubt (Some (Put work)) flag true is settling is_so =
      same (Put work) flag true (is ∙ went_on d.next e.next (ap (λ (x : Durable). x.next) is_so)) is_so
  by_doubt (Some (Put work)) flag false is settling is_so =
      same (Put work) flag false (is ∙ stayed d.next e.next (ap (λ (x : Durable). x.next) is_so)) is_so
  by_doubt (Some (Done id)) flag true is settling is_so = same (Done id) flag true (is
      ∙ ap not (ap (λ (x : Durable). is_pending x.pending id) is_so ∙ gone e.pending id)) is_so
  by_doubt (Some (Done id)) flag false is settling is_so = done_so id flag (is_pending e.pending id) is refl is_so

-- what the flag says is so, whichever of both was mounted
pub settled_so : (s : NodeState) (d : Durable) (flag kept : Bool) → IsKeptIn (shown_doubt s.durable s.doubt) d flag
    → IsSettling kept s.doubt → d ≡ settled kept s → IsSettling flag s.doubt × (d ≡ settled flag s)
settled_so s d flag kept = by_doubt s.state s.durable d s.doubt flag kept
