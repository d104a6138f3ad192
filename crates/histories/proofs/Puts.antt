-- Each job that is pending was put.
use Rattle.std.proofs.Common.{◌≡◌, ℕ, ◌+◌, Bool, true, false, List, [], ◌∷◌, ◌++◌, length, refl, sym, ◌∙◌, ap, subst, inl, inr, Option}
use Rattle.std.proofs.Common.{Some, None, append_assoc}
use Rattle.std.specs.Prelude.{not, ◌==◌}
use Rattle.job_model.specs.declared.job.Job.{Job}
use Rattle.job_model.specs.declared.work.Work.{Work}
use Rattle.job_model.specs.declared.node_command.NodeCommand.{NodeCommand as Command}
use Rattle.job_model.specs.declared.node_command.NodeCommand.TheVariants.{Raise, Put, Done}
use Rattle.job_model.specs.Durable.{Durable}
use Rattle.job_model.specs.Fold.{after_wanted}
use Rattle.histories.specs.Lists.{IsAmong}
use Rattle.histories.specs.NodeState.{NodeState, opening, wants_at, settled}
use Rattle.histories.specs.declared.history_event.HistoryEvent.{HistoryEvent}
use Rattle.histories.specs.declared.history_event.HistoryEvent.TheVariants.{Did, Refused, Faulted, NoOp, Crashed, Recovered, MountFailed}
use Rattle.histories.specs.declared.history_event.HistoryEvent.TheVariants.{RaiseFailed, RaiseRefused}
use Rattle.histories.specs.HistoryEvent.{Entry}
use Rattle.histories.specs.After.{after}
use Rattle.histories.specs.History.{states}
use Rattle.histories.specs.Jobs.{WasPut, PendingWasPut}
use Rattle.histories.specs.declared.attempt.Attempt.{Attempt}
use Rattle.histories.specs.Marks.{Mark, commands_of, tried_marks, failed_marks, marks_at, marks_from}
use Rattle.histories.proofs.Among.{among_left, among_right, among_either}
use Rattle.histories.proofs.Owners.{commands_append}
use Rattle.histories.proofs.Pending.{among_filtered}

-- these commands put each pending job, and the one whose Put is in doubt
record ArePut (ts : List Attempt) (d : Durable) (doubt : Option Command) : Type 0 where
  jobs : (job : Job) → IsAmong job d.pending → WasPut ts job.id job.work
  doubted : (work : Work) → doubt ≡ Some (Put work) → IsAmong (record { command = Put work; acked = None }) ts

put_left : (ts us : List Attempt) (id : ℕ) (work : Work) → WasPut ts id work → WasPut (ts ++ us) id work
put_left ts us id work h = (h.0, among_left h.0 ts us h.1, h.2, h.3)

more_put : (ts us : List Attempt) (d : Durable) (doubt : Option Command) → ArePut ts d doubt → ArePut (ts ++ us) d doubt
more_put ts us d doubt h = record {
  jobs = λ job i. put_left ts us job.id job.work (h.jobs job i);
  doubted = λ work is. among_left _ ts us (h.doubted work is);
}

-- the jobs after a command, which may be among these
wanted_put : (ts us : List Attempt) (d : Durable) (wants : Option Command)
    → ((job : Job) → IsAmong job d.pending → WasPut ts job.id job.work)
    → ((work : Work) → wants ≡ Some (Put work) → WasPut us d.next work) → (job : Job) → IsAmong job (after_wanted d wants).pending
    → WasPut (ts ++ us) job.id job.work
wanted_put ts us d None h new job i = put_left ts us job.id job.work (h job i)
wanted_put ts us d (Some Raise) h new job i = put_left ts us job.id job.work (h job i)
wanted_put ts us d (Some (Put work)) h new job i = elim (among_either job d.pending (record { id = d.next; work = work } ∷ []) i) [
  | inl old ↦ put_left ts us job.id job.work (h job old)
  | inr last ↦ elim last [
    | inl e ↦ (let put = new work refl in
        subst (λ (x : Job). WasPut (ts ++ us) x.id x.work) (sym e) (put.0, among_right put.0 ts us put.1, put.2, put.3))
    | inr none ↦ absurd none
  ]
]
wanted_put ts us d (Some (Done id)) h new job i = put_left ts us job.id job.work
    (h job (among_filtered (λ (x : Job). not (x.id == id)) d.pending job i))

tried_put : (d : Durable) (wants : Option Command) (work : Work) → wants ≡ Some (Put work)
    → WasPut (commands_of (tried_marks d wants)) d.next work
tried_put d wants work is = rw is (record { command = Put work; acked = Some d.next }, inl refl, refl, (λ a e. cc (sym e)))

failed_put : (wants : Option Command) (work : Work) → wants ≡ Some (Put work)
    → IsAmong (record { command = Put work; acked = None }) (commands_of (failed_marks wants))
failed_put wants work is = rw is (inl refl)

-- the doubt may be settled either way
doubted_put : (ts : List Attempt) (d : Durable) (doubt : Option Command) → ArePut ts d doubt → (job : Job)
    → IsAmong job (after_wanted d doubt).pending → WasPut ts job.id job.work
doubted_put ts d None h job i = h.jobs job i
doubted_put ts d (Some Raise) h job i = h.jobs job i
doubted_put ts d (Some (Put work)) h job i = elim (among_either job d.pending (record { id = d.next; work = work } ∷ []) i) [
  | inl old ↦ h.jobs job old
  | inr last ↦ elim last [
    | inl e ↦ subst (λ (x : Job). WasPut ts x.id x.work) (sym e)
        (record { command = Put work; acked = None }, h.doubted work refl, refl, (λ a is. absurd cc))
    | inr none ↦ absurd none
  ]
]
doubted_put ts d (Some (Done id)) h job i = h.jobs job (among_filtered (λ (x : Job). not (x.id == id)) d.pending job i)

settled_put : (ts : List Attempt) (kept : Bool) (s : NodeState) → ArePut ts s.durable s.doubt → (job : Job)
    → IsAmong job (settled kept s).pending → WasPut ts job.id job.work
settled_put ts true s h job i = doubted_put ts s.durable s.doubt h job i
settled_put ts false s h job i = h.jobs job i

entry_puts : (self nodes : ℕ) (s : NodeState) (n : ℕ) (what : HistoryEvent) (ts : List Attempt) → ArePut ts s.durable s.doubt
    → ArePut (ts ++ commands_of (marks_at self nodes s n what)) (after self nodes s what).durable (after self nodes s what).doubt
entry_puts self nodes s n (Did event) ts h =
    let us = commands_of (tried_marks s.durable (wants_at self nodes s event)) in record {
      jobs = wanted_put ts us s.durable (wants_at self nodes s event) h.jobs (tried_put s.durable (wants_at self nodes s event));
      doubted = λ work is. among_left _ ts us (h.doubted work is);
    }
entry_puts self nodes s n (Refused event fault) ts h = more_put ts [] s.durable s.doubt h
entry_puts self nodes s n (Faulted event) ts h =
    let us = commands_of (failed_marks (wants_at self nodes s event)) in record {
      jobs = λ job i. put_left ts us job.id job.work (h.jobs job i);
      doubted = λ work is. among_right _ ts us (failed_put (wants_at self nodes s event) work is);
    }
entry_puts self nodes s n (NoOp why) ts h = more_put ts [] s.durable s.doubt h
entry_puts self nodes s n Crashed ts h = more_put ts [] s.durable s.doubt h
entry_puts self nodes s n (Recovered kept) ts h = record {
  jobs = λ job i. put_left ts _ job.id job.work (settled_put ts kept s h job i);
  doubted = λ work is. absurd cc;
}
entry_puts self nodes s n MountFailed ts h = more_put ts [] s.durable s.doubt h
entry_puts self nodes s n (RaiseFailed kept) ts h = record {
  jobs = λ job i. put_left ts _ job.id job.work (settled_put ts kept s h job i);
  doubted = λ work is. absurd (let raise : Some Raise ≡ Some (Put work) = is in cc);
}
entry_puts self nodes s n (RaiseRefused kept) ts h = more_put ts [] s.durable s.doubt h

all_put : (self nodes : ℕ) (s : NodeState) (n : ℕ) (es : List Entry) (ts : List Attempt) → ArePut ts s.durable s.doubt → (t : NodeState)
    → IsAmong t (states self nodes s es)
    → (job : Job) → IsAmong job t.durable.pending → WasPut (ts ++ commands_of (marks_from self nodes s n es)) job.id job.work
all_put self nodes s n [] ts h t at job i = elim at [
  | inl e ↦ put_left ts [] job.id job.work (h.jobs job (subst (λ (x : NodeState). IsAmong job x.durable.pending) e i))
  | inr none ↦ absurd none
]
all_put self nodes s n (e ∷ es) ts h t at job i =
    let now : List Mark = marks_at self nodes s n e.what in
    let next : ℕ = n + length (commands_of now) in
    let rest : List Mark = marks_from self nodes (after self nodes s e.what) next es in
    elim at [
      | inl is ↦ put_left ts (commands_of (now ++ rest)) job.id job.work
          (h.jobs job (subst (λ (x : NodeState). IsAmong job x.durable.pending) is i))
      | inr later ↦ subst (λ (us : List Attempt). WasPut us job.id job.work)
          (append_assoc ts (commands_of now) (commands_of rest) ∙ ap (λ (us : List Attempt). ts ++ us) (sym (commands_append now rest)))
          (all_put self nodes (after self nodes s e.what) next es (ts
          ++ commands_of now) (entry_puts self nodes s n e.what ts h) t later job i)
    ]

pub pending_was_put : PendingWasPut
pending_was_put self nodes h follows s at job i = (let it =
    all_put self nodes (opening self) 1 h [] (record { jobs = λ x j. absurd j; doubted = λ work is. absurd cc }) s at job i in
    (it.0, inr it.1, it.2, it.3))
