-- Jobs of one id that are pending at two moments of a node are one job.
use Rattle.std.proofs.Common.{◌≡◌, ◌⊎◌, ℕ, ◌+◌, ◌<◌, ◌≤◌, Bool, true, false, List, [], ◌∷◌, ◌++◌, refl, sym, ◌∙◌, subst, inl, inr, arith}
use Rattle.std.proofs.Common.{Option, Some, None}
use Rattle.std.specs.Prelude.{not, ◌==◌, if◌then◌else◌}
use Rattle.std.specs.List.{filter}
use Rattle.job_model.specs.declared.job.Job.{Job}
use Rattle.job_model.specs.declared.node_command.NodeCommand.{NodeCommand as Command}
use Rattle.job_model.specs.declared.node_command.NodeCommand.TheVariants.{Raise, Put, Done}
use Rattle.job_model.specs.Durable.{Durable}
use Rattle.job_model.specs.Fold.{after_command, after_wanted, without_job}
use Rattle.histories.specs.Lists.{IsAmong}
use Rattle.histories.specs.NodeState.{NodeState, opening, wants_at, settled}
use Rattle.histories.specs.declared.history_event.HistoryEvent.{HistoryEvent}
use Rattle.histories.specs.declared.history_event.HistoryEvent.TheVariants.{Did, Refused, Faulted, NoOp, Crashed, Recovered, MountFailed}
use Rattle.histories.specs.declared.history_event.HistoryEvent.TheVariants.{RaiseFailed, RaiseRefused}
use Rattle.histories.specs.HistoryEvent.{Entry}
use Rattle.histories.specs.After.{after}
use Rattle.histories.specs.History.{states}
use Rattle.histories.specs.Jobs.{OneJob}
use Rattle.histories.proofs.Among.{among_either}

-- the jobs that are pending have ids that were given, each to one job
pub record AreGiven (d : Durable) : Type 0 where
  pub below : (a : Job) → IsAmong a d.pending → a.id < d.next
  pub once : (a b : Job) → IsAmong a d.pending → IsAmong b d.pending → a.id ≡ b.id → a ≡ b

-- from the first to the second, ids were given in order, and no job came under an id that was given before
pub record Goes (d e : Durable) : Type 0 where
  pub next : d.next ≤ e.next
  pub same : (a : Job) → IsAmong a e.pending → a.id < d.next → IsAmong a d.pending
  pub given : AreGiven d → AreGiven e

kept_first : (b : Bool) (a job : Job) (jobs rest : List Job) → (IsAmong a rest → IsAmong a jobs)
    → IsAmong a (if b then job ∷ rest else rest) → IsAmong a (job ∷ jobs)
kept_first true a job jobs rest more i = elim i [ inl e ↦ inl e | inr j ↦ inr (more j) ]
kept_first false a job jobs rest more i = inr (more i)

pub among_filtered : (test : Job → Bool) (jobs : List Job) (a : Job) → IsAmong a (filter test jobs) → IsAmong a jobs
among_filtered test [] a i = absurd i
among_filtered test (job ∷ jobs) a i = kept_first (test job) a job jobs (filter test jobs) (among_filtered test jobs a) i

goes_nowhere : (d : Durable) → Goes d d
goes_nowhere d = record { next = omega arith; same = λ a i lt. i; given = λ g. g }

goes_on : (d e f : Durable) → Goes d e → Goes e f → Goes d f
goes_on d e f first second = record {
  next = omega (arith, first.next, second.next);
  same = λ a i lt. first.same a (second.same a i (omega (arith, lt, first.next))) lt;
  given = λ g. second.given (first.given g);
}

-- one of the jobs, or the new one
one_of : (d : Durable) (new a : Job) → IsAmong a (d.pending ++ new ∷ []) → IsAmong a d.pending ⊎ (a ≡ new)
one_of d new a i = elim (among_either a d.pending (new ∷ []) i) [
  | inl j ↦ inl j
  | inr j ↦ elim j [ inl e ↦ inr e | inr none ↦ absurd none ]
]

id_of_new : (d : Durable) (new a : Job) → new.id ≡ d.next → a ≡ new → a.id ≡ d.next
id_of_new d new a fresh e = subst (λ (x : Job). x.id ≡ d.next) (sym e) fresh

goes_put : (d : Durable) (new : Job) → new.id ≡ d.next → Goes d (record {
  counter = d.counter;
  next = d.next + 1;
  pending =
      d.pending ++ new ∷ [];
})
goes_put d new fresh = record {
  next = omega arith;
  same = λ a i lt. elim (one_of d new a i) [ inl j ↦ j | inr e ↦ absurd (omega (arith, lt, id_of_new d new a fresh e)) ];
  given = λ g. record {
    below = λ a i. elim (one_of d new a i) [ inl j ↦ omega (arith, g.below a j) | inr e ↦ omega (arith, id_of_new d new a fresh e) ];
    once = λ a b i j same. elim (one_of d new a i) [
      | inl i' ↦ elim (one_of d new b j) [
        | inl j' ↦ g.once a b i' j' same
        | inr f ↦ absurd (omega (arith, g.below a i', id_of_new d new b fresh f, same))
      ]
      | inr e ↦ elim (one_of d new b j) [
        | inl j' ↦ absurd (omega (arith, g.below b j', id_of_new d new a fresh e, same))
        | inr f ↦ e ∙ sym f
      ]
    ];
  };
}

goes_by : (d : Durable) (c : Command) → Goes d (after_command d c)
goes_by d Raise = record { next = omega arith; same = λ a i lt. i; given = λ g. record { below = g.below; once = g.once } }
goes_by d (Put work) = goes_put d (record { id = d.next; work = work }) refl
goes_by d (Done id) =
    let left : (a : Job) → IsAmong a (without_job d.pending id)
    → IsAmong a d.pending = among_filtered (λ (job : Job). not (job.id == id)) d.pending in record {
      next = omega arith;
      same = λ a i lt. left a i;
      given = λ g. record { below = λ a i. g.below a (left a i); once = λ a b i j same. g.once a b (left a i) (left b j) same };
    }

goes_wanted : (d : Durable) (wants : Option Command) → Goes d (after_wanted d wants)
goes_wanted d None = goes_nowhere d
goes_wanted d (Some c) = goes_by d c

pub goes_settled : (kept : Bool) (s : NodeState) → Goes s.durable (settled kept s)
goes_settled true s = goes_wanted s.durable s.doubt
goes_settled false s = goes_nowhere s.durable

pub goes_after : (self nodes : ℕ) (s : NodeState) (what : HistoryEvent) → Goes s.durable (after self nodes s what).durable
goes_after self nodes s (Did event) = goes_wanted s.durable (wants_at self nodes s event)
goes_after self nodes s (Refused event fault) = goes_nowhere s.durable
goes_after self nodes s (Faulted event) = goes_nowhere s.durable
goes_after self nodes s (NoOp why) = goes_nowhere s.durable
goes_after self nodes s Crashed = goes_nowhere s.durable
goes_after self nodes s (Recovered kept) = goes_on s.durable (settled kept s) _ (goes_settled kept s) (goes_by (settled kept s) Raise)
goes_after self nodes s MountFailed = goes_nowhere s.durable
goes_after self nodes s (RaiseFailed kept) = goes_settled kept s
goes_after self nodes s (RaiseRefused kept) = goes_nowhere s.durable

-- each state of a history goes on from its first
goes_to : (self nodes : ℕ) (s : NodeState) (es : List Entry) (t : NodeState) → IsAmong t (states self nodes s es) → Goes s.durable t.durable
goes_to self nodes s [] t i = elim i [
  | inl e ↦ subst (λ (x : NodeState). Goes s.durable x.durable) (sym e) (goes_nowhere s.durable)
  | inr none ↦ absurd none
]
goes_to self nodes s (e ∷ es) t i = elim i [
  | inl is ↦ subst (λ (x : NodeState). Goes s.durable x.durable) (sym is) (goes_nowhere s.durable)
  | inr later ↦ goes_on s.durable (after self nodes s e.what).durable t.durable (goes_after self nodes s e.what)
      (goes_to self nodes (after self nodes s e.what) es t later)
]

-- a job of the first state, and one of a later state
one_later : (d e : Durable) (a b : Job) → AreGiven d → Goes d e → IsAmong a d.pending → IsAmong b e.pending → a.id ≡ b.id → a ≡ b
one_later d e a b g goes i j same = g.once a b i (goes.same b j (omega (arith, g.below a i, same))) same

one_from : (self nodes : ℕ) (s : NodeState) (es : List Entry) → AreGiven s.durable → (t u : NodeState) → IsAmong t (states self nodes s es)
    → IsAmong u (states self nodes s es)
    → (a b : Job) → IsAmong a t.durable.pending → IsAmong b u.durable.pending → a.id ≡ b.id → a ≡ b
one_from self nodes s [] g t u at of a b i j same = elim at [
  | inl is ↦ one_later s.durable u.durable a b g (goes_to self nodes s [] u of)
      (subst (λ (x : NodeState). IsAmong a x.durable.pending) is i) j same
  | inr none ↦ absurd none
]
one_from self nodes s (e ∷ es) g t u at of a b i j same = elim at [
  | inl is ↦ one_later s.durable u.durable a b g (goes_to self nodes s (e ∷ es) u of)
      (subst (λ (x : NodeState). IsAmong a x.durable.pending) is i) j same
  | inr at' ↦ elim of [
    | inl is ↦ sym (one_later s.durable t.durable b a g (goes_to self nodes s (e ∷ es) t (inr at'))
        (subst (λ (x : NodeState). IsAmong b x.durable.pending) is j) i (sym same))
    | inr of' ↦ one_from self nodes (after self nodes s e.what) es ((goes_after self nodes s e.what).given g) t u at' of' a b i j same
  ]
]

pub one_job : OneJob
one_job self nodes h s t at of a b i j same = one_from self nodes (opening self) h (record {
  below = λ x k. absurd k;
  once =
      λ x y k l e. absurd k;
}) s t at of a b i j same
