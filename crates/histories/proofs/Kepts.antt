-- What is kept step by step is kept, and so are the commands and mountings of every history.
use Rattle.std.proofs.Common.{◌≡◌, ◌⊎◌, ℕ, zero, suc, ◌+◌, ◌<◌, ◌≤◌, ◌^◌, Bool, true, false, List, [], ◌∷◌, ◌++◌, length, take, slice_get}
use Rattle.std.proofs.Common.{refl, sym, ◌∙◌, ap, subst, inl, inr, arith, Option, Some, None, IsSome, add-zero}
use Rattle.std.specs.Prelude.{map, fold}
use Rattle.std.specs.List.{items_where_true}
use Rattle.job_model.specs.declared.node_command.NodeCommand.{NodeCommand as Command}
use Rattle.job_model.specs.Durable.{Durable, formatted}
use Rattle.job_model.specs.Fold.{after_command, after_wanted}
use Rattle.job_model.specs.Answer.{answer_of}
use Rattle.node_core.specs.declared.event.Event.{Event}
use Rattle.node_core.specs.Start.{down}
use Rattle.histories.specs.NodeState.{NodeState, opening, wants_at, settled}
use Rattle.histories.specs.declared.history_event.HistoryEvent.{HistoryEvent}
use Rattle.histories.specs.declared.history_event.HistoryEvent.TheVariants.{Did, Refused, Faulted, NoOp, Crashed, Recovered, MountFailed}
use Rattle.histories.specs.declared.history_event.HistoryEvent.TheVariants.{RaiseFailed, RaiseRefused}
use Rattle.histories.specs.HistoryEvent.{Entry}
use Rattle.histories.specs.After.{after}
use Rattle.histories.specs.Possible.{Takes, IsSettling, IsPossible}
use Rattle.histories.specs.History.{Follows}
use Rattle.histories.specs.Kept.{CountsOnce, Mounting, stands_after}
use Rattle.histories.specs.declared.attempt.Attempt.{Attempt}
use Rattle.histories.specs.Marks.{Mark, Acknowledged, Unanswered, Mounted, commands_of, mountings_of, MayMount, IsNone, KeptFrom}
use Rattle.histories.specs.Marks.{StepByStep, EachKept, marks_at, marks_from, marks_of, tried_marks, failed_marks}
use Rattle.histories.proofs.Downs.{at_down}
use Rattle.histories.proofs.Counts.{highest, settled_highest, highest_after}

-- the commands that count, by a flag for each
abbrev counted : List Bool → List Attempt → List Command
counted counts ts = map (λ (t : Attempt). t.command) (items_where_true counts ts)

-- kept, over a state d that the first n commands left: `b` commands came before these
record KeptAfter (d : Durable) (b : ℕ) (commands : List Attempt) (mountings : List Mounting) : Type 0 where
  counts : List Bool
  as_many : length counts ≡ length commands
  only_unacknowledged : (k : ℕ) (t : Attempt) → slice_get counts k ≡ Some false → slice_get commands k ≡ Some t → t.acked ≡ None
  last_of_life : (k : ℕ) (t : Attempt) → slice_get commands k ≡ Some t → t.acked ≡ None →
      (k + 1 ≡ length commands) ⊎ ((j : ℕ) × (w : Mounting) × (slice_get mountings j ≡ Some w) × (w.before ≡ b + (k + 1)))
  mounted : (j : ℕ) (w : Mounting) → slice_get mountings j ≡ Some w
      → (r : ℕ) × (w.before ≡ b + r) × (r ≤ length commands) × (w.state ≡ fold after_command d (counted counts (take r commands)))
  answered : (k : ℕ) (t : Attempt) (a : ℕ) → slice_get commands k ≡ Some t → t.acked ≡ Some a
      → a ≡ answer_of (fold after_command d (counted counts (take k commands))) t.command

-- the command in doubt stands before the others
abbrev with_doubt : Option Command → List Attempt → List Attempt
with_doubt None ts = ts
with_doubt (Some c) ts = record { command = c; acked = None } ∷ ts

abbrev doubts : Option Command → ℕ
doubts None = 0
doubts (Some c) = 1

-- the state after a command that counts, or that doesn't
abbrev left_by : Bool → Durable → Command → Durable
left_by true d c = after_command d c
left_by false d c = d

fold_flag : (flag : Bool) (d : Durable) (t : Attempt) (cs : List Bool) (ts : List Attempt)
    → fold after_command (left_by flag d t.command) (counted cs ts) ≡ fold after_command d (counted (flag ∷ cs) (t ∷ ts))
fold_flag true d t cs ts = refl
fold_flag false d t cs ts = refl

counted_none : (cs : List Bool) → counted cs [] ≡ []
counted_none [] = refl
counted_none (true ∷ cs) = refl
counted_none (false ∷ cs) = refl

-- one more command before the others
one_before : (flag : Bool) (d : Durable) (b : ℕ) (t : Attempt) (ts : List Attempt) (ws : List Mounting)
    → (flag ≡ false → t.acked ≡ None)
    → (t.acked ≡ None → (1 ≡ length (t ∷ ts)) ⊎ ((j : ℕ) × (w : Mounting) × (slice_get ws j ≡ Some w) × (w.before ≡ b + 1)))
    → ((a : ℕ) → t.acked ≡ Some a → a ≡ answer_of d t.command)
    → KeptAfter (left_by flag d t.command) (b + 1) ts ws → KeptAfter d b (t ∷ ts) ws
one_before flag d b t ts ws dropped last answer rest = record {
  counts = flag ∷ rest.counts;
  as_many = ap suc rest.as_many;
  only_unacknowledged = elim [
    | zero ↦ λ u e f. (let same : t ≡ u = cc f in ap (λ (x : Attempt). x.acked) (sym same) ∙ dropped (cc e))
    | suc k ↦ λ u e f. rest.only_unacknowledged k u e f
  ];
  last_of_life = elim [
    | zero ↦ λ u e none. (let same : t ≡ u = cc e in elim (last (ap (λ (x : Attempt). x.acked) same ∙ none)) [
      | inl end ↦ inl (omega (arith, end))
      | inr m ↦ inr (m.0, m.1, m.2, omega (arith, m.3))
    ])
    | suc k ↦ λ u e none. elim (rest.last_of_life k u e none) [
      | inl end ↦ inl (omega (arith, end))
      | inr m ↦ inr (m.0, m.1, m.2, omega (arith, m.3))
    ]
  ];
  mounted = λ j w at. (let it = rest.mounted j w at in
      (suc it.0, omega (arith, it.1), omega (arith, it.2), it.3 ∙ fold_flag flag d t rest.counts (take it.0 ts)));
  answered = elim [
    | zero ↦ λ u a e f. (let same : t ≡ u = cc e in
        (subst (λ (x : Attempt). a ≡ answer_of d x.command) same (answer a (ap (λ (x : Attempt). x.acked) same ∙ f))))
    | suc k ↦ λ u a e f. rest.answered k u a e f ∙ ap (λ (x : Durable). answer_of x u.command) (fold_flag flag d t rest.counts (take k ts))
  ];
}

-- one more mounting before the others, which gives what is settled
mounted_before : (d : Durable) (b : ℕ) (ts : List Attempt) (w : Mounting) (ws : List Mounting) → w.before ≡ b → w.state ≡ d
    → KeptAfter d b ts ws → KeptAfter d b ts (w ∷ ws)
mounted_before d b ts w ws before state rest = record {
  counts = rest.counts;
  as_many = rest.as_many;
  only_unacknowledged = rest.only_unacknowledged;
  last_of_life = λ k t e none. elim (rest.last_of_life k t e none) [ inl end ↦ inl end | inr m ↦ inr (suc m.0, m.1, m.2, m.3) ];
  mounted = elim [
    | zero ↦ λ v at. (let same : w ≡ v = cc at in (
      0,
      ap (λ (x : Mounting). x.before) (sym same) ∙ omega (arith, before),
      omega arith,
      rw (counted_none rest.counts) (ap (λ (x : Mounting). x.state) (sym same) ∙ state),
    ))
    | suc j ↦ λ v at. rest.mounted j v at
  ];
  answered = rest.answered;
}

nothing_after : (d : Durable) (b : ℕ) → KeptAfter d b [] []
nothing_after d b = record {
  counts = [];
  as_many = refl;
  only_unacknowledged = λ k t e f. absurd cc;
  last_of_life = λ k t e none. absurd cc;
  mounted = λ j w at. absurd cc;
  answered = λ k t a e f. absurd cc;
}

kept_after : (ms : List Mark) (d : Durable) (doubt : Option Command) (b n : ℕ) → n ≡ b + doubts doubt → KeptFrom d doubt n ms
    → KeptAfter d b (with_doubt doubt (commands_of ms)) (mountings_of ms)
kept_after [] d None b n is kept = nothing_after d b
kept_after [] d (Some c) b n is kept = one_before false d b (record { command = c; acked = None }) [] [] (λ e. refl) (λ e. inl refl)
    (λ a e. absurd cc)
    (nothing_after d (b + 1))
kept_after (Acknowledged c a ∷ ms) d None b n is kept =
    one_before true d b (record { command = c; acked = Some a }) (commands_of ms) (mountings_of ms) (λ e. absurd cc) (λ e. absurd cc)
    (λ x e. (let same : a ≡ x = cc e in sym same ∙ kept.1))
    (kept_after ms (after_command d c) None (b + 1) (n + 1) (omega (arith, is)) kept.2)
kept_after (Acknowledged c a ∷ ms) d (Some x) b n is kept = absurd kept.0
kept_after (Unanswered c ∷ ms) d None b n is kept = kept_after ms d (Some c) b (n + 1) (omega (arith, is)) kept.1
kept_after (Unanswered c ∷ ms) d (Some x) b n is kept = absurd kept.0
kept_after (Mounted w ∷ ms) d None b n is kept =
    mounted_before d b (commands_of ms) w (mountings_of ms) (omega (arith, is, kept.0)) kept.1
    (subst (λ (x : Durable). KeptAfter x b (commands_of ms) (mountings_of ms)) kept.1 (kept_after ms w.state None b n is kept.2))
kept_after (Mounted w ∷ ms) d (Some c) b n is kept =
    let before : w.before ≡ b + 1 = omega (arith, is, kept.0) in
    let rest : KeptAfter w.state (b + 1) (commands_of ms) (mountings_of ms) =
    kept_after ms w.state None (b + 1) n (omega (arith, is)) kept.2 in
    let with_mounting : KeptAfter w.state (b + 1) (commands_of ms) (w ∷ mountings_of ms) =
    mounted_before w.state (b + 1) (commands_of ms) w (mountings_of ms) before refl rest in
    elim kept.1 [
      | inl lost ↦ one_before false d b (record { command = c; acked = None }) (commands_of ms) (w ∷ mountings_of ms) (λ e. refl)
          (λ e. inr (0, w, refl, before)) (λ a e. absurd cc)
          (subst (λ (x : Durable). KeptAfter x (b + 1) (commands_of ms) (w ∷ mountings_of ms)) lost with_mounting)
      | inr stayed ↦ one_before true d b (record { command = c; acked = None }) (commands_of ms) (w ∷ mountings_of ms) (λ e. refl)
          (λ e. inr (0, w, refl, before)) (λ a e. absurd cc)
          (subst (λ (x : Durable). KeptAfter x (b + 1) (commands_of ms) (w ∷ mountings_of ms)) stayed with_mounting)
    ]

pub step_by_step : StepByStep
step_by_step ms kept =
    let all = kept_after ms formatted None 0 0 (omega arith) kept in record {
      counts = all.counts;
      as_many = all.as_many;
      only_unacknowledged = all.only_unacknowledged;
      last_of_life = λ k t e none. elim (all.last_of_life k t e none) [
        | inl end ↦ inl end
        | inr m ↦ inr (m.0, m.1, m.2, omega (arith, m.3))
      ];
      mounted = λ j w at. (let it = all.mounted j w at in
          let number : it.0 ≡ w.before = omega (arith, it.1) in
          subst (λ (r : ℕ). (r ≤ length (commands_of ms)) × (w.state ≡ stands_after all.counts (commands_of ms) r)) number (it.2, it.3));
      answered = all.answered;
    }

-- a command is in doubt only where the node is down
abbrev pub DoubtIsDown : ℕ → NodeState → Type 0
DoubtIsDown self s = IsNone s.doubt ⊎ (s.state ≡ down self)

pub doubt_after : (self nodes : ℕ) (s : NodeState) (what : HistoryEvent) → IsPossible self nodes s what → DoubtIsDown self s
    → DoubtIsDown self (after self nodes s what)
doubt_after self nodes s (Did event) may h = elim h [
  | inl none ↦ inl none
  | inr is ↦ inr (at_down self nodes s event is may.0 may.1.by_core).state
]
doubt_after self nodes s (Refused event fault) may h = h
doubt_after self nodes s (Faulted event) may h = inr refl
doubt_after self nodes s (NoOp why) may h = h
doubt_after self nodes s Crashed may h = inr refl
doubt_after self nodes s (Recovered kept) may h = inl tt
doubt_after self nodes s MountFailed may h = h
doubt_after self nodes s (RaiseFailed kept) may h = inr refl
doubt_after self nodes s (RaiseRefused kept) may h = h

may_mount : (kept : Bool) (s : NodeState) (doubt : Option Command) → s.doubt ≡ doubt → IsSettling kept doubt
    → MayMount s.durable doubt (settled kept s)
may_mount true s None is h = absurd (let none : false ≡ true = h refl in cc)
may_mount true s (Some c) is h = rw is (inr refl)
may_mount false s None is h = refl
may_mount false s (Some c) is h = inl refl

-- a command that was tried
tried_kept : (d : Durable) (wants doubt : Option Command) (n : ℕ) (rest : List Mark) → IsNone doubt ⊎ (wants ≡ None)
    → KeptFrom (after_wanted d wants) doubt (n + length (commands_of (tried_marks d wants))) rest
    → KeptFrom d doubt n (tried_marks d wants ++ rest)
tried_kept d None doubt n rest free kept = rw add-zero at kept
tried_kept d (Some c) None n rest free kept = (tt, refl, kept)
tried_kept d (Some c) (Some x) n rest free kept = elim free [ inl none ↦ absurd none | inr e ↦ absurd cc ]

failed_kept : (d : Durable) (wants doubt : Option Command) (n : ℕ) (rest : List Mark) → IsNone doubt ⊎ (wants ≡ None) → IsSome wants
    → KeptFrom d wants (n + length (commands_of (failed_marks wants))) rest → KeptFrom d doubt n (failed_marks wants ++ rest)
failed_kept d None doubt n rest free wanted kept = absurd cc
failed_kept d (Some c) None n rest free wanted kept = (tt, kept)
failed_kept d (Some c) (Some x) n rest free wanted kept = elim free [ inl none ↦ absurd none | inr e ↦ absurd cc ]

-- where a command is in doubt, none is wanted
free_row : (self nodes : ℕ) (s : NodeState) (event : Event) → Takes self nodes s event → DoubtIsDown self s
    → IsNone s.doubt ⊎ (wants_at self nodes s event ≡ None)
free_row self nodes s event may h = elim h [ inl none ↦ inl none | inr is ↦ inr (at_down self nodes s event is may.0 may.1.by_core).wants ]

-- the history is too short to come to the greatest count, so no raise is refused in it
pub history_kept : (self nodes : ℕ) (s : NodeState) (n : ℕ) (es : List Entry) → highest s + length es < 2 ^ 64 → Follows self nodes s es
    → DoubtIsDown self s → KeptFrom s.durable s.doubt n (marks_from self nodes s n es)
history_kept self nodes s n [] short follows h = tt
history_kept self nodes s n (e ∷ es) short follows h = entry_kept e.what follows.0
    (history_kept self nodes (after self nodes s e.what) (n + length (commands_of (marks_at self nodes s n e.what))) es (omega (
      arith,
      short,
      highest_after self nodes s e.what,
    )) follows.2 (doubt_after self nodes s e.what follows.0 h))
  where
    entry_kept : (what : HistoryEvent) → IsPossible self nodes s what
        → KeptFrom (after self nodes s what).durable (after self nodes s what).doubt
        (n + length (commands_of (marks_at self nodes s n what)))
        (marks_from self nodes (after self nodes s e.what) (n + length (commands_of (marks_at self nodes s n e.what))) es)
        → KeptFrom s.durable s.doubt n (marks_at self nodes s n what
        ++ marks_from self nodes (after self nodes s e.what) (n + length (commands_of (marks_at self nodes s n e.what))) es)
    entry_kept (Did event) may kept = tried_kept s.durable (wants_at self nodes s event) s.doubt n _ (free_row self nodes s event may h)
        kept
    entry_kept (Refused event fault) may kept = rw add-zero at kept
    entry_kept (NoOp why) may kept = rw add-zero at kept
    entry_kept (Faulted event) may kept = failed_kept s.durable (wants_at self nodes s event) s.doubt n _
        (free_row self nodes s event may.0 h) may.1 kept
    entry_kept Crashed may kept = rw add-zero at kept
    entry_kept (Recovered kept') may kept = (refl, may_mount kept' s s.doubt refl may.1, (tt, refl, kept))
    entry_kept MountFailed may kept = rw add-zero at kept
    entry_kept (RaiseFailed kept') may kept = (refl, may_mount kept' s s.doubt refl may.1, (tt, kept))
    entry_kept (RaiseRefused kept') may kept = absurd (omega (arith, short, may.2, settled_highest kept' s))

pub each_kept : EachKept
each_kept self nodes h follows short = step_by_step (marks_of self nodes h)
    (refl, refl, (tt, refl, history_kept self nodes (opening self) 1 h (omega (arith, short)) follows (inl tt)))

pub counts_once : CountsOnce
counts_once j k ne kept =
    let first = (kept.mounted 0 _ refl).1 in
    let second = (kept.mounted 1 _ refl).1 in
    ne (ap (λ (d : Durable). d.counter) (first ∙ sym second))
