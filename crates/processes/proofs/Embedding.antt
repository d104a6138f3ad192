-- What comes of a node over a file, among the histories that begin at the common opening.
use Rattle.std.proofs.Common.{◌≡◌, ◌⊎◌, ℕ, ◌+◌, ◌<◌, Bool, true, false, List, [], ◌∷◌, ◌++◌, refl, sym, ◌∙◌, ap, subst, inl, inr}
use Rattle.std.proofs.Common.{arith, Option, Some, None, IsSome, eq-zero-or-pos}
use Rattle.std.specs.Prelude.{if◌then◌else◌}
use Rattle.std.proofs.lemmas.Bool.{and_parts}
use Rattle.job_model.specs.declared.job.Job.{Job}
use Rattle.job_model.specs.declared.node_command.NodeCommand.{NodeCommand as Command}
use Rattle.job_model.specs.declared.node_command.NodeCommand.TheVariants.{Raise}
use Rattle.job_model.specs.Durable.{Durable, formatted}
use Rattle.wire_msg.specs.Envelope.{Envelope}
use Rattle.node_core.specs.declared.event.Event.{Event}
use Rattle.node_core.specs.declared.event.Event.TheVariants.{Deliver}
use Rattle.node_core.specs.declared.fault.CoreFault.TheVariants.{Stranger}
use Rattle.node_core.specs.Refusals.{is_known, refusal_of}
use Rattle.node_core.specs.Start.{down}
use Rattle.node_core.specs.State.{State, is_down}
use Rattle.histories.specs.Lists.{IsAmong}
use Rattle.histories.specs.NodeState.{NodeState, opening}
use Rattle.histories.specs.declared.history_event.HistoryEvent.{HistoryEvent}
use Rattle.histories.specs.declared.history_event.HistoryEvent.TheVariants.{Did, Refused, Faulted, Crashed, Recovered}
use Rattle.histories.specs.declared.history_event.HistoryEvent.TheVariants.{RaiseFailed, RaiseRefused}
use Rattle.histories.specs.HistoryEvent.{Entry, event_of, brought}
use Rattle.histories.specs.After.{after, sent_at}
use Rattle.histories.specs.Possible.{IsPossible}
use Rattle.histories.specs.History.{Follows, brought_in, replay, sent_in, vectors}
use Rattle.histories.proofs.PublicLaws.{among_either, among_left, among_right, at_down, eq_nat}
use Rattle.processes.specs.Files.{IdsRise, IsFormatted, at_first, taken, taken_in}
use Rattle.processes.proofs.Prelude.{Reached, brought_either, file_reached, follows_both, ids_end, opens, reached_next}

-- a message that the history took, which is addressed to the node
abbrev pub IsTaken : ℕ → List Entry → Envelope → Type 0
IsTaken self es m = IsAmong m (taken_in es) × (m.receiver ≡ self)

-- a history with the moments of another one, but for those in which the node is down, and what it sends, which is brought no more than the
-- other takes
pub record Covers (self nodes : ℕ) (s : NodeState) (es : List Entry) (t : NodeState) (other : List Entry) : Type 0 where
  pub follows : Follows self nodes t other
  pub moments : (v : State) → IsAmong v (vectors self nodes s es) → is_down v.phase ≡ false → IsAmong v (vectors self nodes t other)
  pub sends : (m : Envelope) → IsAmong m (sent_in es) → IsAmong m (sent_in other)
  pub takes : (m : Envelope) → IsAmong m (brought_in other) → IsTaken self es m

-- ---- without what is refused

unless : (b : Bool) → (if b then None else Some Stranger) ≡ None → b ≡ true
unless true h = refl
unless false h = absurd cc

addressed : (nodes self : ℕ) (event : Event) (s : State) (m : Envelope) → refusal_of nodes self event s ≡ None
    → IsAmong m (brought (Some event)) → m.receiver ≡ self
addressed nodes self (Deliver d) s m h i = elim i [
  | inl e ↦ ap (λ (x : Envelope). x.receiver) e ∙ eq_nat d.receiver self (and_parts _ _ (unless (is_known nodes self d) h)).0
  | inr none ↦ absurd none
]
addressed nodes self event s m h i = absurd i

pub first_moment : (self nodes : ℕ) (s : NodeState) (es : List Entry) → IsAmong s.state (vectors self nodes s es)
first_moment self nodes s [] = inl refl
first_moment self nodes s (e ∷ es) = inl refl

-- what an entry takes is addressed to the node, and brought
pub entry_takes : (self nodes : ℕ) (s : NodeState) (what : HistoryEvent) (m : Envelope) → IsPossible self nodes s what
    → IsAmong m (taken what) → (IsAmong m (brought (event_of what))) × (m.receiver ≡ self)
entry_takes self nodes s (Did event) m may i = (i, addressed nodes self event s.state m may.1.by_core i)
entry_takes self nodes s (Faulted event) m may i = (i, addressed nodes self event s.state m may.0.1.by_core i)
entry_takes self nodes s what m may i = absurd i

abbrev calm_by : HistoryEvent → Entry → List Entry → List Entry
calm_by (Refused event fault) e rest = rest
calm_by what e rest = e ∷ rest

-- a history without the events that it refused
abbrev calm : List Entry → List Entry
calm [] = []
calm (e ∷ es) = calm_by e.what e (calm es)

abbrev pub entry : HistoryEvent → List Envelope → Entry
entry what sent = record { what = what; sent = sent }

keep_one : (self nodes : ℕ) (s : NodeState) (what : HistoryEvent) (sent : List Envelope) (es rest : List Entry)
    → taken what ≡ brought (event_of what) → IsPossible self nodes s what → sent ≡ sent_at self nodes s what
    → Covers self nodes (after self nodes s what) es (after self nodes s what) rest
    → Covers self nodes s (entry what sent ∷ es) s (entry what sent ∷ rest)
keep_one self nodes s what sent es rest all may is c = record {
  follows = (may, is, c.follows);
  moments = λ v i up. elim i [ inl e ↦ inl e | inr j ↦ inr (c.moments v j up) ];
  sends = λ m i. elim (among_either m sent (sent_in es) i) [
    | inl l ↦ among_left m sent (sent_in rest) l
    | inr r ↦ among_right m sent (sent_in rest) (c.sends m r)
  ];
  takes = λ m i. elim (among_either m (brought (event_of what)) (brought_in rest) i) [
    | inl l ↦ (let here : IsAmong m (taken what) = rw all l in
        (among_left m (taken what) (taken_in es) here, (entry_takes self nodes s what m may here).1))
    | inr r ↦ (let it = c.takes m r in (among_right m (taken what) (taken_in es) it.0, it.1))
  ];
}

-- what sends nothing is left out
silent_one : (sent : List Envelope) (es rest : List Entry) → sent ≡ []
    → ((m : Envelope) → IsAmong m (sent_in es) → IsAmong m (sent_in rest))
    → (m : Envelope) → IsAmong m (sent ++ sent_in es) → IsAmong m (sent_in rest)
silent_one sent es rest silent sends m i = sends m (rw silent at i)

calm_one : (self nodes : ℕ) (s : NodeState) (what : HistoryEvent) (sent : List Envelope) (es rest : List Entry)
    → IsPossible self nodes s what → sent ≡ sent_at self nodes s what
    → Covers self nodes (after self nodes s what) es (after self nodes s what) rest
    → Covers self nodes s (entry what sent ∷ es) s (calm_by what (entry what sent) rest)
calm_one self nodes s (Refused event fault) sent es rest may is c = record {
  follows = c.follows;
  moments = λ v i up. elim i [ inl e ↦ c.moments v (rw e (first_moment self nodes s es)) up | inr j ↦ c.moments v j up ];
  sends = silent_one sent es rest is c.sends;
  takes = c.takes;
}
calm_one self nodes s what sent es rest may is c = keep_one self nodes s what sent es rest refl may is c

calm_covers : (self nodes : ℕ) (s : NodeState) (es : List Entry) → Follows self nodes s es → Covers self nodes s es s (calm es)
calm_covers self nodes s [] follows = record { follows = tt; moments = λ v i up. i; sends = λ m i. i; takes = λ m i. absurd i }
calm_covers self nodes s (e ∷ es) follows =
    calm_one self nodes s e.what e.sent es (calm es) follows.0 follows.1 (calm_covers self nodes (after self nodes s e.what) es follows.2)

-- ---- behind what was before

moment_behind : (self nodes : ℕ) (s : NodeState) (es fs : List Entry) (v : State)
    → IsAmong v (vectors self nodes (replay self nodes s es) fs) → IsAmong v (vectors self nodes s (es ++ fs))
moment_behind self nodes s [] fs v i = i
moment_behind self nodes s (e ∷ es) fs v i = inr (moment_behind self nodes (after self nodes s e.what) es fs v i)

sent_behind : (es fs : List Entry) (m : Envelope) → IsAmong m (sent_in fs) → IsAmong m (sent_in (es ++ fs))
sent_behind [] fs m i = i
sent_behind (e ∷ es) fs m i = among_right m e.sent (sent_in (es ++ fs)) (sent_behind es fs m i)

-- a history from the opening that covers it
pub record Embedded (self nodes : ℕ) (s : NodeState) (es : List Entry) : Type 0 where
  pub other : List Entry
  pub covers : Covers self nodes s es (opening self) other

reached_embedded : (self nodes : ℕ) (s : NodeState) (es : List Entry) → Reached self nodes s → Follows self nodes s es
    → Embedded self nodes s es
reached_embedded self nodes s es reached follows =
    let c = calm_covers self nodes s es follows in record {
      other = reached.before ++ calm es;
      covers = record {
        follows = follows_both self nodes (opening self) reached.before (calm es) reached.follows
            (subst (λ (x : NodeState). Follows self nodes x (calm es)) (sym reached.leaves) c.follows);
        moments = λ v i up. moment_behind self nodes (opening self) reached.before (calm es) v
            (subst (λ (x : NodeState). IsAmong v (vectors self nodes x (calm es))) (sym reached.leaves) (c.moments v i up));
        sends = λ m i. sent_behind reached.before (calm es) m (c.sends m i);
        takes = λ m i. elim (brought_either reached.before (calm es) m i) [ inl l ↦ absurd (reached.quiet m l) | inr r ↦ c.takes m r ];
      };
    }

-- ---- a file that begins at 0

-- what a node does while it is down is left out
leave_out : (self nodes : ℕ) (s : NodeState) (what : HistoryEvent) (sent : List Envelope) (es : List Entry) → is_down s.state.phase ≡ true
    → sent ≡ [] → Embedded self nodes (after self nodes s what) es
    → Embedded self nodes s (entry what sent ∷ es)
leave_out self nodes s what sent es fallen silent it = record {
  other = it.other;
  covers = record {
    follows = it.covers.follows;
    moments = λ v i up. elim i [
      | inl e ↦ (let both : true ≡ false = sym fallen ∙ (ap (λ (x : State). is_down x.phase) (sym e) ∙ up) in absurd cc)
      | inr j ↦ it.covers.moments v j up
    ];
    sends = silent_one sent es it.other silent it.covers.sends;
    takes = λ m i. (let t = it.covers.takes m i in (among_right m (taken what) (taken_in es) t.0, t.1));
  };
}

abbrev doubted : Bool → Option Command
doubted true = Some Raise
doubted false = None

-- a node that is down over a file which nothing counts of yet, with its first raise in doubt or not
abbrev low : ℕ → Bool → NodeState
low self doubt = record { state = down self; durable = formatted; doubt = doubted doubt }

module _ (self nodes : ℕ) where
  again : Reached self nodes (after self nodes (opening self) Crashed)
  again = reached_next self nodes (opening self) _ Crashed (opens self nodes) tt refl refl

  up_again : Reached self nodes (after self nodes (after self nodes (opening self) Crashed) (Recovered false))
  up_again = reached_next self nodes _ _ (Recovered false) again (refl, (λ e. absurd cc), omega arith) refl refl

  failed_again : Reached self nodes (after self nodes (after self nodes (opening self) Crashed) (RaiseFailed false))
  failed_again = reached_next self nodes _ _ (RaiseFailed false) again (refl, (λ e. absurd cc), omega arith) refl refl

  no_doubt : {A : Type 0} → IsSome (doubted false) → A
  no_doubt is = absurd cc

  low_one : (b : Bool) (what : HistoryEvent) (sent : List Envelope) (es : List Entry) → IsPossible self nodes (low self b) what
      → sent ≡ sent_at self nodes (low self b) what → Follows self nodes (after self nodes (low self b) what) es
      → ((c : Bool) → Follows self nodes (low self c) es → Embedded self nodes (low self c) es)
      → Embedded self nodes (low self b) (entry what sent ∷ es)
  low_one b (Did event) sent es may is follows rest =
      let still = at_down self nodes (low self b) event refl may.0 may.1.by_core in
      let same : after self nodes (low self b) (Did event) ≡ low self b = rw (still.state, still.wants) refl in
      leave_out self nodes (low self b) (Did event) sent es refl (is ∙ still.sent)
      (subst (λ (x : NodeState). Embedded self nodes x es) (sym same)
      (rest b (subst (λ (x : NodeState). Follows self nodes x es) same follows)))
  low_one b (Faulted event) sent es may is follows rest = no_doubt (subst (λ (x : Option Command). IsSome x)
      (at_down self nodes (low self b) event refl may.0.0 may.0.1.by_core).wants may.1)
  low_one b (Recovered false) sent es may is follows rest = leave_out self nodes (low self b) (Recovered false) sent es refl is
      (reached_embedded self nodes (opening self) es (opens self nodes) follows)
  low_one true (Recovered true) sent es may is follows rest =
      leave_out self nodes (low self true) (Recovered true) sent es refl is (reached_embedded self nodes _ es up_again follows)
  low_one false (Recovered true) sent es may is follows rest = no_doubt (may.1 refl)
  low_one b (RaiseFailed false) sent es may is follows rest =
      leave_out self nodes (low self b) (RaiseFailed false) sent es refl is (rest true follows)
  low_one true (RaiseFailed true) sent es may is follows rest =
      leave_out self nodes (low self true) (RaiseFailed true) sent es refl is (reached_embedded self nodes _ es failed_again follows)
  low_one false (RaiseFailed true) sent es may is follows rest = no_doubt (may.1 refl)
  low_one b (RaiseRefused false) sent es may is follows rest = absurd (omega (arith, may.2))
  low_one true (RaiseRefused true) sent es may is follows rest = absurd (omega (arith, may.2))
  low_one false (RaiseRefused true) sent es may is follows rest = no_doubt (may.1 refl)
  low_one b what sent es may is follows rest = leave_out self nodes (low self b) what sent es refl is (rest b follows)

  low_embedded : (b : Bool) (es : List Entry) → Follows self nodes (low self b) es → Embedded self nodes (low self b) es
  low_embedded b [] follows = record {
    other = [];
    covers = record {
      follows = tt;
      moments = λ v i up. elim i [
        | inl e ↦ (let both : true ≡ false = ap (λ (x : State). is_down x.phase) (sym e) ∙ up in absurd cc)
        | inr none ↦ absurd none
      ];
      sends = λ m i. absurd i;
      takes = λ m i. absurd i;
    };
  }
  low_embedded b (e ∷ es) follows =
      low_one b e.what e.sent es follows.0 follows.1 follows.2 (λ c h. low_embedded c es h)

-- ---- any file

no_ids : (file : Durable) → IsFormatted file → file.counter ≡ 0 → file ≡ formatted
no_ids file new zero_count = by_jobs file.pending refl (subst (λ (next : ℕ). IdsRise 0 file.pending next) next new.jobs)
  where
    next : file.next ≡ 0
    next = sym new.first ∙ zero_count

    by_jobs : (jobs : List Job) → file.pending ≡ jobs → IdsRise 0 jobs 0 → file ≡ formatted
    by_jobs [] is rise = λ i. record { counter = zero_count i; next = next i; pending = is i }
    by_jobs (job ∷ jobs) is rise = absurd (omega (arith, ids_end (job.id + 1) jobs 0 rise.1))

by_first : (self nodes : ℕ) (file : Durable) (es : List Entry) → IsFormatted file → (file.counter ≡ 0) ⊎ (0 < file.counter)
    → Follows self nodes (at_first self file) es → Embedded self nodes (at_first self file) es
by_first self nodes file es new first follows = elim first [
  | inl none ↦ (let same = no_ids file new none in
      subst (λ (d : Durable). Embedded self nodes (at_first self d) es) (sym same)
      (low_embedded self nodes false es (subst (λ (d : Durable). Follows self nodes (at_first self d) es) same follows)))
  | inr above ↦ reached_embedded self nodes (at_first self file) es (file_reached self nodes file new above) follows
]

pub embedded : (self nodes : ℕ) (file : Durable) (es : List Entry) → IsFormatted file → Follows self nodes (at_first self file) es
    → Embedded self nodes (at_first self file) es
embedded self nodes file es new follows = by_first self nodes file es new (eq-zero-or-pos file.counter) follows
