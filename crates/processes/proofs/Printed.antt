-- What the `group` lines of processes tell are moments of their nodes.
use Rattle.std.proofs.Common.{◌≡◌, ◌⊎◌, ℕ, Bool, false, ◌||◌, List, [], ◌∷◌, ◌++◌, length, refl, sym, ◌∙◌, ap, subst, inl, inr, arith}
use Rattle.std.proofs.Common.{Option, option_to_list}
use Rattle.std.proofs.lemmas.Bool.{cond_both}
use Rattle.group_task.specs.Group.{Group}
use Rattle.node_core.specs.State.{State}
use Rattle.node_core.specs.Words.{members_of}
use Rattle.histories.specs.Book.{IsInGroup}
use Rattle.histories.specs.Lists.{IsAmong}
use Rattle.histories.specs.NodeState.{NodeState}
use Rattle.histories.specs.HistoryEvent.{Entry}
use Rattle.histories.specs.declared.history_event.HistoryEvent.TheVariants.{Crashed}
use Rattle.histories.specs.After.{after}
use Rattle.histories.specs.History.{replay, vectors}
use Rattle.histories.proofs.PublicLaws.{among_either}
use Rattle.durable_node.specs.Changes.{same_view, told_anew, view_of}
use Rattle.durable_node.specs.declared.group_view.GroupView.{GroupView}
use Rattle.node_session.specs.Changes.{group_line}
use Rattle.node_session.specs.Turns.{Turn, Goes}
use Rattle.node_session.specs.Chains.{LineOutcome, AreGoing, AllGoing, after_turns, entries_in}
use Rattle.node_session.specs.Chains as chains
use Rattle.node_session.specs.Serving.{OneHistory}
use Rattle.processes.specs.Files.{IsMomentOf, at_first}
use Rattle.processes.specs.Processes.{NodeProcesses, Process, AreProcesses, AreProcessesOf, IsToldBy, entries_from, entries_of}
use Rattle.processes.specs.Processes.{found, histories_of, left, process_entries, settles, told_by, told_in, told_of}
use Rattle.processes.specs.Printed.{NumberNamesLeader, OneCoordinatorEach, OneLeaderEach, OneLineEach}
use Rattle.processes.proofs.Clusters.{are_a_cluster, as_many, history_at, history_of}
use Rattle.processes.proofs.Embedding.{first_moment}
use Rattle.processes.proofs.Following.{process_ends, process_simulates}
use Rattle.processes.proofs.Groups.{creator_leads, one_task_each}
use Rattle.processes.proofs.Settling.{Ended}

-- a state of these that is seen so
record IsSeen (vs : List State) (view : GroupView) : Type 0 where
  state : State
  among : IsAmong state vs
  seen : view ≡ view_of state

told_last : (old new view : GroupView) → IsAmong view (option_to_list (told_anew old new)) → view ≡ new
told_last old new view i = cond_both (same_view old new) _ _ (λ (o : Option GroupView). IsAmong view (option_to_list o) → view ≡ new)
    (λ _ j. absurd j) (λ _ j. elim j [ inl e ↦ e | inr none ↦ absurd none ]) i

more_seen : (v : State) (vs : List State) (view : GroupView) → IsSeen vs view → IsSeen (v ∷ vs) view
more_seen v vs view it = record { state = it.state; among = inr it.among; seen = it.seen }

module _ (self nodes : ℕ) (view : GroupView) where
  -- what turns tell is seen in them, or by what comes behind
  turns_seen : (s : NodeState) (ts : List Turn) (later : List Entry) → AreGoing ts
      → IsAmong view (told_by self nodes s ts) ⊎ IsSeen (vectors self nodes (after_turns self nodes s ts) later) view
      → IsSeen (vectors self nodes s (chains.entries_of self nodes s ts later)) view
  turns_seen s [] later going i = elim i [ inl l ↦ absurd l | inr r ↦ r ]
  turns_seen s (Goes what ∷ ts) later going i =
      let next = after self nodes s what in
      let rest = chains.entries_of self nodes next ts later in
      more_seen s.state (vectors self nodes next rest) view (elim i [
        | inl l ↦ elim (among_either view (option_to_list (told_anew (view_of s.state) (view_of next.state))) (told_by self nodes next ts)
            l) [
              | inl k ↦ record {
                state = next.state;
                among = first_moment self nodes next rest;
                seen = told_last (view_of s.state) (view_of next.state) view k;
              }
              | inr k ↦ turns_seen next ts later going.1 (inl k)
            ]
        | inr r ↦ turns_seen next ts later going.1 (inr r)
      ])
  turns_seen s (t ∷ ts) later going i = absurd going.0

  lines_seen : (s : NodeState) (all : List LineOutcome) → AllGoing all → IsAmong view (told_in self nodes s all)
      → IsSeen (vectors self nodes s (entries_in self nodes s all)) view
  lines_seen s [] going i = absurd i
  lines_seen s (came ∷ all) going i =
      let next = after_turns self nodes s came.turns in
      turns_seen s came.turns (entries_in self nodes next all) going.0
      (elim (among_either view (told_by self nodes s came.turns) (told_in self nodes next all) i) [
        | inl l ↦ inl l
        | inr r ↦ inr (lines_seen next all going.1 r)
      ])

  seen_left : (s : NodeState) (es fs : List Entry) → IsSeen (vectors self nodes s es) view → IsSeen (vectors self nodes s (es ++ fs)) view
  seen_left s [] fs it = elim it.among [
    | inl e ↦ record { state = s.state; among = first_moment self nodes s fs; seen = it.seen ∙ ap view_of e }
    | inr none ↦ absurd none
  ]
  seen_left s (e ∷ es) fs it = elim it.among [
    | inl is ↦ record { state = s.state; among = inl refl; seen = it.seen ∙ ap view_of is }
    | inr later ↦ more_seen s.state _ view
        (seen_left (after self nodes s e.what) es fs (record { state = it.state; among = later; seen = it.seen }))
  ]

  seen_right : (s t : NodeState) (es fs : List Entry) → replay self nodes s es ≡ t → IsSeen (vectors self nodes t fs) view
      → IsSeen (vectors self nodes s (es ++ fs)) view
  seen_right s t [] fs is it = subst (λ (x : NodeState). IsSeen (vectors self nodes x fs) view) (sym is) it
  seen_right s t (e ∷ es) fs is it = more_seen s.state _ view (seen_right (after self nodes s e.what) t es fs is it)

  seen_from : OneHistory → (slots : ℕ) (ps : List Process) {kept : Bool} {t s : NodeState} → Ended self kept t s
      → AreProcesses self nodes slots s ps → IsAmong view (told_of self nodes s ps)
      → IsSeen (vectors self nodes t (entries_from self nodes kept s ps)) view
  seen_from one slots [] ended are i = absurd i
  seen_from one slots (p ∷ ps) {kept} {t} {s} ended are i =
      let down = after self nodes t Crashed in
      let own = settles (kept || p.kept) (process_entries self nodes s p) in
      more_seen t.state _ view
      (elim (among_either view (told_in self nodes (found self s p) p.life.all) (told_of self nodes (left self nodes s p) ps) i) [
        | inl l ↦ (let here = lines_seen (found self s p) p.life.all are.2 l in seen_left down own _ (record {
          state = here.state;
          among = (process_simulates one self nodes slots p ps ended are).moments here.state here.among;
          seen = here.seen;
        }))
        | inr r ↦ seen_right down (replay self nodes down own) own _ refl
            (seen_from one slots ps (process_ends one self nodes slots p ps ended are) are.3 r)
      ])

-- ---- moments

record IsMomentTold (cluster : List NodeProcesses) (n : ℕ) (view : GroupView) : Type 0 where
  state : State
  moment : IsMomentOf (histories_of cluster) n state
  seen : view ≡ view_of state

told_moment : OneHistory → (cluster : List NodeProcesses) → AreProcessesOf cluster → (n : ℕ) (view : GroupView) → IsToldBy cluster n view
    → IsMomentTold cluster n view
told_moment one cluster are n view told =
    let node = told.0 in
    let s = at_first n node.file in
    let it = seen_from n (length cluster) view one node.slots node.processes {kept = false} {t = s} (inl (refl, refl))
    (are.processes n node told.1) told.2 in
    let at = history_at 0 (length cluster) cluster n n node told.1 (omega arith) in record {
      state = it.state;
      moment = (
        history_of n (length cluster) node,
        at,
        subst (λ (k : ℕ).
            IsAmong it.state (vectors n k (at_first n node.file) (entries_of n (length cluster) (at_first n node.file) node.processes)))
            (sym (as_many 0 (length cluster) cluster)) it.among,
      );
      seen = it.seen;
    }

pub number_names_leader : OneHistory → NumberNamesLeader
number_names_leader one cluster are n view told in_it =
    let it = told_moment one cluster are n view told in
    let up : IsInGroup it.state.phase = subst (λ (x : GroupView). IsInGroup x.phase) it.seen in_it in
    ap (λ (x : GroupView). x.coordinator) it.seen ∙ (creator_leads (histories_of cluster) (are_a_cluster one cluster are) n it.state
    it.moment up ∙ sym (ap (λ (x : GroupView). x.group.creator) it.seen))

pub one_coordinator_each : OneHistory → OneCoordinatorEach
one_coordinator_each one cluster are n m a b told_a told_b in_a in_b same =
    number_names_leader one cluster are n a told_a in_a ∙ (ap (λ (g : Group). g.creator) same
    ∙ sym (number_names_leader one cluster are m b told_b in_b))

pub one_leader_each : OneHistory → OneLeaderEach
one_leader_each one cluster are n m a b told_a told_b in_a in_b leads_a leads_b same =
    sym leads_a ∙ (one_coordinator_each one cluster are n m a b told_a told_b in_a in_b same ∙ leads_b)

pub one_line_each : OneHistory → OneLineEach
one_line_each one cluster are n m a b told_a told_b normal_a normal_b same =
    let x = told_moment one cluster are n a told_a in
    let y = told_moment one cluster are m b told_b in
    let over = are_a_cluster one cluster are in
    let normal_x = sym (ap (λ (v : GroupView). v.phase) x.seen) ∙ normal_a in
    let normal_y = sym (ap (λ (v : GroupView). v.phase) y.seen) ∙ normal_b in
    let group = sym (ap (λ (v : GroupView). v.group) x.seen) ∙ (same ∙ ap (λ (v : GroupView). v.group) y.seen) in
    let task = one_task_each (histories_of cluster) over n m x.state y.state x.moment y.moment normal_x normal_y group in
    let coordinator = one_coordinator_each one cluster are n m a b told_a told_b (inr normal_a) (inr normal_b) same in
    let members : a.members ≡ b.members = ap (λ (v : GroupView). v.members) x.seen
    ∙ (ap members_of task ∙ sym (ap (λ (v : GroupView). v.members) y.seen)) in
    let phase : a.phase ≡ b.phase = normal_a ∙ sym normal_b in
    let same_view : a ≡ b = λ i. record { phase = phase i; coordinator = coordinator i; group = same i; members = members i } in
    (same_view, ap group_line same_view)
