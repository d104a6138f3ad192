-- The trace of a run is one: what its entries say may come in the order of the steps, and they can be taken so.
use Rattle.std.proofs.Common.{◌≡◌, ◌⊎◌, inl, inr, ℕ, List, [], sym, subst, arith, ◌≤◌, zero, suc, ◌∷◌, ◌++◌, map, length, drop, reverse}
use Rattle.std.proofs.Common.{append_assoc, slice_get, Option, Some, refl, ap, ◌∙◌}
use Rattle.std.specs.Prelude.{option_map}
use Rattle.std.proofs.lemmas.List.{append-nil, length-drop, length-map, reverse-append}
use Rattle.std.proofs.lemmas.Bool.{cases_lt}
use Rattle.std.proofs.lemmas.Option.{slice_get_within, slice_get-map}
use Rattle.wire_msg.specs.Envelope.{Envelope}
use Rattle.histories.specs.NodeState.{NodeState}
use Rattle.histories.specs.declared.history_event.HistoryEvent.{HistoryEvent}
use Rattle.histories.specs.HistoryEvent.{event_of, brought, AreAddressed, Entry}
use Rattle.histories.specs.After.{after, sent_at}
use Rattle.histories.specs.Possible.{IsPossible}
use Rattle.trace_check.specs.Claims.{Claim, MayCome, after_claim, brought_by}
use Rattle.trace_check.specs.Traces.{claim}
use Rattle.trace_check.specs.declared.order.Order.{Order}
use Rattle.cluster_sim.specs.Traced.{action_of, claim_of, trace_in, nodes_in, IsOrder, IsRecordOf, IsTraceOf}
use Rattle.histories.specs.Lists.{IsAmong, Each}
use Rattle.histories.proofs.PublicLaws.{among_either, each_of}
use Rattle.schedule.specs.declared.act.Act.{Act}
use Rattle.runs.specs.World.{World, node_in, start}
use Rattle.runs.specs.Step.{Step, Takes, Changes, Denies, world_after}
use Rattle.runs.specs.Run.{IsAllowed, RunFrom, entry_at, history_in, histories_of}
use Rattle.runs.proofs.PublicLaws.{all_acts_run, step_length, length_openings, at_place, brought_sent, history_at, how_many, opened}
use Rattle.runs.proofs.PublicLaws.{state_elsewhere, state_here}
use Rattle.trace_check.specs.Orders.{claims_of, history, taken, state_of, IsSent, MayTake, IsLegal}
use Rattle.trace_check.specs.Verdicts.{IsRun, Turned}
use Rattle.trace_check.proofs.PublicLaws.{turns, none_past}
use Rattle.cluster_sim.proofs.Tracings.{entry_here, entry_elsewhere}

written_so : (n nodes : ℕ) (s : NodeState) (what : HistoryEvent) → IsPossible n nodes s what
    → let c = claim (action_of what) (sent_at n nodes s what) in MayCome n nodes s c × (after_claim n nodes s c ≡ after n nodes s what)
written_so n nodes s what may = grind arith

-- what it says was brought is what was brought, where it wasn't refused
brings : (what : HistoryEvent) → (brought_by (action_of what) ≡ []) ⊎ (brought_by (action_of what) ≡ brought (event_of what))
brings what = grind arith

brings_so : (P : List Envelope → Type 0) (what : HistoryEvent) → P [] → P (brought (event_of what)) → P (brought_by (action_of what))
brings_so P what none is = elim (brings what) [ inl e ↦ subst P (sym e) none | inr e ↦ subst P (sym e) is ]

next_of : {A : Type 0} (xs : List A) (i : ℕ) (x : A) (ys : List A) → drop i xs ≡ x ∷ ys → (slice_get xs i ≡ Some x) × (drop (suc i) xs ≡ ys)
next_of [] zero x ys is = absurd cc
next_of [] (suc i) x ys is = absurd cc
next_of (z ∷ xs) zero x ys is = (cc, cc)
next_of (z ∷ xs) (suc i) x ys is = next_of xs i x ys is

-- The entries so far are taken, and the nodes are in the states after them.
record IsAt (nodes : ℕ) (hs : List (List Claim)) (now : List NodeState) (posted : List Envelope) (past : List ℕ) : Type 0 where
  pub many : length hs ≡ nodes
  pub within : (n : ℕ) → taken n past ≤ length (history hs n)
  pub states : (n : ℕ) (s : NodeState) → slice_get now n ≡ Some s → state_of hs n (taken n past) ≡ s
  pub sent : (m : Envelope) → IsAmong m posted → IsSent hs past m
  pub legal : IsLegal hs past

-- those of the steps that are left aren't
abbrev AreLeft : ℕ → List (List Claim) → World → List ℕ → List Step → Type 0
AreLeft nodes hs w past left = (n : ℕ) → drop (taken n past) (history hs n) ≡ map claim_of (history_in n nodes w left)

-- a step of a node takes its next entry
takes : (nodes : ℕ) (hs : List (List Claim)) (w : World) (past : List ℕ) (n number : ℕ) (what : HistoryEvent) (left : List Step)
    → IsAt nodes hs w.states w.net.sent past → AreLeft nodes hs w past (Takes n number what ∷ left)
    → IsAllowed nodes w (Takes n number what) → let new = world_after nodes w (Takes n number what) in
    IsAt nodes hs new.states new.net.sent (n ∷ past) × AreLeft nodes hs new (n ∷ past) left
takes nodes hs w past n number what left at rest may =
    let s = may.0 in
    let there = may.1 in
    let after_it = world_after nodes w (Takes n number what) in
    let es = sent_at n nodes (node_in w.states n) what in
    let c = claim (action_of what) es in
    let here = rest n ∙ ap (λ (xs : List Entry). map claim_of (xs ++ history_in n nodes after_it left))
    (entry_here n nodes w number what) in
    let next = next_of (history hs n) (taken n past) c (map claim_of (history_in n nodes after_it left)) here in
    let written = written_so n nodes s what may.2 in
    let stands : state_of hs n (taken n past) ≡ s = at.states n s there in
    let possible : MayCome n nodes s c = rw there written.0 in
    let taken_so : MayTake hs past n = record {
      claim = c;
      next = next.0;
      possible = rw (stands, at.many) possible;
      sent = brings_so (λ (ms : List Envelope). Each (λ (m : Envelope). IsSent hs past m) ms) what tt
          (each_of (λ (m : Envelope). IsSent hs past m) (brought (event_of what)) (λ m is.
          at.sent m (brought_sent w number (brought (event_of what)) m may.3 is)));
      addressed = brings_so (λ (ms : List Envelope). AreAddressed n ms) what tt may.4;
    } in
    let t : Turned hs past n c = turns hs past n c next.0 in
    let leaves : after_claim n (length hs) (state_of hs n (taken n past)) c ≡ after n nodes s what = rw (stands, at.many) written.1 in
    let more = slice_get_within (history hs n) (taken n past) c next.0 in (
      record {
        many = at.many;
        within = λ k. (let was = at.within k in grind arith);
        states = λ k s' is. (let was = at.states k s' in let moved = t.state ∙ leaves in let here = state_here n k nodes what w.states s in
            let elsewhere = state_elsewhere n k nodes what w.states in grind arith);
        sent = λ m is. elim (among_either m w.net.sent es is) [ inl old ↦ t.keeps m (at.sent m old) | inr new ↦ t.adds m new ];
        legal = (taken_so, at.legal);
      },
      λ k. (let was = rest k in let now = next.1 in grind arith),
    )

-- the turns of these steps, behind those of the past
abbrev turned : List Step → List ℕ → List ℕ
turned [] past = past
turned (Takes n number what ∷ left) past = turned left (n ∷ past)
turned (Changes net ∷ left) past = turned left past
turned (Denies n why ∷ left) past = turned left past

turned_is : (left : List Step) (past : List ℕ) → turned left past ≡ reverse (nodes_in left) ++ past
turned_is [] past = refl
turned_is (Takes n number what ∷ left) past =
    turned_is left (n ∷ past) ∙ sym (append_assoc (reverse (nodes_in left)) (n ∷ []) past)
    ∙ ap (λ (ns : List ℕ). ns ++ past) (sym (reverse-append (n ∷ []) (nodes_in left)))
turned_is (_ ∷ left) past = turned_is left past

to_the_end : (nodes : ℕ) (hs : List (List Claim)) (left : List Step) (w : World) (past : List ℕ) → IsAt nodes hs w.states w.net.sent past
    → AreLeft nodes hs w past left → RunFrom nodes w left → IsOrder hs (turned left past)
to_the_end nodes hs [] w past at rest run = (
  at.legal,
  λ n. (let most = at.within n in
      let left = length-drop (taken n past) (history hs n) in let none = ap length (rest n) in omega (arith, most, left, none)),
)
to_the_end nodes hs (Takes n number what ∷ left) w past at rest run =
    let next = takes nodes hs w past n number what left at rest run.0 in
    to_the_end nodes hs left (world_after nodes w (Takes n number what)) (n ∷ past) next.0 next.1 run.1
to_the_end nodes hs (Changes net ∷ left) w past at rest run =
    to_the_end nodes hs left (world_after nodes w (Changes net)) past
    (subst (λ (ms : List Envelope). IsAt nodes hs w.states ms past) (sym run.0) at) rest run.1
to_the_end nodes hs (Denies written why ∷ left) w past at rest run = to_the_end nodes hs left w past at rest run.1

-- ---- the beginning

none_out : (n nodes : ℕ) (w : World) (step : Step) → length w.states ≡ nodes → nodes ≤ n → IsAllowed nodes w step
    → entry_at n nodes w step ≡ []
none_out n nodes w (Takes m number what) count out may = let in_it = slice_get_within w.states m may.0 may.1 in
    entry_elsewhere m n nodes w number what (λ e. omega (arith, in_it, count, out, e))
none_out n nodes w step count out may = grind arith

-- a node outside the cluster has no history
no_history : (n nodes : ℕ) (steps : List Step) (w : World) → length w.states ≡ nodes → nodes ≤ n → RunFrom nodes w steps
    → history_in n nodes w steps ≡ []
no_history n nodes [] w count out run = refl
no_history n nodes (step ∷ steps) w count out run =
    ap (λ (xs : List Entry). xs ++ history_in n nodes (world_after nodes w step) steps) (none_out n nodes w step count out run.0)
    ∙ no_history n nodes steps (world_after nodes w step) (step_length nodes w step ∙ count) out run.1

history_is : (nodes n : ℕ) (steps : List Step) → RunFrom nodes (start nodes) steps
    → history (trace_in (histories_of nodes steps)) n ≡ map claim_of (history_in n nodes (start nodes) steps)
history_is nodes n steps run = elim (cases_lt n nodes) [
  | inr out ↦ none_past (trace_in (histories_of nodes steps)) n (let many = as_many nodes steps in omega (arith, many, out))
      ∙ sym (ap (map claim_of) (no_history n nodes steps (start nodes) (length_openings 0 nodes) out run))
  | inl within ↦ (let o = at_place (start nodes).states n (let many = length_openings 0 nodes in omega (arith, many, within)) in
      ap claims_of (slice_get-map (λ (h : List Entry). map claim_of h) (histories_of nodes steps) n
      ∙ ap (λ (h : Option (List Entry)). option_map (map claim_of) h) (history_at nodes 0 n nodes steps o.0 n (omega arith) o.1)))
]
  where
    as_many : (k : ℕ) (steps : List Step) → length (trace_in (histories_of k steps)) ≡ k
    as_many k steps = length-map (histories_of k steps) (λ (h : List Entry). map claim_of h) ∙ how_many k 0 k steps

-- in the order of the steps all can be taken
ordered_by : (nodes slots : ℕ) (acts : List Act) (trace : List (List Claim)) → (of : IsTraceOf nodes slots acts trace)
    → IsOrder trace (turned of.steps [])
ordered_by nodes slots acts trace of =
    let run = all_acts_run nodes slots (start nodes) acts of.steps of.is_run in
    let hs = trace_in (histories_of nodes of.steps) in
    subst (λ (hs : List (List Claim)). IsOrder hs (turned of.steps [])) (sym of.of_histories) (to_the_end nodes hs of.steps (start nodes) []
    (record {
      many = length-map (histories_of nodes of.steps) (λ (h : List Entry). map claim_of h) ∙ how_many nodes 0 nodes of.steps;
      within = λ n. omega arith;
      states = λ n s is. sym (opened nodes 0 n s n (omega arith) is);
      sent = λ m is. absurd is;
      legal = tt;
    }) (λ n. history_is nodes n of.steps run) run)

pub traced_is_run : (nodes slots : ℕ) (acts : List Act) (trace : List (List Claim)) → IsTraceOf nodes slots acts trace → IsRun trace
traced_is_run nodes slots acts trace of = let ordered = ordered_by nodes slots acts trace of in (turned of.steps [], ordered.0, ordered.1)

pub recorded_order : (nodes slots : ℕ) (acts : List Act) (trace : List (List Claim)) (order : Order)
    → IsRecordOf nodes slots acts trace order → IsOrder trace (reverse order.nodes.items)
recorded_order nodes slots acts trace order of =
    subst (IsOrder trace) (turned_is of.run.steps [] ∙ append-nil (reverse (nodes_in of.run.steps))
    ∙ ap (λ (ns : List ℕ). reverse ns) (sym of.turns.nodes)) (ordered_by nodes slots acts trace of.run)
