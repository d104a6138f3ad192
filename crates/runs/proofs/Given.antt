-- The groups that a run names were given before, each of them once.
use Rattle.std.proofs.Common.{◌≡◌, ℕ, zero, suc, ◌+◌, ◌<◌, ◌≤◌, List, [], ◌∷◌, ◌++◌, map, slice_get, refl, sym, ◌∙◌}
use Rattle.std.proofs.Common.{ap, subst, inl, inr, arith, Option, Some, IfSome, append_assoc}
use Rattle.job_model.specs.declared.work.Work.{Work}
use Rattle.std.proofs.lemmas.List.{append-nil}
use Rattle.std.proofs.lemmas.Option.{IfSome_then, slice_get_within}
use Rattle.group_task.specs.Group.{Group}
use Rattle.group_task.specs.Assignment.{Assignment}
use Rattle.job_model.specs.declared.node_command.NodeCommand.{NodeCommand as Command}
use Rattle.job_model.specs.declared.node_command.NodeCommand.TheVariants.{Raise}
use Rattle.job_model.specs.Durable.{Durable}
use Rattle.job_model.specs.Fold.{after_wanted}
use Rattle.wire_msg.specs.Envelope.{Envelope}
use Rattle.wire_msg.specs.declared.body.Body.{Body}
use Rattle.wire_msg.specs.declared.body.Body.TheVariants.{Ready, Work as WorkMessage, Done as DoneMessage}
use Rattle.node_core.specs.declared.event.Event.{Event}
use Rattle.wire_msg.specs.Kinds.{group_in}
use Rattle.node_core.specs.Words.{own_group}
use Rattle.node_core.specs.State.{State}
use Rattle.histories.specs.Lists.{IsAmong}
use Rattle.histories.specs.NodeState.{NodeState, opening, wants_at, settled}
use Rattle.histories.specs.declared.history_event.HistoryEvent.{HistoryEvent}
use Rattle.histories.specs.declared.history_event.HistoryEvent.TheVariants.{Did, Recovered}
use Rattle.histories.specs.declared.history_event.HistoryEvent.TheVariants.{RaiseFailed}
use Rattle.histories.specs.HistoryEvent.{event_of, brought}
use Rattle.histories.specs.After.{after, sent_at, given_at, raised}
use Rattle.histories.specs.Named.{AllHold, StateHolds}
use Rattle.histories.proofs.PublicLaws.{among_left, among_right, among_either, each_append, each_at, each_of, each_more, AnyWork}
use Rattle.histories.proofs.PublicLaws.{any_pending, GivenHold, Knows, SaysIn, Says, entry_does, settled_grows}
use Rattle.std.specs.List.{range_with_len}
use Rattle.runs.specs.World.{World, start, node_in}
use Rattle.runs.specs.Step.{Step, Takes, Changes, Denies, world_after}
use Rattle.runs.specs.Run.{IsBrought, IsAllowed, RunFrom, world_at}
use Rattle.runs.specs.Given.{groups_at, groups_from, groups_of, AllGiven, GivenBefore, IsOnceEach, NoneTwice}
use Rattle.runs.proofs.Keeping.{node_goes_on, run_length, states_keep}
use Rattle.runs.proofs.Opened.{length_openings}
use Rattle.runs.proofs.Runs.{brought_sent, node_there, state_here, opened}

-- what is said names groups
says_names : (P : Group → Type 0) (J : ℕ → ℕ → Work → Type 0) (self sender receiver : ℕ) (made : List Assignment) (event : Option Event)
    (body : Body) → SaysIn P J self made event sender receiver body → IfSome (group_in body) P
says_names P J self sender receiver made event (Ready task) h = h.2
says_names P J self sender receiver made event (WorkMessage group id work) h = h.0
says_names P J self sender receiver made event (DoneMessage id) h = tt
says_names P J self sender receiver made event body h = h

abbrev pub Stronger : (Group → Type 0) → (Group → Type 0) → Type 0
Stronger P Q = (g : Group) → P g → Q g

place_more : (P Q : Group → Type 0) (v : State) → Stronger P Q → StateHolds P v → StateHolds Q v
place_more P Q v sub h = λ up. (sub v.group (h up).0, IfSome_then v.task (h up).1 (λ t. sub t.group))

all_more : (P Q : Group → Type 0) (ms : List Envelope) → Stronger P Q → AllHold P ms → AllHold Q ms
all_more P Q ms sub h = each_more (λ (m : Envelope). IfSome (group_in m.body) P)
    (λ (m : Envelope). IfSome (group_in m.body) Q) ms (λ m named. IfSome_then (group_in m.body) named sub) h

-- what is brought names what was sent
brought_holds : (P : Group → Type 0) (w : World) (k : ℕ) (ms : List Envelope) → AllHold P w.net.sent → IsBrought w k ms → AllHold P ms
brought_holds P w k ms h b = each_of (λ (m : Envelope). IfSome (group_in m.body) P) ms (λ m i.
    each_at (λ (m : Envelope). IfSome (group_in m.body) P) w.net.sent m h (brought_sent w k ms m b i))

given_holds : (P : Group → Type 0) (n : ℕ) (ks : List ℕ) → ((g : Group) → IsAmong g (map (own_group n) ks) → P g) → GivenHold P n ks
given_holds P n [] h = tt
given_holds P n (k ∷ ks) h = (h (own_group n k) (inl refl), given_holds P n ks (λ g i. h g (inr i)))

-- the groups so far, in every node and on the way
step_given : (nodes : ℕ) (w : World) (step : Step) (given : List Group) → AllGiven w given → IsAllowed nodes w step
    → AllGiven (world_after nodes w step) (given ++ groups_at nodes w step)
step_given nodes w (Takes n number what) given all may =
    let s : NodeState = may.0 in
    let now : List Group = given ++ map (own_group n) (given_at n nodes (node_in w.states n) what) in
    let P : Group → Type 0 = λ g. IsAmong g given in
    let Q : Group → Type 0 = λ g. IsAmong g now in
    let sub : Stronger P Q = λ g i. among_left g given (map (own_group n) (given_at n nodes (node_in w.states n) what)) i in
    let new : (g : Group) → IsAmong g (map (own_group n) (given_at n nodes s what)) → Q g =
    λ g i. among_right g given (map (own_group n) (given_at n nodes (node_in w.states n) what)) (rw (node_there w.states n s may.1) i) in
    let row = entry_does Q AnyWork AnyWork n nodes s what may.2 in
    let knows : Knows Q n s.state (given_at n nodes s what) (brought (event_of what)) = record {
      place = place_more P Q s.state sub (all.vectors n s may.1);
      fresh = given_holds Q n (given_at n nodes s what) new;
      heard = all_more P Q (brought (event_of what)) sub (brought_holds P w number (brought (event_of what)) all.messages may.3);
    } in
    let said : AllHold Q (sent_at n nodes s what) = each_more (Says Q AnyWork n row.made (event_of what))
    (λ (m : Envelope). IfSome (group_in m.body) Q) (sent_at n nodes s what)
    (λ m h. says_names Q AnyWork n m.sender m.receiver row.made (event_of what) m.body h)
    (row.says knows (any_pending n s.durable.pending) (any_pending n (after n nodes s what).durable.pending)) in record {
      vectors = states_keep (λ (j : ℕ) (x : NodeState). StateHolds Q x.state) nodes w n number what s may.1 (row.names knows)
          (λ j x was. place_more P Q x.state sub (all.vectors j x was));
      messages = each_append (λ (m : Envelope). IfSome (group_in m.body) Q) w.net.sent (sent_at n nodes (node_in w.states n) what)
          (all_more P Q w.net.sent sub all.messages) (subst (λ (x : NodeState). AllHold Q (sent_at n nodes x what))
          (sym (node_there w.states n s may.1)) said);
    }
step_given nodes w (Changes net) given all may = rw append-nil (record { vectors = all.vectors; messages = rw may all.messages })
step_given nodes w (Denies named why) given all may = rw append-nil all

run_given : (nodes : ℕ) (steps : List Step) (w : World) (given : List Group) → AllGiven w given → RunFrom nodes w steps
    → AllGiven (world_at nodes w steps) (given ++ groups_from nodes w steps)
run_given nodes [] w given all run = rw append-nil all
run_given nodes (step ∷ steps) w given all run =
    rw (← append_assoc) (run_given nodes steps (world_after nodes w step) (given
    ++ groups_at nodes w step) (step_given nodes w step given all run.0) run.1)

opening_among : (k i j m : ℕ) (s : NodeState) → m ≡ i + j → slice_get (map opening (range_with_len i k)) j ≡ Some s
    → IsAmong (own_group m 1) (map (λ (x : ℕ). own_group x 1) (range_with_len i k))
opening_among zero i j m s is at = absurd cc
opening_among (suc k) i zero m s is at = inl (let number : m ≡ i = omega (arith, is) in ap (λ (x : ℕ). own_group x 1) number)
opening_among (suc k) i (suc j) m s is at = inr (opening_among k (i + 1) j m s (omega (arith, is)) at)

pub given_before : GivenBefore
given_before nodes steps run = run_given nodes steps (start nodes) (map (λ (x : ℕ). own_group x 1) (range_with_len 0 nodes)) (record {
  vectors = λ n s at.
      (let is : s ≡ opening n = opened nodes 0 n s n (omega arith) at in
      let among = opening_among nodes 0 n n s (omega arith) at in
      subst (λ (x : NodeState). StateHolds (λ g. IsAmong g (map (λ (x : ℕ). own_group x 1) (range_with_len 0 nodes))) x.state) (sym is)
      (λ up. (among, among)));
  messages = tt;
}) run

-- the counts that an entry gives, between the counter before it and the counter after it
record Raises (self : ℕ) (low high : ℕ) (ks : List ℕ) : Type 0 where
  grows : low ≤ high
  between : (k : ℕ) → IsAmong k ks → (low < k) × (k ≤ high)
  once : IsOnceEach (map (own_group self) ks)

none_raised : (self low high : ℕ) → low ≤ high → Raises self low high []
none_raised self low high le = record { grows = le; between = λ k i. absurd i; once = tt }

one_raised : (self low k : ℕ) → low < k → Raises self low k (k ∷ [])
one_raised self low k lt = record {
  grows = omega arith;
  between = λ j i. elim i [ inl e ↦ (omega (arith, e, lt), omega (arith, e)) | inr none ↦ absurd none ];
  once = (λ (none : ⊥). none, tt);
}

wanted_raises : (self : ℕ) (d : Durable) (wants : Option Command) → Raises self d.counter (after_wanted d wants).counter (raised d wants)
wanted_raises self d (Some Raise) = one_raised self d.counter (d.counter + 1) (omega arith)
wanted_raises self d _ = none_raised self d.counter d.counter (omega arith)

entry_raises : (self nodes : ℕ) (s : NodeState) (what : HistoryEvent)
    → Raises self s.durable.counter (after self nodes s what).durable.counter (given_at self nodes s what)
entry_raises self nodes s (Did event) = wanted_raises self s.durable (wants_at self nodes s event)
entry_raises self nodes s (Recovered kept) = one_raised self s.durable.counter ((settled kept s).counter + 1)
    (omega (arith, settled_grows kept s))
entry_raises self nodes s (RaiseFailed kept) = none_raised self s.durable.counter (settled kept s).counter (settled_grows kept s)
entry_raises self nodes s _ = none_raised self s.durable.counter s.durable.counter (omega arith)

once_append : (xs ys : List Group) → IsOnceEach xs → IsOnceEach ys → ((g : Group) → IsAmong g xs → IsAmong g ys → ⊥) → IsOnceEach (xs ++ ys)
once_append [] ys h k apart = k
once_append (x ∷ xs) ys h k apart = (
  λ i. elim (among_either x xs ys i) [ inl l ↦ h.0 l | inr r ↦ apart x (inl refl) r ],
  once_append xs ys h.1 k (λ g i j. apart g (inr i) j),
)

numbered_parts : (n : ℕ) (ks : List ℕ) (g : Group) → IsAmong g (map (own_group n) ks) → (g.creator ≡ n) × IsAmong g.count ks
numbered_parts n [] g i = absurd i
numbered_parts n (k ∷ ks) g i = elim i [
  | inl e ↦ (ap (λ (x : Group). x.creator) e, inl (ap (λ (x : Group). x.count) e))
  | inr j ↦ (let rest = numbered_parts n ks g j in (rest.0, inr rest.1))
]

-- each group's count is at most its creator's durable counter, and no group was given twice
record Bounded (w : World) (given : List Group) : Type 0 where
  bound : (g : Group) → IsAmong g given → (s : NodeState) × (slice_get w.states g.creator ≡ Some s) × (g.count ≤ s.durable.counter)
  once : IsOnceEach given

step_bounded : (nodes : ℕ) (w : World) (step : Step) (given : List Group) → Bounded w given → IsAllowed nodes w step
    → Bounded (world_after nodes w step) (given ++ groups_at nodes w step)
step_bounded nodes w (Takes n number what) given all may =
    let s : NodeState = may.0 in
    let ks : List ℕ = given_at n nodes s what in
    let raises : Raises n s.durable.counter (after n nodes s what).durable.counter ks = entry_raises n nodes s what in
    let mine : slice_get (world_after nodes w (Takes n number what)).states n ≡ Some (after n nodes s what) =
    state_here n n nodes what w.states s refl may.1 in
    let these : map (own_group n) (given_at n nodes (node_in w.states n) what) ≡ map (own_group n) ks =
    ap (λ (x : NodeState). map (own_group n) (given_at n nodes x what)) (node_there w.states n s may.1) in
    subst (λ (gs : List Group). Bounded (world_after nodes w (Takes n number what)) (given ++ gs)) (sym these) (record {
      bound = λ g i. elim (among_either g given (map (own_group n) ks) i) [
        | inl old ↦ (let was = all.bound g old in
            let on = node_goes_on nodes w (Takes n number what) g.creator was.0 was.1 in (
              on.now,
              on.at,
              elim on.how [
                | inl same ↦ omega (arith, was.2, ap (λ (x : NodeState). x.durable.counter) same)
                | inr it ↦ rw it.3 (omega (arith, was.2, (entry_raises g.creator nodes was.0 it.1).grows))
              ],
            ))
        | inr new ↦ (let parts = numbered_parts n ks g new in (
          after n nodes s what,
          subst (λ (c : ℕ). slice_get (world_after nodes w (Takes n number what)).states c
              ≡ Some (after n nodes s what)) (sym parts.0) mine,
          (raises.between g.count parts.1).1,
        ))
      ];
      once = once_append given (map (own_group n) ks) all.once raises.once (λ g old new.
          (let parts = numbered_parts n ks g new in
          let was = all.bound g old in
          let at : slice_get w.states n ≡ Some was.0 = subst (λ (c : ℕ). slice_get w.states c ≡ Some was.0) parts.0 was.1 in
          let same : was.0 ≡ s = cc (at, may.1) in
          let low : g.count ≤ s.durable.counter = subst (λ (x : NodeState). g.count ≤ x.durable.counter) same was.2 in
          let above : s.durable.counter < g.count = (raises.between g.count parts.1).0 in
          omega (arith, low, above)));
    })
step_bounded nodes w (Changes net) given all may = rw append-nil (record { bound = all.bound; once = all.once })
step_bounded nodes w (Denies named why) given all may = rw append-nil all

run_bounded : (nodes : ℕ) (steps : List Step) (w : World) (given : List Group) → Bounded w given → RunFrom nodes w steps
    → Bounded (world_at nodes w steps) (given ++ groups_from nodes w steps)
run_bounded nodes [] w given all run = rw append-nil all
run_bounded nodes (step ∷ steps) w given all run =
    rw (← append_assoc) (run_bounded nodes steps (world_after nodes w step) (given
    ++ groups_at nodes w step) (step_bounded nodes w step given all run.0) run.1)

openings_bound : (k i : ℕ) (g : Group) → IsAmong g (map (λ (x : ℕ). own_group x 1) (range_with_len i k))
    → (j : ℕ) × (g ≡ own_group (i + j) 1) × (slice_get (map opening (range_with_len i k)) j ≡ Some (opening (i + j)))
openings_bound zero i g h = absurd h
openings_bound (suc k) i g h = elim h [
  | inl e ↦ (
    0,
    e ∙ ap (λ (x : ℕ). own_group x 1) (let n : i ≡ i + 0 = omega arith in n),
    ap (λ (x : ℕ). Some (opening x)) (let n : i ≡ i + 0 = omega arith in n),
  )
  | inr j ↦ (let rest = openings_bound k (i + 1) g j in
      let n : i + 1 + rest.0 ≡ i + suc rest.0 = omega arith in
      (suc rest.0, rest.1 ∙ ap (λ (x : ℕ). own_group x 1) n, rest.2 ∙ ap (λ (x : ℕ). Some (opening x)) n))
]

openings_once : (k i : ℕ) → IsOnceEach (map (λ (x : ℕ). own_group x 1) (range_with_len i k))
openings_once zero i = tt
openings_once (suc k) i = (
  λ h. (let it = openings_bound k (i + 1) (own_group i 1) h in
      let c : i ≡ i + 1 + it.0 = ap (λ (x : Group). x.creator) it.1 in absurd (omega (arith, c))),
  openings_once k (i + 1),
)

all_bounded : (nodes : ℕ) (steps : List Step) → RunFrom nodes (start nodes) steps
    → Bounded (world_at nodes (start nodes) steps) (groups_of nodes steps)
all_bounded nodes steps run = run_bounded nodes steps (start nodes) (map (λ (x : ℕ). own_group x 1) (range_with_len 0 nodes)) (record {
  bound = λ g h.
      (let it = openings_bound nodes 0 g h in
      let creator : g.creator ≡ it.0 = ap (λ (x : Group). x.creator) it.1 ∙ (let n : 0 + it.0 ≡ it.0 = omega arith in n) in (
        opening (0 + it.0),
        subst (λ (c : ℕ). slice_get (map opening (range_with_len 0 nodes)) c
            ≡ Some (opening (0 + it.0))) (sym creator) it.2,
        omega (arith, ap (λ (x : Group). x.count) it.1),
      ));
  once = openings_once nodes 0;
}) run

pub none_twice : NoneTwice
none_twice nodes steps run = (all_bounded nodes steps run).once

-- who gives a group is a node of the cluster
pub given_inside : (nodes : ℕ) (steps : List Step) → RunFrom nodes (start nodes) steps → (g : Group) → IsAmong g (groups_of nodes steps)
    → g.creator < nodes
given_inside nodes steps run g i =
    let it = (all_bounded nodes steps run).bound g i in
    omega (
      arith,
      slice_get_within (world_at nodes (start nodes) steps).states g.creator it.0 it.1,
      run_length nodes steps (start nodes),
      length_openings 0 nodes,
    )
