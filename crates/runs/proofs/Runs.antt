-- A run of a cluster, seen from each node, is a bundle of histories.
use Rattle.std.proofs.Common.{◌≡◌, ◌≢◌, ◌⊎◌, ℕ, zero, suc, ◌+◌, ◌<◌, Bool, true, false, List, [], ◌∷◌, ◌++◌, length, slice_get, refl, sym}
use Rattle.std.proofs.Common.{◌∙◌, ap, subst, inl, inr, arith, Option, Some, None, map}
use Rattle.std.specs.Prelude.{if◌then◌else◌, ◌==◌, slice_set, slice_index_or, Result, Ok, Err}
use Rattle.std.proofs.lemmas.Bool.Decides.{nat_tests}
use Rattle.wire_msg.specs.Envelope.{Envelope}
use Rattle.histories.specs.Lists.{IsAmong}
use Rattle.histories.specs.NodeState.{NodeState, opening}
use Rattle.histories.specs.declared.history_event.HistoryEvent.{HistoryEvent}
use Rattle.histories.specs.HistoryEvent.{Entry, event_of, brought, AreAddressed}
use Rattle.histories.specs.After.{after, sent_at}
use Rattle.histories.specs.Possible.{IsPossible}
use Rattle.histories.specs.History.{Follows, brought_in, sent_in}
use Rattle.histories.proofs.PublicLaws.{eq_nat, among_left, among_right, among_either, sent_of_one, each_append}
use Rattle.sim_net.specs.declared.fault.NetFault.{NetFault}
use Rattle.sim_net.specs.declared.fault.NetFault.TheVariants.{NoSuch, Lost, Cut}
use Rattle.sim_net.specs.Network.{Network, is_cut, message_at, delivery}
use Rattle.std.specs.List.{range_with_len}
use Rattle.runs.specs.World.{World, start, node_in}
use Rattle.runs.specs.Step.{Step, Takes, Changes, Denies, world_after}
use Rattle.runs.specs.Run.{IsBrought, RunFrom, world_at, history_in, histories_from, histories_of, RunsAreBundles}

-- what stands at a place
pub at_place : {A : Type 0} (xs : List A) (n : ℕ) → n < length xs → (x : A) × (slice_get xs n ≡ Some x)
at_place [] n within = absurd (let bad : n < 0 = within in omega (arith, bad))
at_place (x ∷ xs) zero within = (x, refl)
at_place (x ∷ xs) (suc n) within = at_place xs n (omega (arith, within))

-- what holds of each, and of one more
pub all_more : {A : Type 0} (P : ℕ → A → Type 0) (xs : List A) (x : A) → ((k : ℕ) (y : A) → slice_get xs k ≡ Some y → P k y)
    → P (length xs) x → (k : ℕ) (y : A) → slice_get (xs ++ x ∷ []) k ≡ Some y → P k y
all_more {A} P [] x all here zero y at = subst (λ (z : A). P 0 z) (let same : x ≡ y = cc at in same) here
all_more P [] x all here (suc k) y at = absurd cc
all_more P (z ∷ xs) x all here zero y at = all zero y at
all_more {A} P (z ∷ xs) x all here (suc k) y at = all_more (λ (j : ℕ) (a : A). P (suc j) a) xs x (λ j a is. all (suc j) a is) here k y at

-- a cell that is set, and the others
pub get_set_same : {A : Type 0} (xs : List A) (n : ℕ) (x y : A) → slice_get xs n ≡ Some x → slice_get (slice_set xs n y) n ≡ Some y
get_set_same [] n x y at = absurd cc
get_set_same (z ∷ xs) zero x y at = refl
get_set_same (z ∷ xs) (suc n) x y at = get_set_same xs n x y at

pub get_set_other : {A : Type 0} (xs : List A) (n m : ℕ) (y : A) → n ≢ m → slice_get (slice_set xs m y) n ≡ slice_get xs n
get_set_other [] n m y ne = refl
get_set_other (z ∷ xs) zero zero y ne = absurd (ne refl)
get_set_other (z ∷ xs) zero (suc m) y ne = refl
get_set_other (z ∷ xs) (suc n) zero y ne = refl
get_set_other (z ∷ xs) (suc n) (suc m) y ne = get_set_other xs n m y (λ e. ne (ap suc e))

-- the node that is there
pub node_there : (states : List NodeState) (n : ℕ) (s : NodeState) → slice_get states n ≡ Some s → node_in states n ≡ s
node_there states n s at = rw at refl

-- the node that takes a step is the one after it
pub state_here : (m n nodes : ℕ) (what : HistoryEvent) (states : List NodeState) (s : NodeState) → m ≡ n → slice_get states n ≡ Some s
    → slice_get (slice_set states m (after m nodes (node_in states m) what)) n ≡ Some (after n nodes s what)
state_here m n nodes what states s same at =
    subst (λ (j : ℕ). slice_get (slice_set states j (after j nodes (node_in states j) what)) n ≡ Some (after n nodes s what)) (sym same)
    (subst (λ (x : NodeState). slice_get (slice_set states n (after n nodes x what)) n
    ≡ Some (after n nodes s what)) (sym (node_there states n s at)) (get_set_same states n s (after n nodes s what) at))

pub state_elsewhere : (m n nodes : ℕ) (what : HistoryEvent) (states : List NodeState) → n ≢ m
    → slice_get (slice_set states m (after m nodes (node_in states m) what)) n ≡ slice_get states n
state_elsewhere m n nodes what states ne = get_set_other states n m (after m nodes (node_in states m) what) ne

-- the history of node n follows its own steps
pub history_follows : (n nodes : ℕ) (steps : List Step) (w : World) (s : NodeState) → slice_get w.states n ≡ Some s → RunFrom nodes w steps
    → Follows n nodes s (history_in n nodes w steps)
history_follows n nodes [] w s at run = tt
history_follows n nodes (Takes m number what ∷ steps) w s at run =
    pick (m == n) refl (λ t u. history_follows n nodes steps (world_after nodes w (Takes m number what)) t u run.1)
  where
    pick : (b : Bool) → (m == n) ≡ b
        → ((t : NodeState) → slice_get (world_after nodes w (Takes m number what)).states n ≡ Some t
        → Follows n nodes t (history_in n nodes (world_after nodes w (Takes m number what)) steps))
        → Follows n nodes s ((if b then record { what = what; sent = sent_at m nodes (node_in w.states m) what } ∷ [] else [])
        ++ history_in n nodes (world_after nodes w (Takes m number what)) steps)
    pick true is rest =
        let same : m ≡ n = eq_nat m n is in
        let here : slice_get w.states m ≡ Some s = subst (λ (j : ℕ). slice_get w.states j ≡ Some s) (sym same) at in
        let it : run.0.0 ≡ s = cc (here, run.0.1) in
        let may : IsPossible m nodes s what = subst (λ (x : NodeState). IsPossible m nodes x what) it run.0.2 in (
          subst (λ (j : ℕ). IsPossible j nodes s what) same may,
          ap (λ (x : NodeState). sent_at m nodes x what) (node_there w.states m s here) ∙ ap (λ (j : ℕ). sent_at j nodes s what) same,
          rest (after n nodes s what) (state_here m n nodes what w.states s same at),
        )
    pick false is rest =
        let ne : n ≢ m = grind (arith, nat_tests) in
        rest s (state_elsewhere m n nodes what w.states ne ∙ at)
history_follows n nodes (Changes net ∷ steps) w s at run = history_follows n nodes steps (world_after nodes w (Changes net)) s at run.1
history_follows n nodes (Denies named why ∷ steps) w s at run = history_follows n nodes steps w s at run.1

-- what comes was sent
unless_so : (b : Bool) (why : NetFault) (x m : Envelope) → (if b then Err why else Ok x) ≡ Ok m → x ≡ m
unless_so true why x m h = absurd cc
unless_so false why x m h = cc h

message_sent : (net : Network) (k : ℕ) (m : Envelope) (o : Option Envelope) → slice_get net.sent k ≡ o → message_at net k ≡ Ok m
    → o ≡ Some m
message_sent net k m None is h = (let none : message_at net k ≡ Err NoSuch = rw (is, message_at) refl in absurd cc (none, h))
message_sent net k m (Some x) is h = ap (λ (y : Envelope). Some y)
    (unless_so (slice_index_or net.lost k false) Lost x m (rw (is, message_at) at h))

comes_at : (net : Network) (k : ℕ) (m : Envelope) (r : Result Envelope NetFault) → message_at net k ≡ r → delivery net k ≡ Ok m
    → message_at net k ≡ Ok m
comes_at net k m (Ok x) is h = is ∙ ap (λ (y : Envelope). Ok y)
    (unless_so (is_cut net.cuts x.sender x.receiver) Cut x m (rw (is, delivery) at h))
comes_at net k m (Err why) is h = (let none : delivery net k ≡ Err why = rw (is, delivery) refl in absurd cc (none, h))

pub comes_sent : (net : Network) (k : ℕ) (m : Envelope) → delivery net k ≡ Ok m → slice_get net.sent k ≡ Some m
comes_sent net k m h = message_sent net k m (slice_get net.sent k) refl (comes_at net k m (message_at net k) refl h)

pub get_among : {A : Type 0} (xs : List A) (k : ℕ) (x : A) → slice_get xs k ≡ Some x → IsAmong x xs
get_among [] k x h = absurd cc
get_among (y ∷ xs) zero x h = inl (let e : y ≡ x = cc h in sym e)
get_among (y ∷ xs) (suc k) x h = inr (get_among xs k x h)

pub brought_sent : (w : World) (k : ℕ) (ms : List Envelope) (m : Envelope) → IsBrought w k ms → IsAmong m ms → IsAmong m w.net.sent
brought_sent w k [] m h i = absurd i
brought_sent w k (x ∷ xs) m h i = elim i [
  | inl e ↦ get_among w.net.sent k m (comes_sent w.net k x h.0 ∙ ap (λ (y : Envelope). Some y) (sym e))
  | inr j ↦ brought_sent w k xs m h.1 j
]

-- what was sent stays sent
sent_stays : (nodes : ℕ) (steps : List Step) (w : World) (m : Envelope) → RunFrom nodes w steps → IsAmong m w.net.sent
    → IsAmong m (world_at nodes w steps).net.sent
sent_stays nodes [] w m run i = i
sent_stays nodes (Takes n number what ∷ steps) w m run i =
    sent_stays nodes steps (world_after nodes w (Takes n number what)) m run.1
    (among_left m w.net.sent (sent_at n nodes (node_in w.states n) what) i)
sent_stays nodes (Changes net ∷ steps) w m run i = sent_stays nodes steps (world_after nodes w (Changes net)) m run.1
    (subst (λ (ms : List Envelope). IsAmong m ms) (sym run.0) i)
sent_stays nodes (Denies named why ∷ steps) w m run i = sent_stays nodes steps w m run.1 i

-- what a node is brought was sent in the run
brought_in_run : (n nodes : ℕ) (steps : List Step) (w : World) (m : Envelope) → RunFrom nodes w steps
    → IsAmong m (brought_in (history_in n nodes w steps)) → IsAmong m (world_at nodes w steps).net.sent
brought_in_run n nodes [] w m run i = absurd i
brought_in_run n nodes (Takes j number what ∷ steps) w m run i =
    pick (j == n) i (λ k. brought_in_run n nodes steps (world_after nodes w (Takes j number what)) m run.1 k)
  where
    pick : (b : Bool)
        → IsAmong m (brought_in ((if b then record { what = what; sent = sent_at j nodes (node_in w.states j) what } ∷ [] else [])
        ++ history_in n nodes (world_after nodes w (Takes j number what)) steps))
        → (IsAmong m (brought_in (history_in n nodes (world_after nodes w (Takes j number what)) steps))
        → IsAmong m (world_at nodes (world_after nodes w (Takes j number what)) steps).net.sent)
        → IsAmong m (world_at nodes (world_after nodes w (Takes j number what)) steps).net.sent
    pick true i rest = elim (among_either m (brought (event_of what))
        (brought_in (history_in n nodes (world_after nodes w (Takes j number what)) steps)) i) [
          | inl l ↦ sent_stays nodes steps (world_after nodes w (Takes j number what)) m run.1
              (among_left m w.net.sent (sent_at j nodes (node_in w.states j) what)
              (brought_sent w number (brought (event_of what)) m run.0.3 l))
          | inr r ↦ rest r
        ]
    pick false i rest = rest i
brought_in_run n nodes (Changes net ∷ steps) w m run i = brought_in_run n nodes steps (world_after nodes w (Changes net)) m run.1 i
brought_in_run n nodes (Denies named why ∷ steps) w m run i = brought_in_run n nodes steps w m run.1 i

-- what a node is brought is addressed to it
addressed_in_run : (n nodes : ℕ) (steps : List Step) (w : World) → RunFrom nodes w steps
    → AreAddressed n (brought_in (history_in n nodes w steps))
addressed_in_run n nodes [] w run = tt
addressed_in_run n nodes (Takes j number what ∷ steps) w run =
    pick (j == n) refl (addressed_in_run n nodes steps (world_after nodes w (Takes j number what)) run.1)
  where
    pick : (b : Bool) → (j == n) ≡ b → AreAddressed n (brought_in (history_in n nodes (world_after nodes w (Takes j number what)) steps))
        → AreAddressed n (brought_in ((if b then record { what = what; sent = sent_at j nodes (node_in w.states j) what } ∷ [] else [])
        ++ history_in n nodes (world_after nodes w (Takes j number what)) steps))
    pick true is rest = each_append (λ (m : Envelope). m.receiver ≡ n) (brought (event_of what))
        (brought_in (history_in n nodes (world_after nodes w (Takes j number what)) steps))
        (subst (λ (k : ℕ). AreAddressed k (brought (event_of what))) (eq_nat j n is) run.0.4) rest
    pick false is rest = rest
addressed_in_run n nodes (Changes net ∷ steps) w run = addressed_in_run n nodes steps (world_after nodes w (Changes net)) run.1
addressed_in_run n nodes (Denies named why ∷ steps) w run = addressed_in_run n nodes steps w run.1

-- a message that some node of the run sent
record SentInRun (m : Envelope) (nodes : ℕ) (w : World) (steps : List Step) : Type 0 where
  node : ℕ
  state : NodeState
  is_node : slice_get w.states node ≡ Some state
  sent : IsAmong m (sent_in (history_in node nodes w steps))

-- a node after a step was one before it
pub was_node : (j n : ℕ) (states : List NodeState) (new s : NodeState) → slice_get (slice_set states j new) n ≡ Some s
    → (t : NodeState) × (slice_get states n ≡ Some t)
was_node j n [] new s at = absurd cc
was_node zero zero (x ∷ states) new s at = (x, refl)
was_node (suc j) zero (x ∷ states) new s at = (x, refl)
was_node zero (suc n) (x ∷ states) new s at = (s, at)
was_node (suc j) (suc n) (x ∷ states) new s at = was_node j n states new s at

-- all that was sent by the end was there at the start, or a node of the run sent it
sent_by_node : (nodes : ℕ) (steps : List Step) (w : World) (m : Envelope) → RunFrom nodes w steps
    → IsAmong m (world_at nodes w steps).net.sent
    → IsAmong m w.net.sent ⊎ SentInRun m nodes w steps
sent_by_node nodes [] w m run i = inl i
sent_by_node nodes (Takes j number what ∷ steps) w m run i =
    elim (sent_by_node nodes steps (world_after nodes w (Takes j number what)) m run.1 i) [
      | inl l ↦ elim (among_either m w.net.sent (sent_at j nodes (node_in w.states j) what) l) [
        | inl before ↦ inl before
        | inr now ↦ inr (record { node = j; state = run.0.0; is_node = run.0.1; sent = by_self now })
      ]
      | inr later ↦ inr (let was = was_node j later.node w.states _ later.state later.is_node in
          record { node = later.node; state = was.0; is_node = was.1; sent = after_other later.node (j == later.node) later.sent })
    ]
  where
    by_self : IsAmong m (sent_at j nodes (node_in w.states j) what)
        → IsAmong m (sent_in (history_in j nodes w (Takes j number what ∷ steps)))
    by_self now = let itself : (j == j) ≡ true = grind (arith, nat_tests) in
        rw itself (among_left m (sent_at j nodes (node_in w.states j) what)
        (sent_in (history_in j nodes (world_after nodes w (Takes j number what)) steps)) now)

    after_other : (n : ℕ) (b : Bool) → IsAmong m (sent_in (history_in n nodes (world_after nodes w (Takes j number what)) steps))
        → IsAmong m (sent_in ((if b then record { what = what; sent = sent_at j nodes (node_in w.states j) what } ∷ [] else [])
        ++ history_in n nodes (world_after nodes w (Takes j number what)) steps))
    after_other n true k = among_right m (sent_at j nodes (node_in w.states j) what)
        (sent_in (history_in n nodes (world_after nodes w (Takes j number what)) steps)) k
    after_other n false k = k
sent_by_node nodes (Changes net ∷ steps) w m run i = elim (sent_by_node nodes steps (world_after nodes w (Changes net)) m run.1 i) [
  | inl l ↦ inl (subst (λ (ms : List Envelope). IsAmong m ms) run.0 l)
  | inr x ↦ inr (record { node = x.node; state = x.state; is_node = x.is_node; sent = x.sent })
]
sent_by_node nodes (Denies named why ∷ steps) w m run i = elim (sent_by_node nodes steps w m run.1 i) [
  | inl l ↦ inl l
  | inr x ↦ inr (record { node = x.node; state = x.state; is_node = x.is_node; sent = x.sent })
]

-- the nodes and their histories stand at the same places
pub opened : (k i j : ℕ) (s : NodeState) (m : ℕ) → m ≡ i + j → slice_get (map opening (range_with_len i k)) j ≡ Some s → s ≡ opening m
opened zero i j s m is at = absurd cc
opened (suc k) i zero s m is at =
    let number : i ≡ m = omega (arith, is) in
    let here : opening i ≡ s = cc at in
    sym here ∙ ap opening number
opened (suc k) i (suc j) s m is at = opened k (i + 1) j s m (omega (arith, is)) at

pub opened_at : (k i j : ℕ) → j < k → slice_get (map opening (range_with_len i k)) j ≡ Some (opening (i + j))
opened_at zero i j lt = absurd (omega (arith, lt))
opened_at (suc k) i zero lt = ap (λ (x : ℕ). Some (opening x)) (let n : i ≡ i + 0 = omega arith in n)
opened_at (suc k) i (suc j) lt = opened_at k (i + 1) j (omega (arith, lt))
    ∙ ap (λ (x : ℕ). Some (opening x)) (let n : i + 1 + j ≡ i + suc j = omega arith in n)

pub starts_opened : (nodes n : ℕ) → n < nodes → slice_get (start nodes).states n ≡ Some (opening n)
starts_opened nodes n lt = opened_at nodes 0 n lt ∙ ap (λ (x : ℕ). Some (opening x)) (let e : 0 + n ≡ n = omega arith in e)

pub history_at : (k i j nodes : ℕ) (steps : List Step) (s : NodeState) (m : ℕ) → m ≡ i + j
    → slice_get (map opening (range_with_len i k)) j ≡ Some s
    → slice_get (histories_from i k nodes steps) j ≡ Some (history_in m nodes (start nodes) steps)
history_at zero i j nodes steps s m is at = absurd cc
history_at (suc k) i zero nodes steps s m is at =
    let number : i ≡ m = omega (arith, is) in ap (λ (x : ℕ). Some (history_in x nodes (start nodes) steps)) number
history_at (suc k) i (suc j) nodes steps s m is at = history_at k (i + 1) j nodes steps s m (omega (arith, is)) at

-- a history of the list is that of a node
pub record IsNodeOf (k i j nodes : ℕ) (steps : List Step) (h : List Entry) (m : ℕ) : Type 0 where
  pub is_node : slice_get (map opening (range_with_len i k)) j ≡ Some (opening m)
  pub is_history : h ≡ history_in m nodes (start nodes) steps

pub node_of : (k i j nodes : ℕ) (steps : List Step) (h : List Entry) (m : ℕ) → m ≡ i + j
    → slice_get (histories_from i k nodes steps) j ≡ Some h → IsNodeOf k i j nodes steps h m
node_of zero i j nodes steps h m is at = absurd cc
node_of (suc k) i zero nodes steps h m is at =
    let number : i ≡ m = omega (arith, is) in
    let same : history_in i nodes (start nodes) steps ≡ h = cc at in record {
      is_node = ap (λ (x : ℕ). Some (opening x)) number;
      is_history = sym same ∙ ap (λ (x : ℕ). history_in x nodes (start nodes) steps) number;
    }
node_of (suc k) i (suc j) nodes steps h m is at =
    let rest = node_of k (i + 1) j nodes steps h m (omega (arith, is)) at in
    record { is_node = rest.is_node; is_history = rest.is_history }

pub how_many : (k i nodes : ℕ) (steps : List Step) → length (histories_from i k nodes steps) ≡ k
how_many zero i nodes steps = refl
how_many (suc k) i nodes steps = ap suc (how_many k (i + 1) nodes steps)

pub runs_are_bundles : RunsAreBundles
runs_are_bundles nodes steps run = record {
  follows = λ n h at.
      (let it = node_of nodes 0 n nodes steps h n (omega arith) at in
      rw (how_many nodes 0 nodes steps, it.is_history) (history_follows n nodes steps (start nodes) (opening n) it.is_node run));
  delivers = λ n h at m i.
      (let it = node_of nodes 0 n nodes steps h n (omega arith) at in
      let brought_here : IsAmong m (brought_in (history_in n nodes (start nodes) steps)) =
      subst (λ (x : List Entry). IsAmong m (brought_in x)) it.is_history i in
      elim (sent_by_node nodes steps (start nodes) m run (brought_in_run n nodes steps (start nodes) m run brought_here)) [
        | inl none ↦ absurd none
        | inr x ↦ sent_of_one m (histories_of nodes steps) x.node (history_in x.node nodes (start nodes) steps)
            (history_at nodes 0 x.node nodes steps x.state x.node (omega arith) x.is_node) x.sent
      ]);
  addressed = λ n h at.
      (let it = node_of nodes 0 n nodes steps h n (omega arith) at in
      rw it.is_history (addressed_in_run n nodes steps (start nodes) run));
}
