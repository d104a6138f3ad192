-- A turn keeps what is always true.
use Rattle.std.proofs.Common.{◌≡◌, ℕ, ◌+◌, ◌*◌, ◌<◌, ◌==◌, IsSome, IfOk, IfErr, Result, Ok, Err, Bool, true, List, [], ◌∷◌}
use Rattle.std.proofs.Common.{◌++◌, length, slice_index, slice_index_or, refl, ap, sym, ◌∙◌, subst, arith, append_assoc}
use Rattle.std.proofs.lemmas.Bool.{cond_both}
use Rattle.std.proofs.lemmas.List.{append-nil, map-append, length-append}
use Rattle.wire_msg.specs.Envelope.{Envelope}
use Rattle.sector_disk.specs.Memory.{Memory, state_of}
use Rattle.link_ring.specs.Sides.{Side}
use Rattle.durable_node.specs.Node.{Node, Stands}
use Rattle.histories.specs.NodeState.{NodeState, opening}
use Rattle.histories.specs.HistoryEvent.{Entry as NodeEntry, brought, event_of}
use Rattle.histories.specs.After.{after, sent_at}
use Rattle.histories.specs.History.{replay, sent_in, FollowsSlots, SlotsGoOn}
use Rattle.histories.specs.Possible.{IsPossible, IsOfSlots}
use Rattle.histories.proofs.PublicLaws.{history_goes_on}
use Rattle.node_lock.specs.declared.run.Run.{Run}
use Rattle.node_lock.specs.declared.worker.Worker.{Worker}
use Rattle.node_lock.specs.Asking.{Asked}
use Rattle.node_lock.specs.Doing.{Gives, StandsForSome, TurnDid}
use Rattle.node_lock.specs.Path.{Path}
use Rattle.node_lock.specs.Planned.{no_turns}
use Rattle.node_lock.specs.Sending.{NotesLost, addressed_to, SameLink, SameSides, SentTo, SentOn}
use Rattle.node_lock.specs.History.{Turn, IsReplay, PlanStep, entries_of, polled, from_link, listed}
use Rattle.node_lock.specs.declared.held.TheConstants.{MOST_ENTRIES}
use Rattle.node_lock.specs.declared.held.HeldFault.{HeldFault}
use Rattle.node_lock.specs.declared.held.HeldFault.TheVariants.{NoMemory}
use Rattle.node_lock.specs.HeldView.{HeldView, HeldInvariant, AreEnds, IsPutLink, IsTakeLink, IsOther, Takes, Unserved}
use Rattle.node_lock.proofs.Carried.{puts_append, addressed-append}
use Rattle.node_lock.proofs.Comings.{Comes, turn_comes, turn_sectors}
use Rattle.node_lock.proofs.Drawing.{more_numbers}
use Rattle.node_lock.proofs.Losing.{lost_more}
use Rattle.node_lock.specs.Drawing.{IsGiven}
use Rattle.node_lock.proofs.Wearing.{disk_before, turn_fails}
use Rattle.node_lock.specs.Wearing.{AreaRises, AreaWithin, Fails, IsAreaExhausted, NoneAreaExhausted}

-- one step more
pub path_snoc : {S E : Type 0} (step : S → E → S → Type 0) (s : S) (es : List E) (e : E) (t u : S) → Path step s es t → step t e u
    → Path step s (es ++ e ∷ []) u
path_snoc {S} step s [] e t u p q = (u, subst (λ (x : S). step x e u) (sym p) q, refl)
path_snoc step s (x ∷ es) e t u p q = (p.0, p.1, path_snoc step p.0 es e t u p.2 q)

entries-snoc : (ts : List Turn) (t : Turn) → entries_of (ts ++ t ∷ []) ≡ entries_of ts ++ t.entry ∷ []
entries-snoc ts t = map-append (λ (x : Turn). x.entry) ts (t ∷ [])

sent-snoc : (es : List NodeEntry) (e : NodeEntry) → sent_in (es ++ e ∷ []) ≡ sent_in es ++ e.sent
sent-snoc [] e = append-nil e.sent
sent-snoc (x ∷ es) e = ap (λ l. x.sent ++ l) (sent-snoc es e) ∙ sym (append_assoc x.sent (sent_in es) e.sent)

all_sent-snoc : (ts : List Turn) (t : Turn) → sent_in (entries_of (ts ++ t ∷ [])) ≡ sent_in (entries_of ts) ++ t.entry.sent
all_sent-snoc ts t = ap sent_in (entries-snoc ts t) ∙ sent-snoc (entries_of ts) t.entry

pub polled-snoc : (plan : List ℕ) (j : ℕ) (ts : List Turn) (t : Turn)
    → polled plan j (ts ++ t ∷ []) ≡ polled plan j ts ++ from_link plan j t.index (brought (event_of t.entry.what))
polled-snoc plan j [] t = append-nil (from_link plan j t.index (brought (event_of t.entry.what)))
polled-snoc plan j (x ∷ ts) t =
    ap (λ l. from_link plan j x.index (brought (event_of x.entry.what)) ++ l) (polled-snoc plan j ts t)
    ∙ sym (append_assoc (from_link plan j x.index (brought (event_of x.entry.what))) (polled plan j ts)
    (from_link plan j t.index (brought (event_of t.entry.what))))

-- a link to another node, after one turn more
put_link_more : (run : Run) (ts : List Turn) (t : Turn) (p q : Side) → IsPutLink run ts p → SentTo t.entry.sent p q
    → IsPutLink run (ts ++ t ∷ []) q
put_link_more run ts t p q h s = record {
  sender = s.same.sender ∙ h.sender;
  capacity = s.same.capacity ∙ h.capacity;
  messages = rw (
    s.same.capacity,
    s.same.receiver,
    all_sent-snoc ts t,
    addressed-append p.receiver (sent_in (entries_of ts)) t.entry.sent,
  ) (puts_append p.capacity [] (addressed_to p.receiver (sent_in (entries_of ts))) p.messages (addressed_to p.receiver t.entry.sent)
      q.messages h.messages s.messages);
}

-- ---- the state, after one turn more

-- the node stands for a state, and the ends of its links are in the order of the other nodes
pub ready_in : (h : HeldView) → HeldInvariant h → StandsForSome h.node × AreEnds h.node.id h.puts
ready_in h k = (
  (_, k.replay.stands),
  λ i d lt. subst (λ (own : ℕ). IsOther own i (slice_index_or h.puts i d).receiver) (sym k.id)
      (k.puts i d lt).1,
)

comes_in : (h : HeldView) (asked : Asked) (t : Turn) (new : Node Memory) → HeldInvariant h
    → TurnDid h.node asked t.entry.what t.entry.sent new → Comes h.node
    (replay h.run.node h.run.nodes (opening h.run.node) (entries_of h.history)) asked t.entry.what t.entry.sent new
comes_in h asked t new k did = turn_comes h.node new asked t.entry.what t.entry.sent did
    (replay h.run.node h.run.nodes (opening h.run.node) (entries_of h.history)) k.replay.stands

replay_at : (id nodes : ℕ) (ts : List Turn) (t : Turn) (asked : Asked) (old new : Node Memory) → old.id ≡ id → old.nodes ≡ nodes
    → IsReplay id nodes (entries_of ts) old
    → Comes old (replay id nodes (opening id) (entries_of ts)) asked t.entry.what t.entry.sent new
    → IsReplay id nodes (entries_of (ts ++ t ∷ [])) new
replay_at id nodes ts t asked old new same_id same_nodes r here =
    let s = replay id nodes (opening id) (entries_of ts) in
    let what = t.entry.what in
    let may : IsPossible id nodes s what = subst (λ (n : ℕ). IsPossible id n s what) same_nodes
    (subst (λ (n : ℕ). IsPossible n old.nodes s what) same_id here.possible) in
    let on = history_goes_on id nodes (opening id) (entries_of ts) t.entry r.follows may (here.is_sent
    ∙ (λ i. sent_at (same_id i) (same_nodes i) s what)) in
    rw (entries-snoc ts t) (record {
      follows = on.0;
      stands = subst (λ (x : NodeState). Stands state_of new x) ((λ i. after (same_id i) (same_nodes i) s what) ∙ sym on.1) here.stands;
    })

replay_more : (h : HeldView) (asked : Asked) (t : Turn) (new : Node Memory) → HeldInvariant h
    → TurnDid h.node asked t.entry.what t.entry.sent new → IsReplay h.run.node h.run.nodes (entries_of (h.history ++ t ∷ [])) new
replay_more h asked t new k did = replay_at h.run.node h.run.nodes h.history t asked h.node new k.id k.nodes k.replay
    (comes_in h asked t new k did)

-- a history grows by what a journal of so many slots allows
slots_go_on : SlotsGoOn
slots_go_on slots self nodes s [] e fits may = (may, tt)
slots_go_on slots self nodes s (x ∷ es) e fits may = (fits.0, slots_go_on slots self nodes (after self nodes s x.what) es e fits.1 may)

slots_more : (h : HeldView) (asked : Asked) (t : Turn) (new : Node Memory) → HeldInvariant h
    → TurnDid h.node asked t.entry.what t.entry.sent new → FollowsSlots h.run.slots h.run.node h.run.nodes (opening h.run.node)
    (entries_of (h.history ++ t ∷ []))
slots_more h asked t new k did =
    let s = replay h.run.node h.run.nodes (opening h.run.node) (entries_of h.history) in
    let what = t.entry.what in
    let here = (comes_in h asked t new k did).of_slots h.run.slots k.most_slots k.sectors in
    let may : IsOfSlots h.run.slots h.run.node h.run.nodes s what =
    subst (λ (n : ℕ). IsOfSlots h.run.slots h.run.node n s what) k.nodes
    (subst (λ (n : ℕ). IsOfSlots h.run.slots n h.node.nodes s what) k.id here) in
    rw (entries-snoc h.history t) (slots_go_on h.run.slots h.run.node h.run.nodes (opening h.run.node) (entries_of h.history) t.entry
    k.slots may)

-- what is written down may come of what was asked
pub gives_in : (h : HeldView) (asked : Asked) (t : Turn) (new : Node Memory) → HeldInvariant h
    → TurnDid h.node asked t.entry.what t.entry.sent new → Gives asked t.entry.what
gives_in h asked t new k did = (comes_in h asked t new k did).gives

none_area_exhausted_more : (es : List NodeEntry) (e : NodeEntry) → NoneAreaExhausted es → (IsAreaExhausted e.what → ⊥)
    → NoneAreaExhausted (es ++ e ∷ [])
none_area_exhausted_more [] e all none = (none, tt)
none_area_exhausted_more (x ∷ es) e all none = (all.0, none_area_exhausted_more es e all.1 none)

-- one turn more, and all that goes with it
pub keeps : (h n : HeldView) (asked : Asked) (e : Turn) → HeldInvariant h → n.run ≡ h.run → n.plans ≡ h.plans
    → n.history ≡ h.history ++ e ∷ [] → n.node.id ≡ h.node.id → n.node.nodes ≡ h.node.nodes → PlanStep h.plans h.turns e n.turns
    → TurnDid h.node asked e.entry.what e.entry.sent n.node → SentOn e.entry.sent h.puts n.puts
    → NotesLost (length h.history) e.entry.sent h.lost n.lost h.puts n.puts → IsGiven h.drawn n.drawn h.numbers n.numbers
    → AreaRises h.node.disk n.node.disk e.entry.what
    → length n.takes ≡ length h.takes → ((k : ℕ) (d : Side) → k < length h.takes
    → IsTakeLink n (slice_index_or n.takes k d) × ((slice_index_or n.takes k d).sender ≡ (slice_index_or h.takes k d).sender))
    → (IsSome n.waiting → n.turns.intake < length n.plans.intake) → length h.history < MOST_ENTRIES
    → HeldInvariant n
keeps h n asked e k run plans history id nodes plan did sent lost number area len takes waiting few = record {
  id = id ∙ (k.id ∙ ap (λ r. r.node) (sym run));
  nodes = nodes ∙ (k.nodes ∙ ap (λ r. r.nodes) (sym run));
  member = rw run k.member;
  replay = rw (run, history) (replay_more h asked e n.node k did);
  least_slots = rw run k.least_slots;
  most_slots = rw run k.most_slots;
  sectors = rw run (turn_sectors (8 + 4 * h.run.slots) h.node n.node asked e.entry.what e.entry.sent did k.sectors);
  slots = rw (run, history) (slots_more h asked e n.node k did);
  turns = rw (plans, history) (path_snoc (PlanStep h.plans) no_turns h.history e h.turns n.turns k.turns plan);
  links = rw run (omega (arith, sent.len, k.links));
  puts = λ i d lt.
      let lt' : i < length h.puts = omega (arith, sent.len) in
      let old = k.puts i d lt' in
      let s = sent.each i d lt' in
      rw (run, history) (
        put_link_more h.run h.history e (slice_index_or h.puts i d) (slice_index_or n.puts i d) old.0 s,
        subst (IsOther h.run.node i) (sym s.same.receiver) old.1,
      );
  take_links = rw run (omega (arith, len, k.take_links));
  takes = λ i d lt.
      let lt' : i < length h.takes = omega (arith, len) in
      let t = takes i d lt' in
      let other : IsOther n.run.node i (slice_index_or h.takes i d).sender = rw run ((k.takes i d lt').1) in
      (t.0, subst (IsOther n.run.node i) (sym t.1) other);
  intake = rw (run, plans) k.intake;
  waiting = waiting;
  few = rw history (let long = length-append h.history (e ∷ []) in omega (arith, long, few));
  lost = rw (history, lost.1) (lost_more h.history e h.lost lost.0 h.puts n.puts k.lost sent lost.2);
  numbers = more_numbers h.drawn n.drawn h.numbers n.numbers k.numbers number;
  area = subst (λ (m : ℕ). AreaWithin m n.node.disk) (let long = length-append h.history (e ∷ []) in
      let next : (2 + length h.history) + 1 ≡ 2 + length n.history = omega (arith, long, ap length history) in next)
      (area (2 + length h.history) k.area).0;
  never_area_exhausted = rw (history, entries-snoc h.history e)
      (none_area_exhausted_more (entries_of h.history) e.entry k.never_area_exhausted
      ((area (2 + length h.history) k.area).1 (omega (arith, few))));
  failures = λ disk at.
      let was = disk_before h.node n.node asked e.entry.what e.entry.sent did disk at in
      rw (history, entries-snoc h.history e) (path_snoc Fails 0 (entries_of h.history) e.entry was.0.failures disk.failures
      (k.failures was.0 was.1) (turn_fails h.node n.node asked e.entry.what e.entry.sent did was.0 disk was.1 at));
}

pub from_nothing : (plan : List ℕ) (j i : ℕ) (ms : List Envelope) → ms ≡ [] → from_link plan j i ms ≡ []
from_nothing plan j i ms none = cond_both (slice_index plan i == j) _ _ (λ l. l ≡ []) (λ _. none) (λ _. refl)

-- a turn that polled nothing leaves what was taken as it was
take_link_past : (h n : HeldView) (e : Turn) (t : Side) → IsTakeLink h t → n.run ≡ h.run → n.plans ≡ h.plans
    → n.history ≡ h.history ++ e ∷ [] → n.turns.intake ≡ h.turns.intake → n.waiting ≡ h.waiting → brought (event_of e.entry.what) ≡ []
    → IsTakeLink n t
take_link_past h n e t k run plans history turns waiting none =
    let plan = h.plans.intake in
    let none' = from_nothing plan t.sender e.index (brought (event_of e.entry.what)) none in
    let same : polled plan t.sender (h.history ++ e ∷ []) ≡ polled plan t.sender h.history = polled-snoc plan t.sender h.history e
    ∙ (ap (λ l. polled plan t.sender h.history ++ l) none' ∙ append-nil (polled plan t.sender h.history)) in
    record {
      receiver = k.receiver ∙ ap (λ r. r.node) (sym run);
      messages = rw (plans, history, turns, waiting) (k.messages
          ∙ ap (λ l. l ++ from_link plan t.sender h.turns.intake (listed h.waiting)) (sym same));
    }

-- one entry more of a worker that doesn't poll
pub keeps_past : (h n : HeldView) (asked : Asked) (e : Turn) → HeldInvariant h → n.run ≡ h.run → n.plans ≡ h.plans
    → n.history ≡ h.history ++ e ∷ [] → n.node.id ≡ h.node.id → n.node.nodes ≡ h.node.nodes → PlanStep h.plans h.turns e n.turns
    → TurnDid h.node asked e.entry.what e.entry.sent n.node → SentOn e.entry.sent h.puts n.puts
    → NotesLost (length h.history) e.entry.sent h.lost n.lost h.puts n.puts → IsGiven h.drawn n.drawn h.numbers n.numbers
    → AreaRises h.node.disk n.node.disk e.entry.what
    → n.takes ≡ h.takes → n.turns.intake ≡ h.turns.intake → n.waiting ≡ h.waiting → brought (event_of e.entry.what) ≡ []
    → length h.history < MOST_ENTRIES
    → HeldInvariant n
keeps_past h n asked e k run plans history id nodes plan did sent lost number area takes turns waiting none few =
    let all : (i : ℕ) (d : Side) → i < length h.takes → IsTakeLink n (slice_index_or n.takes i d)
    × ((slice_index_or n.takes i d).sender ≡ (slice_index_or h.takes i d).sender) = λ i d lt.
    subst (λ (l : List Side). IsTakeLink n (slice_index_or l i d) × ((slice_index_or l i d).sender ≡ (slice_index_or h.takes i d).sender))
    (sym takes) (take_link_past h n e (slice_index_or h.takes i d) (k.takes i d lt).0 run plans history turns waiting none, refl) in
    let still : IsSome n.waiting → n.turns.intake < length n.plans.intake = rw (waiting, turns, plans) k.waiting in
    keeps h n asked e k run plans history id nodes plan did sent lost number area (ap length takes) all still few

-- ---- what a worker's turn answers

pub taken_by : {F : Type 0} (old new : HeldView) (w w' : Worker) (r : Result Bool F) → w' ≡ w
    → IfOk r (λ b. (b ≡ true) × ((e : Turn) × Takes old w e new)) → r ≡ Ok true → (e : Turn) × Takes old w' e new
taken_by old new w w' (Ok b) is h ok = subst (λ (x : Worker). (e : Turn) × Takes old x e new) (sym is) h.1
taken_by old new w w' (Err f) is h ok = absurd cc

pub unserved_in : (old new : HeldView) (r : Result Bool HeldFault) → IfErr r (λ f. (f ≡ NoMemory) × Unserved old new) → r ≡ Err NoMemory
    → Unserved old new
unserved_in old new (Ok b) h is = absurd cc
unserved_in old new (Err f) h is = h.1

-- ---- room alone was made before the turn

same_link : (a b c : Side) → SameLink a b → SameLink b c → SameLink a c
same_link a b c p q = record { sender = q.sender ∙ p.sender; receiver = q.receiver ∙ p.receiver; capacity = q.capacity ∙ p.capacity }

pub same_again : (sides : List Side) → SameSides sides sides
same_again sides = record { len = refl; each = λ k d lt. (record { sender = refl; receiver = refl; capacity = refl }, refl, refl) }

pub sent_since : (sent : List Envelope) (a b c : List Side) → SameSides a b → SentOn sent b c → SentOn sent a c
sent_since sent a b c p q = record {
  len = q.len ∙ p.len;
  each = λ k d lt.
      let one = p.each k d lt in
      let two = q.each k d (let len = p.len in omega (arith, lt, len)) in
      record {
        same = same_link (slice_index_or a k d) (slice_index_or b k d) (slice_index_or c k d) one.0 two.same;
        messages = rw (← one.0.capacity, ← one.0.receiver, ← one.1) two.messages;
      };
}
