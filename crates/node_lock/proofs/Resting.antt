-- A turn that wasn't taken keeps what is always true.
use Rattle.std.proofs.Common.{◌≡◌, ℕ, ◌<◌, List, IsSome, length, slice_index_or, refl, ap, sym, ◌∙◌, subst, arith}
use Rattle.sector_disk.specs.Memory.{Memory, state_of}
use Rattle.link_ring.specs.Sides.{Side}
use Rattle.durable_node.specs.Node.{Node, Stands}
use Rattle.histories.specs.NodeState.{NodeState}
use Rattle.node_lock.specs.declared.run.Run.{Run}
use Rattle.node_lock.specs.HeldView.{HeldView, HeldInvariant, IsOther, IsPutLink, IsTakeLink}
use Rattle.node_lock.specs.History.{Turn}
use Rattle.node_lock.specs.Sending.{SameLink}
use Rattle.node_lock.specs.Taking.{TookNone, site}
use Rattle.node_lock.proofs.Fetching.{IsFetched, from_same}
use Rattle.node_lock.proofs.Losing.{lost_stays}

-- a node stands for a state whatever it shows as mounted
stands_shown : (old new : Node Memory) → new ≡ record old { mounted = new.mounted } → (s : NodeState) → Stands state_of old s
    → Stands state_of new s
stands_shown old new is s stands =
    subst (λ (n : Node Memory). Stands state_of n s) (sym is)
    (record { state = stands.state; doubt = stands.doubt; up = stands.up; disk = stands.disk })

put_link_same : (run : Run) (history : List Turn) (p q : Side) → SameLink p q → q.messages ≡ p.messages → IsPutLink run history p
    → IsPutLink run history q
put_link_same run history p q same messages is = record {
  sender = same.sender ∙ is.sender;
  capacity = same.capacity ∙ is.capacity;
  messages = rw (same.capacity, same.receiver, messages) is.messages;
}

take_link_same : (h n : HeldView) (old new : Side) → n.run ≡ h.run → n.plans ≡ h.plans → n.turns ≡ h.turns → n.history ≡ h.history
    → IsTakeLink h old → IsFetched h n.waiting old new → IsTakeLink n new
take_link_same h n old new run plans turns history is got = record {
  receiver = got.same.receiver ∙ (is.receiver ∙ ap (λ (r : Run). r.node) (sym run));
  messages = rw (plans, history, turns, got.same.sender) got.messages;
}

pub keeps_none : (h n : HeldView) → HeldInvariant h → n.run ≡ h.run → n.plans ≡ h.plans → n.turns ≡ h.turns
    → TookNone (site h.node h.puts h.history h.lost h.numbers h.drawn) (site n.node n.puts n.history n.lost n.numbers n.drawn)
    → length n.takes ≡ length h.takes → ((k : ℕ) (d : Side) → k < length h.takes
    → IsFetched h n.waiting (slice_index_or h.takes k d) (slice_index_or n.takes k d))
    → (IsSome n.waiting → n.turns.intake < length n.plans.intake)
    → HeldInvariant n
keeps_none h n k run plans turns none len takes waiting =
    let disk = ap (λ (m : Node Memory). m.disk) none.node in
    let history = none.turns in
    record {
      id = ap (λ (m : Node Memory). m.id) none.node ∙ (k.id ∙ ap (λ (r : Run). r.node) (sym run));
      nodes = ap (λ (m : Node Memory). m.nodes) none.node ∙ (k.nodes ∙ ap (λ (r : Run). r.nodes) (sym run));
      member = rw run k.member;
      replay = rw (run, history) (record { follows = k.replay.follows; stands = stands_shown h.node n.node none.node _ k.replay.stands });
      least_slots = rw run k.least_slots;
      most_slots = rw run k.most_slots;
      sectors = rw run (λ d at. k.sectors d (sym disk ∙ at));
      slots = rw (run, history) k.slots;
      turns = rw (plans, history, turns) k.turns;
      links = rw run (let same = none.puts.len in omega (arith, same, k.links));
      puts = λ i d lt.
          let lt' : i < length h.puts = (let same = none.puts.len in omega (arith, same, lt)) in
          let old = k.puts i d lt' in
          let s = none.puts.each i d lt' in
          rw (run, history) (
            put_link_same h.run h.history (slice_index_or h.puts i d) (slice_index_or n.puts i d) s.0 s.1 old.0,
            subst (IsOther h.run.node i) (sym s.0.receiver) old.1,
          );
      take_links = rw run (omega (arith, len, k.take_links));
      takes = λ i d lt.
          let lt' : i < length h.takes = omega (arith, len, lt) in
          let got = takes i d lt' in
          let old = k.takes i d lt' in
          let other : IsOther n.run.node i (slice_index_or h.takes i d).sender = rw run old.1 in (
            take_link_same h n (slice_index_or h.takes i d) (slice_index_or n.takes i d) run plans turns history old.0 got,
            subst (IsOther n.run.node i) (sym got.same.sender) other,
          );
      intake = rw (run, plans) k.intake;
      waiting = waiting;
      few = rw history k.few;
      lost = rw (history, none.lost) (lost_stays h.history h.lost h.puts n.puts none.puts k.lost);
      numbers = rw (none.drawn, none.numbers) k.numbers;
      area = rw history (λ d at. k.area d (sym disk ∙ at));
      never_area_exhausted = rw history k.never_area_exhausted;
      failures = rw history (λ d at. k.failures d (sym disk ∙ at));
    }

-- the same of a worker that doesn't poll
pub keeps_none_past : (h n : HeldView) → HeldInvariant h → n.run ≡ h.run → n.plans ≡ h.plans → n.turns ≡ h.turns
    → TookNone (site h.node h.puts h.history h.lost h.numbers h.drawn) (site n.node n.puts n.history n.lost n.numbers n.drawn)
    → n.takes ≡ h.takes → n.waiting ≡ h.waiting
    → HeldInvariant n
keeps_none_past h n k run plans turns none takes waiting =
    keeps_none h n k run plans turns none (ap length takes)
    (λ i d lt. subst (λ (l : List Side). IsFetched h n.waiting (slice_index_or h.takes i d) (slice_index_or l i d)) (sym takes)
    (from_same h n.waiting (slice_index_or h.takes i d) (slice_index_or h.takes i d) (k.takes i d lt).0 (sym waiting) (record {
      sender = refl;
      receiver = refl;
      capacity = refl;
    }) refl))
    (rw (waiting, turns, plans) k.waiting)
