-- A session that stops met a device that failed.
use Rattle.std.proofs.Common.{◌≡◌, ◌⊎◌, ◌<◌, ◌≤◌, ◌-◌, ◌^◌, inl, inr, ℕ, List, [], ◌∷◌, Bool, true, false, refl, sym, ap, ◌∙◌, subst, arith}
use Rattle.std.proofs.Common.{Option, Some, None}
use Rattle.std.specs.Prelude.{IsSome, Ok, Err}
use Rattle.sector_disk.specs.Disk.{DiskState}
use Rattle.node_core.specs.declared.event.Event.{Event}
use Rattle.wire_msg.specs.Envelope.{Envelope}
use Rattle.histories.specs.NodeState.{NodeState}
use Rattle.durable_node.specs.declared.fault.NodeFault.TheVariants as node
use Rattle.durable_node.specs.Node.{Node}
use Rattle.node_session.specs.Turns.{CallEnd, Turn, after_turn, cause, end_of, sent_in}
use Rattle.node_session.specs.Chains.{LineOutcome, is_failed, last_end}
use Rattle.node_session.specs.Lines.{At, after_by, after_line, after_lines}
use Rattle.node_session.specs.Exact.{AreCallsIn, AreCallsOf, IsCallBy}
use Rattle.node_session.specs.Serving.{StopsWhereFailed, at_of}
use Rattle.node_session.proofs.Refusals.{device_so}

abbrev Rose : ℕ → ℕ → Type 0
Rose m n = (m < n) ⊎ (2 ^ 64 - 1 ≤ n)

-- the disk is there, its count of failures is no less, and it rose if this ended as a failed device
record Goes {Disk : Type 0} (disks : Disk → DiskState) (was : Disk) (new : Node Disk) (before failed : Bool) : Type 0 where
  pub now : Disk
  pub is : new.disk ≡ Some now
  pub later : (disks was).failures ≤ (disks now).failures
  pub rose : failed ≡ true → (before ≡ true) ⊎ Rose (disks was).failures (disks now).failures

there : {A : Type 0} (o : Option A) → IsSome o → (x : A) × (o ≡ Some x)
there None is = absurd cc
there (Some x) is = (x, refl)

denied : (ended : CallEnd) → is_failed ended ≡ true → ended ≡ Err node.Device
denied (Ok answer) failed = absurd cc
denied (Err node.Device) failed = refl
denied (Err fault) failed = absurd cc

some_rose : (m n : ℕ) → (m < n) ⊎ (n ≡ 2 ^ 64 - 1) → Rose m n
some_rose m n (inl less) = inl less
some_rose m n (inr same) = inr (subst (λ (k : ℕ). 2 ^ 64 - 1 ≤ k) (sym same) (omega arith))

rose_then : (l m n : ℕ) → Rose l m → m ≤ n → Rose l n
rose_then l m n (inl less) more = inl (omega (arith, less, more))
rose_then l m n (inr most) more = inr (omega (arith, most, more))

then_rose : (l m n : ℕ) → l ≤ m → Rose m n → Rose l n
then_rose l m n more (inl less) = inl (omega (arith, less, more))
then_rose l m n more (inr most) = inr most

call_later : {Disk : Type 0} (disks : Disk → DiskState) (event : Option Event) (old new : Node Disk) (sent : List Envelope)
    (ended : CallEnd) (was : Disk) → IsCallBy disks event old sent ended new → old.disk ≡ Some was
    → (now : Disk) × (new.disk ≡ Some now) × ((disks was).failures ≤ (disks now).failures)
call_later disks (Some event) old new sent ended was call is =
    let n = there new.disk call.says.counts.is_there in
    (n.0, n.1, (call.says.counts.counts was n.0 is n.1).later)
call_later disks None old new sent ended was call is =
    let n = there new.disk call.says.counts.is_there in
    (n.0, n.1, (call.says.counts.counts was n.0 is n.1).later)

call_goes : {Disk : Type 0} (disks : Disk → DiskState) (event : Option Event) (old new : Node Disk) (sent : List Envelope)
    (ended : CallEnd) (was : Disk) → IsCallBy disks event old sent ended new → old.disk ≡ Some was
    → Goes disks was new false (is_failed ended)
call_goes disks event old new sent ended was call is =
    let n = call_later disks event old new sent ended was call is in
    record {
      now = n.0;
      is = n.1;
      later = n.2;
      rose = λ failed. inr (some_rose (disks was).failures (disks n.0).failures
          ((device_so disks event old new sent ended was n.0 call is n.1).0 (denied ended failed)));
    }

goes_then : {Disk : Type 0} (disks : Disk → DiskState) (was : Disk) (mid new : Node Disk) (before between failed : Bool)
    (a : Goes disks was mid before between) → Goes disks a.now new between failed → Goes disks was new before failed
goes_then disks was mid new before between failed a b = record {
  now = b.now;
  is = b.is;
  later = omega (arith, a.later, b.later);
  rose = λ fell. by_last (b.rose fell);
} where
  by_first : (before ≡ true) ⊎ Rose (disks was).failures (disks a.now).failures
      → (before ≡ true) ⊎ Rose (disks was).failures (disks b.now).failures
  by_first (inl first) = inl first
  by_first (inr rose) = inr (rose_then (disks was).failures (disks a.now).failures (disks b.now).failures rose b.later)

  by_last : (between ≡ true) ⊎ Rose (disks a.now).failures (disks b.now).failures
      → (before ≡ true) ⊎ Rose (disks was).failures (disks b.now).failures
  by_last (inl first) = by_first (a.rose first)
  by_last (inr rose) = inr (then_rose (disks was).failures (disks a.now).failures (disks b.now).failures a.later rose)

-- whatever was before, for what begins with none
any_before : {Disk : Type 0} (disks : Disk → DiskState) (was : Disk) (new : Node Disk) (before failed : Bool)
    → Goes disks was new false failed → Goes disks was new before failed
any_before disks was new before failed a = record { now = a.now; is = a.is; later = a.later; rose = λ fell. by_rose (a.rose fell) } where
  by_rose : (false ≡ true) ⊎ Rose (disks was).failures (disks a.now).failures
      → (before ≡ true) ⊎ Rose (disks was).failures (disks a.now).failures
  by_rose (inl none) = absurd cc
  by_rose (inr rose) = inr rose

stays : {Disk : Type 0} (disks : Disk → DiskState) (was : Disk) (old new : Node Disk) (failed : Bool) → new ≡ old → old.disk ≡ Some was
    → Goes disks was new failed failed
stays disks was old new failed same is = record { now = was; is = ap (λ n. n.disk) same ∙ is; later = omega arith; rose = λ fell. inl fell }

calls_go : {Disk : Type 0} (disks : Disk → DiskState) (self nodes : ℕ) (s : NodeState) (turns : List Turn) (before : CallEnd)
    (old new : Node Disk) (was : Disk) → AreCallsOf disks self nodes s turns old new → old.disk ≡ Some was
    → Goes disks was new (is_failed before) (is_failed (last_end self nodes before s turns))
calls_go disks self nodes s [] before old new was calls is = stays disks was old new (is_failed before) calls is
calls_go disks self nodes s (turn ∷ turns) before old new was calls is =
    let first = any_before disks was calls.0 (is_failed before) (is_failed (end_of self nodes s turn))
    (call_goes disks (cause turn) old calls.0 (sent_in self nodes s turn) (end_of self nodes s turn) was calls.1 is) in
    goes_then disks was calls.0 new (is_failed before) (is_failed (end_of self nodes s turn))
    (is_failed (last_end self nodes (end_of self nodes s turn) (after_turn self nodes s turn) turns)) first
    (calls_go disks self nodes (after_turn self nodes s turn) turns (end_of self nodes s turn) calls.0 new first.now calls.2 first.is)

line_goes : {Disk : Type 0} (disks : Disk → DiskState) (self nodes : ℕ) (b : Bool) (a : At) (line : List ℕ) (came : LineOutcome)
    (old new : Node Disk) (was : Disk) → a.stopped ≡ b → AreCallsOf disks self nodes a.state came.turns old new → old.disk ≡ Some was
    → Goes disks was new b (after_by self nodes b a line came).stopped
line_goes disks self nodes true a line came old new was stopped calls is =
    let g = calls_go disks self nodes a.state came.turns (Ok None) old new was calls is in
    record { now = g.now; is = g.is; later = g.later; rose = λ fell. inl refl }
line_goes disks self nodes false a line came old new was stopped calls is =
    calls_go disks self nodes a.state came.turns (Ok None) old new was calls is

lines_go : {Disk : Type 0} (disks : Disk → DiskState) (self nodes : ℕ) (a : At) (lines : List (List ℕ)) (all : List LineOutcome)
    (old new : Node Disk) (was : Disk) → AreCallsIn disks self nodes a lines all old new → old.disk ≡ Some was
    → Goes disks was new a.stopped (after_lines self nodes a lines all).stopped
lines_go disks self nodes a [] all old new was calls is = stays disks was old new a.stopped calls is
lines_go disks self nodes a (line ∷ lines) [] old new was calls is = stays disks was old new a.stopped calls is
lines_go disks self nodes a (line ∷ lines) (came ∷ all) old new was calls is =
    let next = after_line self nodes a line came in
    let first : Goes disks was calls.0 a.stopped next.stopped =
    line_goes disks self nodes a.stopped a line came old calls.0 was refl calls.1 is in
    goes_then disks was calls.0 new a.stopped next.stopped (after_lines self nodes next lines all).stopped first
    (lines_go disks self nodes next lines all calls.0 new first.now calls.2 first.is)

same_some : {A : Type 0} (x y : A) → Some x ≡ Some y → x ≡ y
same_some x y same = cc

pub stops_so : {Disk : Type 0} (disks : Disk → DiskState) → StopsWhereFailed disks
stops_so {Disk} disks old new piece was now s fed is at stands runs stops =
    let x = fed.serves.served was s is stands in
    let g = lines_go disks old.node.id old.node.nodes (at_of old s) fed.lines x.all old.node new.node was x.exact is in
    let same : g.now ≡ now = same_some g.now now (sym g.is ∙ at) in
    subst (λ (d : Disk). Rose (disks was).failures (disks d).failures) same
    (by_rose g.now (g.rose (sym (ap (λ a. a.stopped) x.left) ∙ stops)))
  where
    by_rose : (d : Disk) → (old.stopped ≡ true) ⊎ Rose (disks was).failures (disks d).failures
        → Rose (disks was).failures (disks d).failures
    by_rose d (inl stopped) = (let bad = sym runs ∙ stopped in absurd cc)
    by_rose d (inr rose) = rose
