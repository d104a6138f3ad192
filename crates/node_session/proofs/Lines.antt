-- What came of several lines, one behind another.
use Rattle.std.proofs.Common.{◌≡◌, ℕ, List, [], ◌∷◌, ◌++◌, refl, sym, ap, ◌∙◌, append_assoc, subst}
use Rattle.sector_disk.specs.Disk.{DiskState}
use Rattle.durable_node.specs.Node.{Node}
use Rattle.node_session.specs.Chains.{LineOutcome, AllGoing}
use Rattle.node_session.specs.Lines.{At, AreOf, after_line, after_lines, answer_at, answers}
use Rattle.node_session.specs.Exact.{AreCallsIn}
use Rattle.node_session.specs.Sending.{AreMessagesIn}
use Rattle.histories.specs.NodeState.{NodeState}
use Rattle.node_session.specs.Timing.{Timers, AreTimedIn}

pub of_both : (self nodes slots : ℕ) (a : At) (ls ms : List (List ℕ)) (cs ds : List LineOutcome) → AreOf self nodes slots a ls cs
    → AreOf self nodes slots (after_lines self nodes a ls cs) ms ds
    → AreOf self nodes slots a (ls ++ ms) (cs ++ ds)
of_both self nodes slots a [] ms [] ds first second = second
of_both self nodes slots a [] ms (c ∷ cs) ds first second = absurd first
of_both self nodes slots a (l ∷ ls) ms [] ds first second = absurd first
of_both self nodes slots a (l ∷ ls) ms (c ∷ cs) ds first second =
    (first.0, of_both self nodes slots (after_line self nodes a l c) ls ms cs ds first.1 second)

pub after_both : (self nodes slots : ℕ) (a : At) (ls ms : List (List ℕ)) (cs ds : List LineOutcome) → AreOf self nodes slots a ls cs
    → after_lines self nodes a (ls ++ ms) (cs ++ ds) ≡ after_lines self nodes (after_lines self nodes a ls cs) ms ds
after_both self nodes slots a [] ms [] ds first = refl
after_both self nodes slots a [] ms (c ∷ cs) ds first = absurd first
after_both self nodes slots a (l ∷ ls) ms [] ds first = absurd first
after_both self nodes slots a (l ∷ ls) ms (c ∷ cs) ds first = after_both self nodes slots (after_line self nodes a l c) ls ms cs ds first.1

pub going_both : (cs ds : List LineOutcome) → AllGoing cs → AllGoing ds → AllGoing (cs ++ ds)
going_both [] ds first second = second
going_both (c ∷ cs) ds first second = (first.0, going_both cs ds first.1 second)

pub answers_both : (self nodes slots : ℕ) (a : At) (ls ms : List (List ℕ)) (cs ds : List LineOutcome) → AreOf self nodes slots a ls cs
    → answers self nodes a (ls ++ ms) (cs ++ ds) ≡ answers self nodes a ls cs ++ answers self nodes (after_lines self nodes a ls cs) ms ds
answers_both self nodes slots a [] ms [] ds first = refl
answers_both self nodes slots a [] ms (c ∷ cs) ds first = absurd first
answers_both self nodes slots a (l ∷ ls) ms [] ds first = absurd first
answers_both self nodes slots a (l ∷ ls) ms (c ∷ cs) ds first =
    let b = after_line self nodes a l c in
    ap (λ (t : List ℕ). answer_at self nodes a l c ++ t) (answers_both self nodes slots b ls ms cs ds first.1)
    ∙ sym (append_assoc (answer_at self nodes a l c) (answers self nodes b ls cs) _)

pub calls_both : {Disk : Type 0} (disks : Disk → DiskState) (self nodes slots : ℕ) (a : At) (ls ms : List (List ℕ))
    (cs ds : List LineOutcome) (old mid new : Node Disk) → AreOf self nodes slots a ls cs
    → AreCallsIn disks self nodes a ls cs old mid → AreCallsIn disks self nodes (after_lines self nodes a ls cs) ms ds mid new
    → AreCallsIn disks self nodes a (ls ++ ms) (cs ++ ds) old new
calls_both {Disk} disks self nodes slots a [] ms [] ds old mid new of first second =
    subst (λ (n : Node Disk). AreCallsIn disks self nodes a ms ds n new) first second
calls_both disks self nodes slots a [] ms (c ∷ cs) ds old mid new of first second = absurd of
calls_both disks self nodes slots a (l ∷ ls) ms [] ds old mid new of first second = absurd of
calls_both disks self nodes slots a (l ∷ ls) ms (c ∷ cs) ds old mid new of first second =
    (first.0, first.1, calls_both disks self nodes slots (after_line self nodes a l c) ls ms cs ds first.0 mid new of.1 first.2 second)

pub messages_both : (self nodes slots : ℕ) (a : At) (ls ms : List (List ℕ)) (cs ds : List LineOutcome) → AreOf self nodes slots a ls cs
    → AreMessagesIn self nodes a ls cs
    → AreMessagesIn self nodes (after_lines self nodes a ls cs) ms ds → AreMessagesIn self nodes a (ls ++ ms) (cs ++ ds)
messages_both self nodes slots a [] ms [] ds of first second = second
messages_both self nodes slots a [] ms (c ∷ cs) ds of first second = absurd of
messages_both self nodes slots a (l ∷ ls) ms [] ds of first second = absurd of
messages_both self nodes slots a (l ∷ ls) ms (c ∷ cs) ds of first second =
    (first.0, messages_both self nodes slots (after_line self nodes a l c) ls ms cs ds of.1 first.1 second)

-- ---- the timers

-- what is told behind what was told
timed_behind : (Between : ℕ → NodeState → Timers → Timers → Type 0)
    (then : (self : ℕ) (s : NodeState) (x y z : Timers) → Between self s x y → Between self s y z → Between self s x z)
    (self nodes : ℕ) (a : At) (ms : List (List ℕ)) (ds : List LineOutcome) (old mid new : Timers) → Between self a.state old mid
    → AreTimedIn Between self nodes a ms ds mid new → AreTimedIn Between self nodes a ms ds old new
timed_behind Between then self nodes a [] ds old mid new told later = then self a.state old mid new told later
timed_behind Between then self nodes a (m ∷ ms) [] old mid new told later = then self a.state old mid new told later
timed_behind Between then self nodes a (m ∷ ms) (d ∷ ds) old mid new told later =
    (later.0, later.1, then self a.state old mid later.0 told later.2, later.3, later.4)

pub timed_both : (Between : ℕ → NodeState → Timers → Timers → Type 0)
    (then : (self : ℕ) (s : NodeState) (x y z : Timers) → Between self s x y → Between self s y z → Between self s x z)
    (self nodes slots : ℕ) (a : At) (ls ms : List (List ℕ)) (cs ds : List LineOutcome) (old mid new : Timers)
    → AreOf self nodes slots a ls cs → AreTimedIn Between self nodes a ls cs old mid
    → AreTimedIn Between self nodes (after_lines self nodes a ls cs) ms ds mid new
    → AreTimedIn Between self nodes a (ls ++ ms) (cs ++ ds) old new
timed_both Between then self nodes slots a [] ms [] ds old mid new of first second = timed_behind Between
    then self nodes a ms ds old mid new first second
timed_both Between then self nodes slots a [] ms (c ∷ cs) ds old mid new of first second = absurd of
timed_both Between then self nodes slots a (l ∷ ls) ms [] ds old mid new of first second = absurd of
timed_both Between then self nodes slots a (l ∷ ls) ms (c ∷ cs) ds old mid new of first second = (
  first.0,
  first.1,
  first.2,
  first.3,
  timed_both Between then self nodes slots (after_line self nodes a l c) ls ms cs ds first.1 mid new
      of.1 first.4 second,
)

-- where nothing may be told, less than what may
pub timed_so : (From To : ℕ → NodeState → Timers → Timers → Type 0)
    (so : (self : ℕ) (s : NodeState) (x y : Timers) → From self s x y → To self s x y) (self nodes : ℕ) (a : At) (ls : List (List ℕ))
    (cs : List LineOutcome) (old new : Timers)
    → AreTimedIn From self nodes a ls cs old new → AreTimedIn To self nodes a ls cs old new
timed_so From To so self nodes a [] cs old new timed = so self a.state old new timed
timed_so From To so self nodes a (l ∷ ls) [] old new timed = so self a.state old new timed
timed_so From To so self nodes a (l ∷ ls) (c ∷ cs) old new timed = (
  timed.0,
  timed.1,
  so self a.state old timed.0 timed.2,
  timed.3,
  timed_so From To so self nodes (after_line self nodes a l c) ls cs timed.1 new timed.4,
)
