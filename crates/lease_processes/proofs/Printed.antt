-- What holds of `held` lines.
use Rattle.std.proofs.Common.{◌≡◌, ℕ, ◌+◌, ◌<◌, ◌≤◌, true, List, [], ◌∷◌, ◌++◌, Option, Some, None, refl, sym, ◌∙◌, ap, subst, inl, inr}
use Rattle.std.proofs.Common.{append_assoc, arith}
use Rattle.std.specs.Prelude.{ltb}
use Rattle.lease_runs.specs.Voter.{Client, Ask}
use Rattle.lease_runs.specs.Candidate.{is_in_time}
use Rattle.lease_network.specs.Network.{Name, Step, Terms}
use Rattle.lease_network.specs.Laws.{Held, MayRely}
use Rattle.lease_network.specs.Laws as laws
use Rattle.lease_session.specs.Rows.{held}
use Rattle.lease_session.specs.Steps.{AreHeld, IsHolder, LinesAreSteps, steps_with}
use Rattle.lease_session.specs.Marks.{Mark, did, wrote}
use Rattle.lease_session.specs.Turns.{Who, who}
use Rattle.lease_session.specs.declared.process.Start.{Start}
use Rattle.lease_session.specs.Feeding.{At}
use Rattle.lease_processes.specs.Processes.{Turned, begins, told, Moment, AreProcesses, MayTurn, bound_of, here, last_moment, marks_of}
use Rattle.lease_processes.specs.Processes.{process_of, reserved_of, steps_of}
use Rattle.lease_processes.specs.Printed.{AreOneNetwork, EpochsFollow, EpochsRise, FedIsTold, FilesGiveFloors, HeldLinesAreLeases}
use Rattle.lease_processes.specs.Printed.{IsHeldLine, IsLease, IsOneProcess, OneAtATime, OneEpochEach, Relies}
use Rattle.lease_processes.proofs.Standing.{added, stand, steps_over}

pub network : AreOneNetwork
network terms all are = (stand terms all are).are

-- ---- one line

-- the steps of marks behind others
pub steps_both : (at : ℕ) (past : List Step) (xs ys : List Mark) → steps_with at past (xs ++ ys) ≡ steps_with at (steps_with at past xs) ys
steps_both at past [] ys = refl
steps_both at past (did by what ∷ xs) ys = steps_both at (record { at = at; by = by; what = what } ∷ past) xs ys
steps_both at past (wrote row ∷ xs) ys = steps_both at past xs ys

-- who is told so holds it over the steps before the line
pub told_held : (terms : Terms) (w : Who) (at : ℕ) (past : List Step) (front back : List Mark) (name : Name) (user epoch until : ℕ)
    → AreHeld terms w at past (front ++ wrote (held name user epoch until) ∷ back)
    → IsHolder terms w at (steps_with at past front) name epoch until
told_held terms w at past [] back name user epoch until h = h.0
told_held terms w at past (did by what ∷ front) back name user epoch until h =
    told_held terms w at (record { at = at; by = by; what = what } ∷ past) front back name user epoch until h
told_held terms w at past (wrote row ∷ front) back name user epoch until h = told_held terms w at past front back name user epoch until h.1

pub no_marks : (front back : List Mark) (line : Mark) → [] ≡ front ++ line ∷ back → ⊥
no_marks [] back line e = absurd cc
no_marks (m ∷ front) back line e = absurd cc

-- more steps in front
pub more_held : (terms : Terms) (steps more : List Step) (name : Name) (time : ℕ) (client : Client) (ask : Ask)
    → Held terms steps name time client ask
    → Held terms (more ++ steps) name time client ask
more_held terms steps more name time client ask h = record {
  kept = h.kept;
  later = more ++ h.later;
  parts = ap (λ (l : List Step). more ++ l) h.parts ∙ sym (append_assoc more h.later h.kept);
  by = h.by;
  running = h.running;
  lease = h.lease;
}

-- the lease of who holds it over the first of the steps
abbrev pub lease_from : (terms : Terms) (all : List Moment) (m : Moment) (name : Name) (epoch until : ℕ) (w : Who) (kept more : List Step)
    → steps_of all ≡ more ++ kept
    → w.self.machine ≡ m.machine → w.self.boot ≡ process_of m → IsHolder terms w m.at kept name epoch until
    → IsLease terms all m name epoch until
lease_from terms all m name epoch until w kept more parts machine boot it = record {
  client = it.client;
  ask = it.ask;
  has = subst (λ (l : List Step). Held terms l name m.at it.client it.ask) (sym parts)
      (more_held terms kept more name m.at it.client it.ask it.has);
  of_epoch = it.of_epoch;
  machine = it.machine ∙ machine;
  boot = it.boot ∙ boot;
  ends = it.ends ∙ (ap (λ (k : ℕ). terms.clock k w.self.boot it.ask.sent + terms.relies_for) machine
      ∙ ap (λ (p : ℕ). terms.clock m.machine p it.ask.sent + terms.relies_for) boot);
}

pub line_here : (terms : Terms) (past : List Moment) (at n : ℕ) (what : Turned) → AreProcesses terms past → last_moment past ≤ at
    → MayTurn terms past at n what
    → (name : Name) (epoch until : ℕ) → IsHeldLine (record { at = at; machine = n; what = what }) name epoch until
    → IsLease terms (record { at = at; machine = n; what = what } ∷ past) (record { at = at; machine = n; what = what }) name epoch until
line_here terms past at n (begins new) are le turn name epoch until h =
    absurd (no_marks h.front h.back (wrote (held name h.user epoch until)) h.parts)
line_here terms past at n (told asked old marks new) are le turn name epoch until h =
    let s = stand terms past are in
    let adds = added terms past at n asked old marks new s le turn in
    let line = wrote (held name h.user epoch until) in
    let it = told_held terms (who old.process) at (steps_of past) h.front h.back name h.user epoch until
    (subst (λ (ms : List Mark). AreHeld terms (who old.process) at (steps_of past) ms) h.parts adds.0.held) in
    let over = steps_over at (steps_with at (steps_of past) h.front) (line ∷ h.back) in
    lease_from terms (record { at = at; machine = n; what = told asked old marks new } ∷ past)
    (record { at = at; machine = n; what = told asked old marks new }) name epoch until (who old.process)
    (steps_with at (steps_of past) h.front) over.0
    (ap (λ (ms : List Mark). steps_with at (steps_of past) ms) h.parts ∙ (steps_both at (steps_of past) h.front (line ∷ h.back) ∙ over.1))
    adds.1 (sym (ap (λ (x : Start). x.process) turn.answered.start)) it

more_lease : (terms : Terms) (x : Moment) (past : List Moment) (m : Moment) (name : Name) (epoch until : ℕ)
    → IsLease terms past m name epoch until → IsLease terms (x ∷ past) m name epoch until
more_lease terms x past m name epoch until l =
    let over = steps_over x.at (steps_of past) (marks_of x.what) in record {
      client = l.client;
      ask = l.ask;
      has = subst (λ (s : List Step). Held terms s name m.at l.client l.ask) (sym over.1)
          (more_held terms (steps_of past) over.0 name m.at l.client l.ask l.has);
      of_epoch = l.of_epoch;
      machine = l.machine;
      boot = l.boot;
      ends = l.ends;
    }

pub held_lines : HeldLinesAreLeases
held_lines terms [] are m i name epoch until h = absurd i
held_lines terms (x ∷ past) are m (inl e) name epoch until h =
    subst (λ (y : Moment). IsLease terms (x ∷ past) y name epoch until) (sym e)
    (line_here terms past x.at x.machine x.what are.0 are.1 are.2 name epoch until
    (subst (λ (y : Moment). IsHeldLine y name epoch until) e h))
held_lines terms (x ∷ past) are m (inr i) name epoch until h =
    more_lease terms x past m name epoch until (held_lines terms past are.0 m i name epoch until h)

-- ---- the laws

one_process : {terms : Terms} {all : List Moment} {m o : Moment} {name : Name} {first second until later : ℕ}
    → (a : IsLease terms all m name first until)
    → (b : IsLease terms all o name second later) → a.client ≡ b.client → IsOneProcess m o
one_process a b same = (
  sym a.machine ∙ (ap (λ (c : Client). c.machine) same ∙ b.machine),
  sym a.boot ∙ (ap (λ (c : Client). c.boot) same ∙ b.boot),
)

pub one_epoch : laws.HeldOneEpoch → OneEpochEach
one_epoch law terms all are m o i j name epoch until later h k =
    let a = held_lines terms all are m i name epoch until h in
    let b = held_lines terms all are o j name epoch later k in
    one_process a b (law terms (steps_of all) (network terms all are) name m.at o.at a.client b.client a.ask b.ask a.has b.has (a.of_epoch
    ∙ sym b.of_epoch))

pub epochs_rise : laws.HeldEpochsRise → EpochsRise
epochs_rise law terms all are m o name first second until later a b less =
    elim (law terms (steps_of all) (network terms all are) name m.at o.at a.client b.client a.ask b.ask a.has b.has less) [
      | inl up ↦ inl (let x = a.of_epoch in let y = b.of_epoch in omega (arith, up, x, y))
      | inr same ↦ inr (one_process a b same.0, sym a.of_epoch ∙ (same.1 ∙ b.of_epoch))
    ]

ltb_is : (a b : ℕ) → a < b → ltb a b ≡ true
ltb_is a b less = grind (arith, less)

may_rely : {terms : Terms} {all : List Moment} {m : Moment} {name : Name} {epoch until time : ℕ}
    → (r : Relies terms all m name epoch until time)
    → MayRely terms (steps_of all) name time r.lease.client r.lease.ask
may_rely {terms = terms} {all = all} {m = m} {name = name} {epoch = epoch} {until = until} {time = time} r =
    let l = r.lease in record {
      held = record {
        kept = l.has.kept;
        later = l.has.later;
        parts = l.has.parts;
        by = (let by = l.has.by in let behind = r.behind in omega (arith, by, behind));
        running = l.has.running;
        lease = l.has.lease;
      };
      lasts = subst (λ (n : ℕ). is_in_time terms.relies_for (terms.clock n l.client.boot) time l.ask ≡ true) (sym l.machine)
          (subst (λ (p : ℕ). is_in_time terms.relies_for (terms.clock m.machine p) time l.ask ≡ true) (sym l.boot)
          (ltb_is (terms.clock m.machine (process_of m) time) (terms.clock m.machine (process_of m) l.ask.sent + terms.relies_for)
          (let less = r.in_time in let ends = l.ends in omega (arith, less, ends))));
      goes_on = λ s other given_up i by what covers. r.goes_on s other given_up i by what (let same = l.of_epoch in
          omega (arith, covers, same));
    }

pub one_at_a_time : laws.OneRelies → OneAtATime
one_at_a_time law terms all are clocks m o name first second until later time a b =
    one_process a.lease b.lease (law terms (steps_of all) (network terms all are) clocks name time a.lease.client b.lease.client a.lease.ask
    b.lease.ask (may_rely a) (may_rely b))

pub epochs_follow : laws.HeldEpochsFollow → EpochsFollow
epochs_follow law terms all are clocks m o name first second until later time a b le =
    elim (law terms (steps_of all) (network terms all are) clocks name m.at time a.client b.lease.client a.ask b.lease.ask a.has
    (may_rely b) le) [
      | inl up ↦ inl (let x = a.of_epoch in let y = b.lease.of_epoch in omega (arith, up, x, y))
      | inr same ↦ inr (one_process a b.lease same)
    ]

-- ---- sessions

pub fed_is_told : LinesAreSteps → FedIsTold
fed_is_told law [] old new same sound = same
fed_is_told law (line ∷ lines) old new answered sound =
    let it = law line old answered.0 answered.1 sound in (
      it.0,
      (answered.0, it.1, fed_is_told law lines answered.0 new answered.2 it.1.sound),
    )

pub files_give_floors : FilesGiveFloors
files_give_floors terms past are n floor less = by_process (here past n) refl less
  where
    by_process : (o : Option At) → here past n ≡ o → reserved_of o ≤ floor → bound_of o ≤ floor
    by_process None is less = less
    by_process (Some a) is less = (let within = ((stand terms past are).fits n a is).sound.reserved in omega (arith, within, less))
