-- What was held once had been granted, and is relied on until its time is over or it is released.
use Rattle.std.proofs.Common.{◌≡◌, ℕ, ◌+◌, ◌<◌, ◌≤◌, List, [], ◌∷◌, ◌++◌, sym, ◌∙◌, ap, subst, inl, inr, arith}
use Rattle.std.specs.Prelude.{map}
use Rattle.std.proofs.lemmas.Bool.{ltb-true}
use Rattle.std.proofs.lemmas.List.{append-nil, append_assoc}
use Rattle.lease_runs.specs.Voter.{Client, Ask}
use Rattle.lease_runs.specs.Run.{Act, Does, Relies, WasGranted, stops}
use Rattle.lease_runs.specs.Candidate.{Candidate, ClientMoment, IsClientOf, beginning, left}
use Rattle.lease_runs.specs.Holding.{HolderRelies, KeptLease, KeptWasGranted}
use Rattle.lease_runs.specs.Laws as run_laws
use Rattle.lease_network.specs.Network.{Name, Step, Terms, AreSteps, machines}
use Rattle.lease_network.specs.Laws.{Held, HeldEpochsFollow, HeldEpochsRise, HeldOneEpoch, HolderSentNone, MayRely, OneRelies}
use Rattle.lease_network.specs.Projection.{StepsAreRuns, act_at, acts, client_events, run_of}
use Rattle.lease_network.proofs.Runs.{does_there, is_act, is_done, stops_is}
use Rattle.lease_network.proofs.Held.{holds}
use Rattle.lease_network.proofs.Clients.{act_of_moment, clients, moment_of_act, moments, moments_before, moments_more}

-- ---- steps behind others

steps_kept : (terms : Terms) (later kept : List Step) → AreSteps terms (later ++ kept) → AreSteps terms kept
steps_kept terms [] kept are = are
steps_kept terms (s ∷ later) kept are = steps_kept terms later kept are.0

acts_more : (all : List Step) (name : Name) (later kept : List Step)
    → (more : List Act) × (acts all name (later ++ kept) ≡ acts all name kept ++ more)
acts_more all name [] kept = ([], sym (append-nil (acts all name kept)))
acts_more all name (s ∷ later) kept =
    let rest = acts_more all name later kept in
    let new = map (act_at s.at s.by) (client_events all name s.at s.what) in
    (rest.0 ++ new, ap (λ (x : List Act). x ++ new) rest.1 ∙ append_assoc (acts all name kept) rest.0 new)

-- ---- what was held

kept_lease : (terms : Terms) (steps : List Step) → AreSteps terms steps → (name : Name) (time : ℕ) (client : Client) (ask : Ask)
    → Held terms steps name time client ask
    → KeptLease (run_of terms name steps) client time ask
kept_lease terms steps are name time client ask h =
    let are_kept = steps_kept terms h.later h.kept (subst (λ (l : List Step). AreSteps terms l) h.parts are) in
    let more = acts_more steps name h.later h.kept in
    let past = moments client (acts steps name h.kept) in
    let later = moments client more.0 in
    let parts : moments client (acts steps name steps) ≡ past ++ later =
    ap (λ (l : List Step). moments client (acts steps name l)) h.parts
    ∙ (ap (λ (x : List Act). moments client x) more.1 ∙ moments_more client (acts steps name h.kept) more.0) in
    let whole = clients terms steps name client steps are in
    let now = clients terms steps name client h.kept are_kept in
    let leaves : left terms.nodes terms.relies_for (terms.clock client.machine client.boot) beginning past
    ≡ (machines terms h.kept client.machine).candidate client.number name =
    now.clients.leaves ∙ now.runs h.running in record {
      past = past;
      later = later;
      is_client = subst (λ (x : List ClientMoment). IsClientOf (run_of terms name steps) client x) parts (record {
        all = λ at what does. moment_of_act client (acts steps name steps) at what does;
        did = λ at what i. act_of_moment client (acts steps name steps) at what i;
        follows = whole.clients.follows;
      });
      before = λ m i. (let le = moments_before terms name client h.kept past now m i in let by = h.by in omega (arith, le, by));
      lease = ap (λ (x : Candidate). x.lease) leaves ∙ h.lease;
    }

was_granted : StepsAreRuns → KeptWasGranted → (terms : Terms) (steps : List Step) → AreSteps terms steps
    → (name : Name) (time : ℕ) (client : Client) (ask : Ask)
    → Held terms steps name time client ask → WasGranted (run_of terms name steps) time ask × (ask.client ≡ client)
was_granted runs granted terms steps are name time client ask h =
    granted (run_of terms name steps) (runs terms steps are name).0 client time ask (kept_lease terms steps are name time client ask h)

-- ---- who may rely relies

relies : StepsAreRuns → KeptWasGranted → (terms : Terms) (steps : List Step) → AreSteps terms steps
    → (name : Name) (time : ℕ) (client : Client) (ask : Ask)
    → MayRely terms steps name time client ask → Relies (run_of terms name steps) time ask × (ask.client ≡ client)
relies runs granted terms steps are name time client ask h =
    let clock = terms.clock client.machine client.boot in
    let was = was_granted runs granted terms steps are name time client ask h.held in (
      record {
        granted = was.0;
        lasts = subst (λ (c : Client). terms.clock c.machine c.boot time < terms.clock c.machine c.boot ask.sent + terms.relies_for)
            (sym was.1)
            (ltb-true (clock time) (clock ask.sent + terms.relies_for) h.lasts);
        goes_on = λ at epoch does covers. behind at epoch covers
            (subst (λ (c : Client). Does (run_of terms name steps) at c (stops epoch)) was.1 does);
      },
      was.1,
    )
  where
    behind : (at epoch : ℕ) → ask.epoch ≤ epoch → Does (run_of terms name steps) at client (stops epoch) → time < at
    behind at epoch covers does =
        let d = is_done steps name steps at client (stops epoch) does in
        let s = is_act steps name d.step.at (stops epoch) d.step.what d.event in
        let less = h.goes_on d.step s.0 epoch d.among (sym d.by) s.1 covers in
        let same = d.then_at in omega (arith, less, same)

-- ---- the laws

pub held_epochs_rise : StepsAreRuns → KeptWasGranted → run_laws.EpochsRise → HeldEpochsRise
held_epochs_rise runs granted law terms steps are name time_a time_b c d a b first second less =
    let x = was_granted runs granted terms steps are name time_a c a first in
    let y = was_granted runs granted terms steps are name time_b d b second in
    elim (law (run_of terms name steps) (runs terms steps are name).0 time_a time_b a b x.0 y.0 less) [
      | inl up ↦ inl up
      | inr same ↦ inr (sym x.1 ∙ (same.0 ∙ y.1), same.1)
    ]

pub held_one_epoch : StepsAreRuns → KeptWasGranted → run_laws.OneClient → HeldOneEpoch
held_one_epoch runs granted law terms steps are name time_a time_b c d a b first second same =
    let x = was_granted runs granted terms steps are name time_a c a first in
    let y = was_granted runs granted terms steps are name time_b d b second in
    sym x.1 ∙ (law (run_of terms name steps) (runs terms steps are name).0 time_a time_b a b x.0 y.0 same ∙ y.1)

pub one_relies : StepsAreRuns → KeptWasGranted → run_laws.OneHolder → OneRelies
one_relies runs granted law terms steps are clocks name time c d a b first second =
    let is = runs terms steps are name in
    let x = relies runs granted terms steps are name time c a first in
    let y = relies runs granted terms steps are name time d b second in
    sym x.1 ∙ (law (run_of terms name steps) is.0 (is.1 clocks) time a b x.0 y.0 ∙ y.1)

pub held_epochs_follow : StepsAreRuns → KeptWasGranted → run_laws.EpochsFollow → HeldEpochsFollow
held_epochs_follow runs granted law terms steps are clocks name time_a time_b c d a b first second le =
    let is = runs terms steps are name in
    let x = was_granted runs granted terms steps are name time_a c a first in
    let y = relies runs granted terms steps are name time_b d b second in
    elim (law (run_of terms name steps) is.0 (is.1 clocks) time_a time_b a b x.0 y.0 le) [
      | inl up ↦ inl up
      | inr same ↦ inr (sym x.1 ∙ (same ∙ y.1))
    ]

pub holder_sent_none : StepsAreRuns → HolderRelies → HolderSentNone
holder_sent_none runs law terms steps are name time client ask h s other epoch i by what covers =
    let x = law (run_of terms name steps) (runs terms steps are name).0 client time ask (holds terms steps are name time client ask h) in
    x.0.goes_on s.at epoch (subst (λ (c : Client). Does (run_of terms name steps) s.at c (stops epoch)) (by ∙ sym x.1)
    (does_there steps name steps s (stops epoch) i (stops_is steps name other epoch s.at s.what what))) covers
