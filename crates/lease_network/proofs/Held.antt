-- What holds of runs of one name holds of the steps of machines.
use Rattle.std.proofs.Common.{◌≡◌, ℕ, List, sym, ◌∙◌, ap, subst, inl, inr, arith}
use Rattle.lease_runs.specs.Lists.{IsAmong}
use Rattle.lease_runs.specs.Voter.{Client, Ask}
use Rattle.lease_runs.specs.Candidate.{Candidate, ClientMoment, IsClientOf, beginning, left}
use Rattle.lease_runs.specs.Holding.{HeldEpochsRise, HolderRelies, OneHolds}
use Rattle.lease_runs.specs.Holding as one_name
use Rattle.lease_runs.specs.Laws as run_laws
use Rattle.lease_network.specs.Network.{Name, request, sends, Step, Terms, AreSteps, machines}
use Rattle.lease_network.specs.Laws.{EpochsFollow, EpochsRise, HeldWasAsked, Holds, OneEpoch, OneHolder, up_to}
use Rattle.lease_network.specs.Projection.{StepsAreRuns, acts, run_of}
use Rattle.lease_network.proofs.Runs.{was_sent}
use Rattle.lease_network.proofs.Clients.{act_of_moment, clients, cut, moment_of_act, moments, moments_before}

pub holds : (terms : Terms) (steps : List Step) → AreSteps terms steps → (name : Name) (time : ℕ) (client : Client) (ask : Ask)
    → Holds terms steps name time client ask
    → one_name.Holds (run_of terms name steps) client time ask
holds terms steps are name time client ask h =
    let c = cut terms steps name client time steps are in
    let kept = up_to time steps in
    let past = moments client (acts steps name kept) in
    let all = moments client (acts steps name steps) in
    let whole = clients terms steps name client steps are in
    let now = clients terms steps name client kept c.are in
    let leaves : left terms.nodes terms.relies_for (terms.clock client.machine client.boot) beginning past
    ≡ (machines terms kept client.machine).candidate client.number name =
    now.clients.leaves ∙ now.runs h.running in record {
      past = past;
      later = c.later;
      is_client = subst (λ (x : List ClientMoment). IsClientOf (run_of terms name steps) client x) c.parts (record {
        all = λ at what does. moment_of_act client (acts steps name steps) at what does;
        did = λ at what i. act_of_moment client (acts steps name steps) at what i;
        follows = whole.clients.follows;
      });
      before = λ m i. (let le = moments_before terms name client kept past now m i in let by = c.by in omega (arith, le, by));
      behind = c.behind;
      lease = ap (λ (x : Candidate). x.lease) leaves ∙ h.lease;
      in_time = h.in_time;
    }

pub one_holder : StepsAreRuns → OneHolds → OneHolder
one_holder runs law terms steps are clocks name time c d a b first second =
    let is = runs terms steps are name in
    law (run_of terms name steps) is.0 (is.1 clocks) time c d a b (holds terms steps are name time c a first)
    (holds terms steps are name time d b second)

pub epochs_rise : StepsAreRuns → HeldEpochsRise → EpochsRise
epochs_rise runs law terms steps are name time_a time_b c d a b first second later =
    law (run_of terms name steps) (runs terms steps are name).0 time_a time_b c d a b (holds terms steps are name time_a c a first)
    (holds terms steps are name time_b d b second) later

pub one_epoch : StepsAreRuns → HolderRelies → run_laws.OneClient → OneEpoch
one_epoch runs relies law terms steps are name time_a time_b c d a b first second same =
    let run = run_of terms name steps in
    let is = (runs terms steps are name).0 in
    let x = relies run is c time_a a (holds terms steps are name time_a c a first) in
    let y = relies run is d time_b b (holds terms steps are name time_b d b second) in
    sym x.1 ∙ (law run is time_a time_b a b x.0.granted y.0.granted same ∙ y.1)

pub epochs_follow : StepsAreRuns → HolderRelies → run_laws.EpochsFollow → EpochsFollow
epochs_follow runs relies law terms steps are clocks name time_a time_b c d a b first second le =
    let run = run_of terms name steps in
    let is = runs terms steps are name in
    let x = relies run is.0 c time_a a (holds terms steps are name time_a c a first) in
    let y = relies run is.0 d time_b b (holds terms steps are name time_b d b second) in
    elim (law run is.0 (is.1 clocks) time_a time_b a b x.0.granted y.0 le) [ inl less ↦ inl less | inr same ↦ inr (sym x.1 ∙ (same ∙ y.1)) ]

pub held_was_asked : StepsAreRuns → HolderRelies → run_laws.GrantedWasAsked → HeldWasAsked
held_was_asked runs relies law terms steps are name time client ask h =
    let run = run_of terms name steps in
    let is = (runs terms steps are name).0 in
    let x = relies run is client time ask (holds terms steps are name time client ask h) in
    subst (λ (c : Client). IsAmong (record { at = ask.sent; by = c; what = sends (request name c ask.number ask.epoch) }) steps) x.1
    (was_sent terms steps are name ask (law run is time ask x.0.granted))
