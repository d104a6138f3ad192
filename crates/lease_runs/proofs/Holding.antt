-- A client that keeps to the rules relies on what it holds.
use Rattle.std.proofs.Common.{◌≡◌, ◌⊎◌, ℕ, ◌+◌, ◌<◌, ◌≤◌, Bool, true, false, List, [], ◌∷◌, ◌++◌, Option, Some, None, refl, sym, ◌∙◌, ap}
use Rattle.std.proofs.Common.{subst, inl, inr, arith}
use Rattle.std.proofs.lemmas.Bool.{and_parts, cond_both, ltb-true, leb-false, eqb-true}
use Rattle.std.specs.Prelude.{◌*◌, ◌==◌, leb}
use Rattle.lease_runs.specs.Lists.{IsAmong, count}
use Rattle.lease_runs.specs.Voter.{Client, Ask}
use Rattle.lease_runs.specs.Run.{Run, ClientEvent, asks, hears, stops, Does, WasGranted, IsRun}
use Rattle.lease_runs.specs.Candidate.{ClientMoment, Candidate, MayAct, FollowsFrom, above, after_act, beginning, is_most, is_taken, left}
use Rattle.lease_runs.specs.Candidate.{taken, voted, with_vote}
use Rattle.lease_runs.specs.Holding.{HeldEpochsRise, HolderRelies, KeptLease, KeptWasGranted, OneHolds}
use Rattle.lease_runs.proofs.Apart.{one_holder}
use Rattle.lease_runs.proofs.Epochs.{epochs_rise}

abbrev moment : ℕ → ClientEvent → ClientMoment
moment at what = record { at = at; what = what }

-- the client heard by then that the voter granted the request
abbrev Heard : List ClientMoment → ℕ → ℕ → Ask → Type 0
Heard all now voter ask = (at : ℕ) × (at ≤ now) × IsAmong (moment at (hears voter ask)) all

heard_later : (all : List ClientMoment) (now time voter : ℕ) (ask : Ask) → now ≤ time → Heard all now voter ask → Heard all time voter ask
heard_later all now time voter ask le heard = (heard.0, omega (arith, le, heard.1), heard.2)

-- more than half of the voters granted the request, as the client heard
record IsGranted (nodes : ℕ) (client : Client) (all : List ClientMoment) (now : ℕ) (ask : Ask) : Type 0 where
  pub own : ask.client ≡ client
  pub quorum : ℕ → Bool
  pub most : nodes < 2 * count quorum nodes
  pub heard : (voter : ℕ) → quorum voter ≡ true → Heard all now voter ask

granted_later : (nodes : ℕ) (client : Client) (all : List ClientMoment) (now time : ℕ) (ask : Ask) → now ≤ time
    → IsGranted nodes client all now ask → IsGranted nodes client all time ask
granted_later nodes client all now time ask le granted =
    record {
      own = granted.own;
      quorum = granted.quorum;
      most = granted.most;
      heard = λ voter is. heard_later all now time voter ask le (granted.heard voter is);
    }

-- what the client keeps is so
record Kept (nodes : ℕ) (client : Client) (all : List ClientMoment) (now : ℕ) (c : Candidate) : Type 0 where
  pub opened : (o : Ask) → c.asked ≡ Some o → (o.client ≡ client) × IsAmong (moment o.sent (asks o)) all × (c.given_up < o.epoch)
  pub voted : (o : Ask) → c.asked ≡ Some o → (voter : ℕ) → c.votes voter ≡ true → Heard all now voter o
  pub leased : (l : Ask) → c.lease ≡ Some l → IsGranted nodes client all now l × (c.given_up < l.epoch)

kept_later : (nodes : ℕ) (client : Client) (all : List ClientMoment) (now time : ℕ) (c : Candidate) → now ≤ time
    → Kept nodes client all now c → Kept nodes client all time c
kept_later nodes client all now time c le kept = record {
  opened = kept.opened;
  voted = λ o is voter vote. heard_later all now time voter o le (kept.voted o is voter vote);
  leased = λ l is. (let x = kept.leased l is in (granted_later nodes client all now time l le x.0, x.1));
}

same_some : (x y : Ask) → Some x ≡ Some y → x ≡ y
same_some x y e = cc

-- ---- requests have numbers of their own

-- one vote more, or as it was
by_voted : (P : Candidate → Type 0) (nodes relies_for : ℕ) (clock : ℕ → ℕ) (at voter number : ℕ) (c : Candidate) (o : Option Ask)
    → ((req : Ask) → o ≡ Some req → req.number ≡ number
    → P (record c { votes = with_vote voter c.votes; lease = taken nodes relies_for clock at (with_vote voter c.votes) req c.lease }))
    → P c → P (voted nodes relies_for clock at voter number c o)
by_voted P nodes relies_for clock at voter number c None one same = same
by_voted P nodes relies_for clock at voter number c (Some req) one same = cond_both (req.number == number)
    (record c { votes = with_vote voter c.votes; lease = taken nodes relies_for clock at (with_vote voter c.votes) req c.lease }) c P
    (λ is. one req refl (eqb-true req.number number is)) (λ other. same)

number_rises : (nodes relies_for : ℕ) (clock : ℕ → ℕ) (self : Client) (c : Candidate) (at : ℕ) (what : ClientEvent)
    → MayAct nodes self c at what → c.number ≤ (after_act nodes relies_for clock c at what).number
number_rises nodes relies_for clock self c at (asks ask) may = omega (arith, may.2)
number_rises nodes relies_for clock self c at (hears voter ask) may =
    by_voted (λ (d : Candidate). c.number ≤ d.number) nodes relies_for clock at voter ask.number c c.asked (λ req is same. omega arith)
    (omega arith)
number_rises nodes relies_for clock self c at (stops epoch) may = omega arith

asked_above : (nodes relies_for : ℕ) (clock : ℕ → ℕ) (self : Client) (time : ℕ) (c : Candidate) (ms : List ClientMoment)
    → FollowsFrom nodes relies_for clock self time c ms
    → (at : ℕ) (ask : Ask) → IsAmong (moment at (asks ask)) ms → c.number < ask.number
asked_above nodes relies_for clock self time c [] follows at ask i = absurd i
asked_above nodes relies_for clock self time c (m ∷ ms) follows at ask (inl e) =
    (rw (← e) at follows.1).2
asked_above nodes relies_for clock self time c (m ∷ ms) follows at ask (inr i) =
    let rises = number_rises nodes relies_for clock self c m.at m.what follows.1 in
    let later = asked_above nodes relies_for clock self m.at (after_act nodes relies_for clock c m.at m.what) ms follows.2 at ask i in
    omega (arith, rises, later)

asked_behind : (nodes relies_for : ℕ) (clock : ℕ → ℕ) (self : Client) (c : Candidate) (m : ClientMoment) (ms : List ClientMoment)
    → FollowsFrom nodes relies_for clock self m.at (after_act nodes relies_for clock c m.at m.what) ms
    → (at : ℕ) (a : Ask) → moment at (asks a) ≡ m → (time : ℕ) (b : Ask) → IsAmong (moment time (asks b)) ms → a.number < b.number
asked_behind nodes relies_for clock self c m ms follows at a e time b i =
    asked_above nodes relies_for clock self at (after_act nodes relies_for clock c at (asks a)) ms
    (rw (← e) at follows) time b i

one_number : (nodes relies_for : ℕ) (clock : ℕ → ℕ) (self : Client) (time : ℕ) (c : Candidate) (ms : List ClientMoment)
    → FollowsFrom nodes relies_for clock self time c ms
    → (s t : ℕ) (a b : Ask) → IsAmong (moment s (asks a)) ms → IsAmong (moment t (asks b)) ms → a.number ≡ b.number → a ≡ b
one_number nodes relies_for clock self time c [] follows s t a b i j same = absurd i
one_number nodes relies_for clock self time c (m ∷ ms) follows s t a b (inl d) (inl e) same =
    both a b (ap (λ (n : ClientMoment). n.what) (d ∙ sym e)) where
      both : (x y : Ask) → asks x ≡ asks y → x ≡ y
      both x y is = cc
one_number nodes relies_for clock self time c (m ∷ ms) follows s t a b (inl d) (inr j) same =
    (let less = asked_behind nodes relies_for clock self c m ms follows.2 s a d t b j in absurd (omega (arith, less, same)))
one_number nodes relies_for clock self time c (m ∷ ms) follows s t a b (inr i) (inl e) same =
    (let less = asked_behind nodes relies_for clock self c m ms follows.2 t b e s a i in absurd (omega (arith, less, same)))
one_number nodes relies_for clock self time c (m ∷ ms) follows s t a b (inr i) (inr j) same =
    one_number nodes relies_for clock self m.at (after_act nodes relies_for clock c m.at m.what) ms follows.2 s t a b i j same

-- ---- one moment

open_above : (epoch : ℕ) (o : Option Ask) (x : Ask) → above epoch o ≡ Some x → (o ≡ Some x) × (epoch < x.epoch)
open_above epoch None x is = absurd cc
open_above epoch (Some ask) x is = cond_both (leb ask.epoch epoch) None (Some ask)
    (λ (o : Option Ask). o ≡ Some x → (Some ask ≡ Some x) × (epoch < x.epoch)) (λ gone bad. absurd cc)
    (λ more same. (same, rw (same_some ask x same) at (leb-false ask.epoch epoch more))) is

-- every request that a voter is heard to have granted was made
abbrev AllAsked : ℕ → Client → List ClientMoment → Type 0
AllAsked nodes client all = (at voter : ℕ) (ask : Ask) → IsAmong (moment at (hears voter ask)) all → ask.client ≡ client → voter < nodes
    → IsAmong (moment ask.sent (asks ask)) all

abbrev AreNumbered : List ClientMoment → Type 0
AreNumbered all = (s t : ℕ) (a b : Ask) → IsAmong (moment s (asks a)) all → IsAmong (moment t (asks b)) all → a.number ≡ b.number → a ≡ b

module _ (nodes relies_for : ℕ) (clock : ℕ → ℕ) (client : Client) (all : List ClientMoment) (asked : AllAsked nodes client all)
    (numbered : AreNumbered all) where
  kept_voted : (now : ℕ) (c : Candidate) (at voter : ℕ) (ask req : Ask) → now ≤ at → IsAmong (moment at (hears voter ask)) all
      → ask.client ≡ client → voter < nodes → c.asked ≡ Some req → req.number ≡ ask.number → Kept nodes client all now c
      → Kept nodes client all at
      (record c { votes = with_vote voter c.votes; lease = taken nodes relies_for clock at (with_vote voter c.votes) req c.lease })
  kept_voted now c at voter ask req le here own below is_req same kept = record {
    opened = kept.opened;
    voted = λ o is n yes. subst (λ (x : Ask). Heard all at n x) (same_some req o (sym is_req ∙ is)) (vote n yes);
    leased = λ l. cond_both (is_taken nodes relies_for clock at (with_vote voter c.votes) req c.lease) (Some req) c.lease
        (λ (o : Option Ask). o ≡ Some l → IsGranted nodes client all at l × (c.given_up < l.epoch))
        (λ is one. subst (λ (x : Ask). IsGranted nodes client all at x × (c.given_up < x.epoch)) (same_some req l one) (by_this is))
        (λ is old. (let x = kept.leased l old in (granted_later nodes client all now at l le x.0, x.1)));
  }
    where
      opened : (req.client ≡ client) × IsAmong (moment req.sent (asks req)) all × (c.given_up < req.epoch)
      opened = kept.opened req is_req

      vote : (n : ℕ) → with_vote voter c.votes n ≡ true → Heard all at n req
      vote n = cond_both (n == voter) true (c.votes n) (λ (b : Bool). b ≡ true → Heard all at n req)
          (λ is yes. (
            at,
            omega arith,
            subst (λ (a : Ask). IsAmong (moment at (hears n a)) all)
                (numbered ask.sent req.sent ask req (asked at voter ask here own below) opened.1 (sym same))
                (rw (eqb-true n voter is) here),
          ))
          (λ other yes. heard_later all now at n req le (kept.voted req is_req n yes))

      by_this : is_taken nodes relies_for clock at (with_vote voter c.votes) req c.lease ≡ true
          → IsGranted nodes client all at req × (c.given_up < req.epoch)
      by_this is = (
        record {
          own = opened.0;
          quorum = with_vote voter c.votes;
          most = ltb-true nodes (2 * count (with_vote voter c.votes) nodes) (and_parts (is_most nodes (with_vote voter c.votes)) _ is).0;
          heard = vote;
        },
        opened.2,
      )

  kept_by : (now : ℕ) (c : Candidate) (at : ℕ) (what : ClientEvent) → now ≤ at → IsAmong (moment at what) all
      → MayAct nodes client c at what → Kept nodes client all now c → Kept nodes client all at (after_act nodes relies_for clock c at what)
  kept_by now c at (asks ask) le here may kept = record {
    opened = λ o is. subst (λ (x : Ask). (x.client ≡ client) × IsAmong (moment x.sent (asks x)) all × (c.given_up < x.epoch))
        (same_some ask o is) (may.0, subst (λ (t : ℕ). IsAmong (moment t (asks ask)) all) (sym may.1) here, may.3);
    voted = λ o is voter vote. absurd (let bad : false ≡ true = vote in cc);
    leased = λ l is. (let x = kept.leased l is in (granted_later nodes client all now at l le x.0, x.1));
  }
  kept_by now c at (hears voter ask) le here may kept =
      by_voted (Kept nodes client all at) nodes relies_for clock at voter ask.number c c.asked
      (λ req is same. kept_voted now c at voter ask req le here may.0 may.1 is same kept) (kept_later nodes client all now at c le kept)
  kept_by now c at (stops epoch) le here may kept = record {
    opened = λ o is. (let x = open_above epoch c.asked o is in let y = kept.opened o x.0 in (y.0, y.1, omega (arith, x.1, y.2)));
    voted = λ o is voter vote. (let x = open_above epoch c.asked o is in heard_later all now at voter o le (kept.voted o x.0 voter vote));
    leased = λ l is. (let x = open_above epoch c.lease l is in let y = kept.leased l x.0 in
        (granted_later nodes client all now at l le y.0, omega (arith, x.1, y.1)));
  }

  kept_all : (now time : ℕ) (c : Candidate) (past later : List ClientMoment)
      → FollowsFrom nodes relies_for clock client now c (past ++ later) → ((m : ClientMoment) → IsAmong m past → IsAmong m all)
      → now ≤ time → ((m : ClientMoment) → IsAmong m past → m.at ≤ time) → Kept nodes client all now c
      → Kept nodes client all time (left nodes relies_for clock c past)
  kept_all now time c [] later follows within le before kept = kept_later nodes client all now time c le kept
  kept_all now time c (m ∷ past) later follows within le before kept =
      kept_all m.at time (after_act nodes relies_for clock c m.at m.what) past later follows.2 (λ n i. within n (inr i))
      (before m (inl refl)) (λ n i. before n (inr i)) (kept_by now c m.at m.what follows.0 (within m (inl refl)) follows.1 kept)

-- no epoch that was given up is above what is kept as given up
given_up_rises : (nodes relies_for : ℕ) (clock : ℕ → ℕ) (c : Candidate) (at : ℕ) (what : ClientEvent)
    → c.given_up ≤ (after_act nodes relies_for clock c at what).given_up
given_up_rises nodes relies_for clock c at (asks ask) = omega arith
given_up_rises nodes relies_for clock c at (hears voter ask) =
    by_voted (λ (d : Candidate). c.given_up ≤ d.given_up) nodes relies_for clock at voter ask.number c c.asked (λ req is same. omega arith)
    (omega arith)
given_up_rises nodes relies_for clock c at (stops epoch) = omega arith

all_given_up : (nodes relies_for : ℕ) (clock : ℕ → ℕ) (c : Candidate) (ms : List ClientMoment)
    → c.given_up ≤ (left nodes relies_for clock c ms).given_up
all_given_up nodes relies_for clock c [] = omega arith
all_given_up nodes relies_for clock c (m ∷ ms) =
    (let first = given_up_rises nodes relies_for clock c m.at m.what in
    let rest = all_given_up nodes relies_for clock (after_act nodes relies_for clock c m.at m.what) ms in omega (arith, first, rest))

stopped_by : (nodes relies_for : ℕ) (clock : ℕ → ℕ) (c : Candidate) (ms : List ClientMoment) (at epoch : ℕ)
    → IsAmong (moment at (stops epoch)) ms → epoch ≤ (left nodes relies_for clock c ms).given_up
stopped_by nodes relies_for clock c [] at epoch i = absurd i
stopped_by nodes relies_for clock c (m ∷ ms) at epoch (inl e) =
    rw (← e) (let rest = all_given_up nodes relies_for clock (after_act nodes relies_for clock c at (stops epoch)) ms in
    omega (arith, rest))
stopped_by nodes relies_for clock c (m ∷ ms) at epoch (inr i) =
    stopped_by nodes relies_for clock (after_act nodes relies_for clock c m.at m.what) ms at epoch i

among_both : {A : Type 0} (x : A) (xs ys : List A) → IsAmong x (xs ++ ys) → IsAmong x xs ⊎ IsAmong x ys
among_both x [] ys i = inr i
among_both x (y ∷ xs) ys (inl e) = inl (inl e)
among_both x (y ∷ xs) ys (inr i) = elim (among_both x xs ys i) [ inl j ↦ inl (inr j) | inr j ↦ inr j ]

among_first : {A : Type 0} (x : A) (xs ys : List A) → IsAmong x xs → IsAmong x (xs ++ ys)
among_first x [] ys i = absurd i
among_first x (y ∷ xs) ys (inl e) = inl e
among_first x (y ∷ xs) ys (inr i) = inr (among_first x xs ys i)

nothing_kept : (nodes : ℕ) (client : Client) (all : List ClientMoment) → Kept nodes client all 0 beginning
nothing_kept nodes client all = record { opened = λ o is. absurd cc; voted = λ o is voter vote. absurd cc; leased = λ l is. absurd cc }

-- what a client kept as its lease is granted, and not given up then
lease_is : (run : Run) → IsRun run → (client : Client) (time : ℕ) (ask : Ask) → (k : KeptLease run client time ask)
    → IsGranted run.nodes client (k.past ++ k.later) time ask
    × ((left run.nodes run.relies_for (run.clock client.machine client.boot) beginning k.past).given_up < ask.epoch)
lease_is run is_run client time ask k =
    let nodes = run.nodes in
    let clock = run.clock client.machine client.boot in
    let of = k.is_client in
    let all = k.past ++ k.later in
    let asked : AllAsked nodes client all = λ at voter a i own below.
    (let heard = is_run.answered voter below at client a (of.did at (hears voter a) i) in
    let was = is_run.asked voter below heard.0 a heard.2 in
    of.all a.sent (asks a) (subst (λ (c : Client). Does run a.sent c (asks a)) own was.1)) in
    let numbered : AreNumbered all = one_number nodes run.relies_for clock client 0 beginning all of.follows in
    let kept = kept_all nodes run.relies_for clock client all asked numbered 0 time beginning k.past k.later of.follows (λ m i.
    among_first m k.past k.later i) (omega arith) k.before (nothing_kept nodes client all) in
    kept.leased ask k.lease

granted_is : (run : Run) (client : Client) (time : ℕ) (ask : Ask) → (k : KeptLease run client time ask)
    → IsGranted run.nodes client (k.past ++ k.later) time ask → WasGranted run time ask
granted_is run client time ask k g = record {
  quorum = g.quorum;
  most = g.most;
  heard = λ voter below vote. (let h = g.heard voter vote in
      (h.0, h.1, subst (λ (c : Client). Does run h.0 c (hears voter ask)) (sym g.own) (k.is_client.did h.0 (hears voter ask) h.2)));
}

pub kept_was_granted : KeptWasGranted
kept_was_granted run is_run client time ask k = (let lease = lease_is run is_run client time ask k in
    (granted_is run client time ask k lease.0, lease.0.own))

pub holder_relies : HolderRelies
holder_relies run is_run client time ask holds =
    let clock = run.clock client.machine client.boot in
    let of = holds.is_client in
    let k : KeptLease run client time ask = record {
      past = holds.past;
      later = holds.later;
      is_client = of;
      before = holds.before;
      lease = holds.lease;
    } in
    let lease = lease_is run is_run client time ask k in
    let own = lease.0.own in (
      record {
        granted = granted_is run client time ask k lease.0;
        lasts = subst (λ (c : Client). run.clock c.machine c.boot time < run.clock c.machine c.boot ask.sent + run.relies_for) (sym own)
            (ltb-true (clock time) (clock ask.sent + run.relies_for) holds.in_time);
        goes_on = λ at epoch does le.
            stops_behind at epoch le lease.1 (among_both (moment at (stops epoch)) holds.past holds.later
            (of.all at (stops epoch) (subst (λ (c : Client). Does run at c (stops epoch)) own does)));
      },
      own,
    )
  where
    stops_behind : (at epoch : ℕ) → ask.epoch ≤ epoch → (left run.nodes run.relies_for (run.clock client.machine client.boot) beginning
        holds.past).given_up < ask.epoch
        → IsAmong (moment at (stops epoch)) holds.past ⊎ IsAmong (moment at (stops epoch)) holds.later → time < at
    stops_behind at epoch le up (inl i) =
        (let stopped = stopped_by run.nodes run.relies_for (run.clock client.machine client.boot) beginning holds.past at epoch i in
        absurd (omega (arith, stopped, le, up)))
    stops_behind at epoch le up (inr i) = holds.behind (moment at (stops epoch)) i

pub one_holds : OneHolds
one_holds run is_run timed time c d a b first second =
    let x = holder_relies run is_run c time a first in
    let y = holder_relies run is_run d time b second in
    sym x.1 ∙ (one_holder run is_run timed time a b x.0 y.0 ∙ y.1)

pub held_epochs_rise : HeldEpochsRise
held_epochs_rise run is_run time_a time_b c d a b first second before =
    let x = holder_relies run is_run c time_a a first in
    let y = holder_relies run is_run d time_b b second in
    elim (epochs_rise run is_run time_a time_b a b x.0.granted y.0.granted before) [
      | inl less ↦ inl less
      | inr same ↦ inr (sym x.1 ∙ (same.0 ∙ y.1), same.1)
    ]
