-- A run in which two clients rely on leases, one after the other.
use Rattle.std.proofs.Common.{◌≡◌, ℕ, zero, suc, ◌<◌, ◌≤◌, Bool, true, false, List, [], ◌∷◌, refl, inl, inr, arith}
use Rattle.std.specs.List.{AllByRecursion}
use Rattle.lease_runs.specs.Lists.{IsAmong}
use Rattle.lease_runs.specs.Voter.{Client, Ask, VoterEvent, grants, releases, raises, Moment, opening, Follows}
use Rattle.lease_runs.specs.Run.{Run, ClientEvent, asks, hears, stops, Act, Does, Relies, IsRun, IsTimed}
use Rattle.lease_runs.specs.Laws.{LeasesHappen}

abbrev ann : Client
ann = record { machine = 0; boot = 0; number = 0 }

abbrev bob : Client
bob = record { machine = 1; boot = 0; number = 0 }

abbrev first : Ask
first = record { client = ann; number = 0; epoch = 1; sent = 199 }

abbrev second : Ask
second = record { client = bob; number = 0; epoch = 2; sent = 219 }

abbrev moments : List Moment
moments =
    record { at = 0; what = raises 8 }
    ∷ record { at = 200; what = grants first }
    ∷ record { at = 211; what = releases ann 1 }
    ∷ record { at = 220; what = grants second }
    ∷ []

abbrev actions : List Act
actions =
    record { at = 199; client = ann; what = asks first }
    ∷ record { at = 219; client = bob; what = asks second }
    ∷ record { at = 210; client = ann; what = stops 1 }
    ∷ record { at = 201; client = ann; what = hears 0 first }
    ∷ record { at = 201; client = ann; what = hears 1 first }
    ∷ record { at = 221; client = bob; what = hears 1 second }
    ∷ record { at = 221; client = bob; what = hears 2 second }
    ∷ []

abbrev run : Run
run = record {
  nodes = 3;
  keeps = 160;
  relies_for = 150;
  clock = λ machine boot t. t;
  grain = 5;
  history = λ voter. moments;
  acts = actions;
}

follows : Follows 160 (λ boot t. t) 0 (opening (λ boot t. t)) moments
follows = (
  omega arith,
  omega arith,
  (
    omega arith,
    (omega arith, omega arith, inl (omega arith, inl refl)),
    (omega arith, (refl, refl), (omega arith, (omega arith, omega arith, inl (omega arith, inl refl)), tt)),
  ),
)

-- a request that is granted was sent before, and who releases had stopped
abbrev IsFounded : ℕ → VoterEvent → Type 0
IsFounded at (grants ask) = (ask.sent ≤ at) × Does run ask.sent ask.client (asks ask)
IsFounded at (releases client epoch) = (time : ℕ) × (time ≤ at) × Does run time client (stops epoch)
IsFounded at _ = Unit {0}

founded : AllByRecursion (λ (m : Moment). IsFounded m.at m.what) moments
founded = (tt, ((omega arith, inl refl), ((210, omega arith, inr (inr (inl refl))), ((omega arith, inr (inl refl)), tt))))

-- what is heard was granted before, and Ann alone stops
abbrev IsBehind : Act → ClientEvent → Type 0
IsBehind act (asks ask) = Unit {0}
IsBehind act (hears voter ask) = (at : ℕ) × (at ≤ act.at) × IsAmong (record { at = at; what = grants ask }) moments
IsBehind act (stops epoch) = (act.at ≡ 210) × (act.client.machine ≡ 0)

behind : AllByRecursion (λ (a : Act). IsBehind a a.what) actions
behind =
    let one : IsBehind (record { at = 201; client = ann; what = hears 0 first }) (hears 0 first) = (200, omega arith, inr (inl refl)) in
    let two : IsBehind (record { at = 221; client = bob; what = hears 1 second }) (hears 1 second) =
    (220, omega arith, inr (inr (inr (inl refl)))) in
    (tt, (tt, ((refl, refl), (one, (one, (two, (two, tt)))))))

of_each : {A : Type 0} (P : A → Type 0) (x : A) (xs : List A) → AllByRecursion P xs → IsAmong x xs → P x
of_each P x [] all i = absurd i
of_each P x (y ∷ xs) all (inl e) = rw e all.0
of_each P x (y ∷ xs) all (inr i) = of_each P x xs all.1 i

of_moment : (at : ℕ) (what : VoterEvent) → IsAmong (record { at = at; what = what }) moments → IsFounded at what
of_moment at what = of_each (λ (m : Moment). IsFounded m.at m.what) (record { at = at; what = what }) moments founded

of_act : (at : ℕ) (client : Client) (what : ClientEvent) → Does run at client what
    → IsBehind (record { at = at; client = client; what = what }) what
of_act at client what = of_each (λ (a : Act). IsBehind a a.what) (record { at = at; client = client; what = what }) actions behind

is_run : IsRun run
is_run = record {
  voters = λ voter below. follows;
  asked = λ voter below at ask. of_moment at (grants ask);
  answered = λ voter below time client ask. of_act time client (hears voter ask);
}

is_timed : IsTimed run
is_timed = record {
  clocks = λ machine boot s t le. (omega (arith, le), omega (arith, le));
  margin = omega arith;
  released = λ voter below time client epoch. of_moment time (releases client epoch);
}

abbrev low : ℕ → Bool
low zero = true
low (suc zero) = true
low (suc (suc n)) = false

abbrev high : ℕ → Bool
high zero = false
high (suc n) = true

low_heard : (voter : ℕ) → voter < 3 → low voter ≡ true → (at : ℕ) × (at ≤ 201) × Does run at ann (hears voter first)
low_heard zero below q = (201, omega arith, inr (inr (inr (inl refl))))
low_heard (suc zero) below q = (201, omega arith, inr (inr (inr (inr (inl refl)))))
low_heard (suc (suc n)) below q = absurd cc

high_heard : (voter : ℕ) → voter < 3 → high voter ≡ true → (at : ℕ) × (at ≤ 221) × Does run at bob (hears voter second)
high_heard zero below q = absurd cc
high_heard (suc zero) below q = (221, omega arith, inr (inr (inr (inr (inr (inl refl))))))
high_heard (suc (suc zero)) below q = (221, omega arith, inr (inr (inr (inr (inr (inr (inl refl)))))))
high_heard (suc (suc (suc n))) below q = absurd (omega (arith, below))

relies_first : Relies run 201 first
relies_first = record {
  granted = record { quorum = low; most = omega arith; heard = low_heard };
  lasts = omega arith;
  goes_on = λ at epoch i le. omega (arith, (of_act at ann (stops epoch) i).0);
}

relies_second : Relies run 221 second
relies_second = record {
  granted = record { quorum = high; most = omega arith; heard = high_heard };
  lasts = omega arith;
  goes_on = λ at epoch i le. absurd (omega (arith, (of_act at bob (stops epoch) i).1));
}

pub leases_happen : LeasesHappen
leases_happen = (run, 201, 221, first, second, refl, is_run, is_timed, relies_first, relies_second, omega arith, omega arith)
