-- The lease of one name at one client: what the client keeps, what it may do, and when it relies.
use Rattle.std.specs.Prelude.{ℕ, ◌≡◌, ◌+◌, ◌*◌, ◌<◌, ◌≤◌, ◌==◌, ◌&&◌, not, ltb, leb, max, Bool, true, false, if◌then◌else◌, List, [], ◌∷◌}
use Rattle.std.specs.Prelude.{Option, Some, None}
use Rattle.lease_runs.specs.Lists.{IsAmong, count}
use Rattle.lease_runs.specs.Voter.{Client, Ask}
use Rattle.lease_runs.specs.Run.{ClientEvent, asks, hears, stops, Run, Does}

-- a true time, and what the client did then
pub record ClientMoment : Type 0 where
  pub at : ℕ
  pub what : ClientEvent

-- What a client keeps: the number of its last request; the greatest epoch that it gave up, with all smaller ones; its last request, where
-- it isn't given up, and who
-- granted it; the request by which it relies, until its time is over.
pub record Candidate : Type 0 where
  pub number : ℕ
  pub given_up : ℕ
  pub asked : Option Ask
  pub votes : ℕ → Bool
  pub lease : Option Ask

abbrev pub no_votes : ℕ → Bool
no_votes voter = false

-- a client that begins
abbrev pub beginning : Candidate
beginning = record { number = 0; given_up = 0; asked = None; votes = no_votes; lease = None }

-- by its own clock less than its time passed since it sent the request
abbrev pub is_in_time : ℕ → (ℕ → ℕ) → ℕ → Ask → Bool
is_in_time relies_for clock at ask = ltb (clock at) (clock ask.sent + relies_for)

-- this request renews a lease that is over
abbrev pub is_too_late : ℕ → (ℕ → ℕ) → ℕ → Ask → Option Ask → Bool
is_too_late relies_for clock at ask None = false
is_too_late relies_for clock at ask (Some lease) = (lease.epoch == ask.epoch) && not (is_in_time relies_for clock at lease)

abbrev pub is_most : ℕ → (ℕ → Bool) → Bool
is_most nodes votes = ltb nodes (2 * count votes nodes)

abbrev pub with_vote : ℕ → (ℕ → Bool) → ℕ → Bool
with_vote voter votes n = if n == voter then true else votes n

-- it relies by its last request once more than half of the voters granted it, in time; a lease that is over isn't revived
abbrev pub is_taken : ℕ → ℕ → (ℕ → ℕ) → ℕ → (ℕ → Bool) → Ask → Option Ask → Bool
is_taken nodes relies_for clock at votes ask lease = is_most nodes votes
    && (is_in_time relies_for clock at ask && not (is_too_late relies_for clock at ask lease))

abbrev pub taken : ℕ → ℕ → (ℕ → ℕ) → ℕ → (ℕ → Bool) → Ask → Option Ask → Option Ask
taken nodes relies_for clock at votes ask lease = if is_taken nodes relies_for clock at votes ask lease then Some ask else lease

-- one vote more, for the request of this number
abbrev pub voted : ℕ → ℕ → (ℕ → ℕ) → ℕ → ℕ → ℕ → Candidate → Option Ask → Candidate
voted nodes relies_for clock at voter number c None = c
voted nodes relies_for clock at voter number c (Some ask) =
    if ask.number == number
    then record c { votes = with_vote voter c.votes; lease = taken nodes relies_for clock at (with_vote voter c.votes) ask c.lease }
    else c

abbrev pub above : ℕ → Option Ask → Option Ask
above epoch None = None
above epoch (Some ask) = if leb ask.epoch epoch then None else Some ask

-- what the client keeps then
abbrev pub after_act : ℕ → ℕ → (ℕ → ℕ) → Candidate → ℕ → ClientEvent → Candidate
after_act nodes relies_for clock c at (asks ask) = record c { number = ask.number; asked = Some ask; votes = no_votes }
after_act nodes relies_for clock c at (hears voter ask) = voted nodes relies_for clock at voter ask.number c c.asked
after_act nodes relies_for clock c at (stops epoch) = record c {
  given_up = max c.given_up epoch;
  asked = above epoch c.asked;
  lease =
      above epoch c.lease;
}

-- what a client may do: a request has a number that none before it had, and an epoch that isn't given up; an answer is one of a voter, to a
-- request of its own
abbrev pub MayAct : ℕ → Client → Candidate → ℕ → ClientEvent → Type 0
MayAct nodes self c at (asks ask) = (ask.client ≡ self) × (ask.sent ≡ at) × (c.number < ask.number) × (c.given_up < ask.epoch)
MayAct nodes self c at (hears voter ask) = (ask.client ≡ self) × (voter < nodes)
MayAct nodes self c at (stops epoch) = Unit {0}

-- the moments may follow one another, from this true time on
abbrev pub FollowsFrom : ℕ → ℕ → (ℕ → ℕ) → Client → ℕ → Candidate → List ClientMoment → Type 0
FollowsFrom nodes relies_for clock self time c [] = Unit {0}
FollowsFrom nodes relies_for clock self time c (m ∷ ms) =
    (time ≤ m.at) × MayAct nodes self c m.at m.what × FollowsFrom nodes relies_for clock self m.at
    (after_act nodes relies_for clock c m.at m.what) ms

-- what they leave
abbrev pub left : ℕ → ℕ → (ℕ → ℕ) → Candidate → List ClientMoment → Candidate
left nodes relies_for clock c [] = c
left nodes relies_for clock c (m ∷ ms) = left nodes relies_for clock (after_act nodes relies_for clock c m.at m.what) ms

-- the moments are those of a client of a run, in their order, and it keeps to the rules
pub record IsClientOf (run : Run) (client : Client) (ms : List ClientMoment) : Type 0 where
  pub all : (at : ℕ) (what : ClientEvent) → Does run at client what → IsAmong (record { at = at; what = what }) ms
  pub did : (at : ℕ) (what : ClientEvent) → IsAmong (record { at = at; what = what }) ms → Does run at client what
  pub follows : FollowsFrom run.nodes run.relies_for (run.clock client.machine client.boot) client 0 beginning ms
