-- What the client's code does when it hears of a grant.
use Rattle.std.proofs.Common.{◌≡◌, ℕ, zero, suc, ◌+◌, ◌<◌, Bool, true, false, List, Option, Some, None, refl, sym, ◌∙◌, ap, subst, get_or}
use Rattle.std.proofs.Common.{length, arith}
use Rattle.std.proofs.lemmas.Bool.{eqb-true, eqb-false}
use Rattle.std.proofs.lemmas.List.{get_or-set_same, get_or-set_other}
use Rattle.std.specs.Prelude.{◌*◌, ◌==◌, ◌&&◌, not, ltb, option_map, replicate, set, if◌then◌else◌}
use Rattle.lease_runs.specs.Lists.{count}
use Rattle.lease_runs.specs.declared.candidate.LeaseCandidate.{LeaseCandidate}
use Rattle.lease_runs.specs.declared.candidate.Request.{Request}
use Rattle.lease_runs.specs.Voter.{Client, Ask}
use Rattle.lease_runs.specs.Code.{client_of}
use Rattle.lease_runs.specs.Candidate.{is_in_time, is_taken, taken, voted, with_vote}
use Rattle.lease_runs.specs.CandidateCode.{IsHeard, IsSent, Shows, by_clock, shown, takes}

count_same : (f g : ℕ → Bool) (n : ℕ) → ((k : ℕ) → k < n → f k ≡ g k) → count f n ≡ count g n
count_same f g zero same = refl
count_same f g (suc n) same = by_first (f n) (g n) (same n (omega arith)) (count_same f g n (λ k less. same k (omega (arith, less)))) where
  by_first : (a b : Bool) → a ≡ b → count f n ≡ count g n → (if a then 1 else 0) + count f n ≡ (if b then 1 else 0) + count g n
  by_first a b is rest = ap (λ (x : Bool). (if x then 1 else 0) + count f n) is ∙ ap (λ (k : ℕ). (if b then 1 else 0) + k) rest

vote_shown : (votes : List Bool) (f : ℕ → Bool) (voter voters : ℕ) → voter < length votes
    → ((n : ℕ) → n < voters → f n ≡ get_or votes n false) → (n : ℕ) → n < voters
    → with_vote voter f n ≡ get_or (set votes voter true) n false
vote_shown votes f voter voters within shown n less = by_same (n == voter) refl where
  by_same : (b : Bool) → (n == voter) ≡ b → (if b then true else f n) ≡ get_or (set votes voter true) n false
  by_same true is = sym (subst (λ (k : ℕ). get_or (set votes voter true) k false
      ≡ true) (sym (eqb-true n voter is)) (get_or-set_same votes voter true false within))
  by_same false is = shown n less ∙ sym (get_or-set_other votes voter n true false (eqb-false n voter is))

-- the model judges by what the clock shows alone
takes_same : (voters relies_for : ℕ) (clock : ℕ → ℕ) (at : ℕ) (f g : ℕ → Bool) (a : Ask) (lease : Option Ask)
    → ((n : ℕ) → n < voters → f n ≡ g n)
    → is_taken voters relies_for clock at f a lease ≡ is_taken voters relies_for (λ t. t) (clock at) g (shown clock a)
    (option_map (shown clock) lease)
takes_same voters relies_for clock at f g a None same =
    ap (λ (k : ℕ). ltb voters (2 * k) && (is_in_time relies_for clock at a && true)) (count_same f g voters same)
takes_same voters relies_for clock at f g a (Some l) same =
    ap (λ (k : ℕ). ltb voters (2 * k) && (is_in_time relies_for clock at a
    && not ((l.epoch == a.epoch) && not (is_in_time relies_for clock at l)))) (count_same f g voters same)

same_number : (n m : ℕ) → n ≡ m → (n == m) ≡ true
same_number n m is = grind arith

sent_if : (clock : ℕ → ℕ) (client : Client) (b : Bool) (r : Request) (a : Ask) (kept : Option Request) (lease : Option Ask)
    → shown clock a ≡ by_clock client r → IsSent clock client kept lease
    → IsSent clock client (if b then Some r else kept) (if b then Some a else lease)
sent_if clock client true r a kept lease sent shows = ap (λ (x : Ask). Some x) sent
sent_if clock client false r a kept lease sent shows = shows

the_ask : (a b : Ask) → Some a ≡ Some b → a ≡ b
the_ask a b e = cc

-- a vote for the last request
pub heard : (old new : LeaseCandidate) (now voter number : ℕ) (r : Request) (b : Bool) → voter < old.voters → voter < length old.votes
    → old.asked ≡ Some r → r.number ≡ number
    → takes old now (set old.votes voter true) r ≡ b
    → new.client ≡ old.client → new.voters ≡ old.voters → new.number ≡ old.number → new.given_up ≡ old.given_up → new.asked ≡ old.asked
    → new.votes ≡ set old.votes voter true
    → new.lease ≡ (if b then Some r else old.lease) → IsHeard old new now voter number
heard old new now voter number r b below within is same takes client voters counted given asked votes lease ask own numbered clock at v
    shows_now shows =
    ((own, below), by_asked v.asked refl (subst (λ (o : Option Request). IsSent clock (client_of old.client) o v.asked) is shows.asked))
  where
    self : Client
    self = client_of old.client

    by_asked : (o : Option Ask) → v.asked ≡ o → IsSent clock (client_of old.client) (Some r) o
        → Shows clock new (voted old.voters old.relies_for clock at voter ask.number v o)
    by_asked None none sent = absurd cc
    by_asked (Some a) some some_sent =
        let sent : shown clock a ≡ by_clock self r = the_ask (shown clock a) (by_clock self r) some_sent in
        let f = with_vote voter v.votes in
        let g = λ (n : ℕ). get_or (set old.votes voter true) n false in
        let cast : (n : ℕ) → n < old.voters → f n ≡ g n = vote_shown old.votes v.votes voter old.voters within shows.votes in
        let by_number : (a.number == ask.number) ≡ true = same_number a.number ask.number (ap (λ (x : Ask). x.number) sent
        ∙ (same ∙ sym numbered)) in
        let taking : is_taken old.voters old.relies_for clock at f a v.lease ≡ b =
        takes_same old.voters old.relies_for clock at f g a v.lease cast
        ∙ (ap (λ (t : ℕ). is_taken old.voters old.relies_for (λ s. s) t g (shown clock a) (option_map (shown clock) v.lease)) shows_now
        ∙ (ap (λ (x : Ask). is_taken old.voters old.relies_for (λ s. s) now g x (option_map (shown clock) v.lease)) sent
        ∙ (ap (λ (o : Option Ask). is_taken old.voters old.relies_for (λ s. s) now g (by_clock self r) o) shows.lease ∙ takes))) in
        subst (λ (x : Bool). Shows clock new (if x then record v { votes = f; lease = taken old.voters old.relies_for clock at f a v.lease }
        else v)) (sym by_number)
        (subst (λ (x : Bool). Shows clock new (record v { votes = f; lease = if x then Some a else v.lease })) (sym taking) (record {
          number = shows.number ∙ sym counted;
          given_up = shows.given_up ∙ sym given;
          asked = subst (λ (c : Client). IsSent clock c new.asked v.asked) (ap client_of (sym client))
              (subst (λ (o : Option Request). IsSent clock (client_of old.client) o v.asked) (sym asked) shows.asked);
          votes = λ n less. cast n (subst (λ (k : ℕ). n < k) voters less) ∙ ap (λ (l : List Bool). get_or l n false) (sym votes);
          lease = subst (λ c. IsSent clock c new.lease (if b then Some a else v.lease)) (ap client_of (sym client))
              (subst (λ (o : Option Request). IsSent clock (client_of old.client) o (if b then Some a else v.lease)) (sym lease)
              (sent_if clock (client_of old.client) b r a old.lease v.lease sent shows.lease));
        }))

-- a vote for another request, or for none
pub unheard : (old : LeaseCandidate) (now voter number : ℕ) → voter < old.voters
    → ((r : Request) → old.asked ≡ Some r → r.number ≡ number → ⊥) → IsHeard old old now voter number
unheard old now voter number below other ask own numbered clock at v shows_now shows =
    ((own, below), by_asked old.asked refl v.asked refl shows.asked) where
      by_same : (a : Ask) (x : Bool) → (a.number == ask.number) ≡ x → (a.number ≡ ask.number → ⊥)
          → Shows clock old (if x then record v {
            votes = with_vote voter v.votes;
            lease = taken old.voters old.relies_for clock at (with_vote voter v.votes) a v.lease;
          } else v)
      by_same a true same not_it = absurd (not_it (eqb-true a.number ask.number same))
      by_same a false same not_it = shows

      by_asked : (k : Option Request) → old.asked ≡ k → (o : Option Ask) → v.asked ≡ o → IsSent clock (client_of old.client) k o
          → Shows clock old (voted old.voters old.relies_for clock at voter ask.number v o)
      by_asked k is None none sent = shows
      by_asked None is (Some a) some sent = absurd cc
      by_asked (Some r) is (Some a) some sent =
          by_same a (a.number == ask.number) refl (λ same. other r is
          (sym (ap (λ (x : Ask). x.number) (the_ask (shown clock a) (by_clock (client_of old.client) r) sent)) ∙ (same ∙ numbered)))

pub none_voted : (n voter : ℕ) → get_or (replicate n false) voter false ≡ false
none_voted zero voter = refl
none_voted (suc n) zero = refl
none_voted (suc n) (suc voter) = none_voted n voter
