-- No order takes more than one that is stuck.
use Rattle.std.proofs.Common.{◌≡◌, ◌≤◌, ◌<◌, ◌==◌, ℕ, ◌+◌, List, [], ◌∷◌, length, inl, inr, subst, arith}
use Rattle.std.proofs.lemmas.Bool.{cases_Bool, cases_lt, eqb-true}
use Rattle.wire_msg.specs.Envelope.{Envelope}
use Rattle.histories.specs.Lists.{Each}
use Rattle.trace_check.specs.Claims.{Claim, MayCome, brought_by}
use Rattle.trace_check.specs.Orders.{taken, state_of, IsSent, MayTake, IsStuck, NoneGoesFurther, NoneComplete}

-- what was sent stays sent where more is taken
pub sent_more : (hs : List (List Claim)) (earlier order : List ℕ) (m : Envelope) → ((n : ℕ) → taken n earlier ≤ taken n order)
    → IsSent hs earlier m → IsSent hs order m
sent_more hs earlier order m more s =
    let far = more s.node in let before = s.before in
    record { node = s.node; index = s.index; claim = s.claim; before = omega (arith, far, before); stands = s.stands; sends = s.sends }

pub all_sent_more : (hs : List (List Claim)) (earlier order : List ℕ) (ms : List Envelope) → ((n : ℕ) → taken n earlier ≤ taken n order)
    → Each (λ (m : Envelope). IsSent hs earlier m) ms → Each (λ (m : Envelope). IsSent hs order m) ms
all_sent_more hs earlier order [] more h = tt
all_sent_more hs earlier order (m ∷ ms) more h = (sent_more hs earlier order m more h.0, all_sent_more hs earlier order ms more h.1)

-- an entry that could be taken can be taken later, where its node has stood still
may_take_later : (hs : List (List Claim)) (earlier order : List ℕ) (n : ℕ) → ((m : ℕ) → taken m earlier ≤ taken m order)
    → taken n earlier ≡ taken n order → MayTake hs earlier n → MayTake hs order n
may_take_later hs earlier order n more same t =
    record {
      claim = t.claim;
      next = rw same at t.next;
      possible = subst (λ (k : ℕ). MayCome n (length hs) (state_of hs n k) t.claim) same t.possible;
      sent = all_sent_more hs earlier order (brought_by t.claim.action) more t.sent;
      addressed = t.addressed;
    }

-- a node whose next entry can be taken is behind
behind : (hs : List (List Claim)) (order earlier : List ℕ) (m : ℕ) → IsStuck hs order → ((k : ℕ) → taken k earlier ≤ taken k order)
    → MayTake hs earlier m → taken m earlier < taken m order
behind hs order earlier m stuck more t =
    let far = more m in
    elim (cases_lt (taken m earlier) (taken m order)) [
      | inl less ↦ less
      | inr not_less ↦ let same : taken m earlier ≡ taken m order = omega (arith, far, not_less) in
          absurd (stuck m (may_take_later hs earlier order m more same t))
    ]

step_further : (hs : List (List Claim)) (order earlier : List ℕ) (m n : ℕ) → IsStuck hs order → ((k : ℕ) → taken k earlier ≤ taken k order)
    → MayTake hs earlier m → taken n (m ∷ earlier) ≤ taken n order
step_further hs order earlier m n stuck more t =
    let less = behind hs order earlier m stuck more t in
    elim (cases_Bool (m == n)) [
      | inl same ↦ rw same (let up : taken m earlier + 1 ≤ taken m order = omega (arith, less) in rw (eqb-true m n same) at up)
      | inr other ↦ rw other (more n)
    ]

pub further : NoneGoesFurther
further hs order [] stuck legal n = omega arith
further hs order (m ∷ earlier) stuck legal n = step_further hs order earlier m n stuck (further hs order earlier stuck legal.1) legal.0

pub not_complete : NoneComplete
not_complete hs order other n stuck left legal complete =
    let far = further hs order other stuck legal n in let all = complete n in absurd (omega (arith, far, all, left))
