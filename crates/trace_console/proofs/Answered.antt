-- What is told of the turns of an order, and of all entries.
use Rattle.std.proofs.Common.{◌≡◌, ◌<◌, ◌≤◌, ◌==◌, ℕ, zero, suc, ◌+◌, Bool, true, false, List, [], ◌∷◌, length, take, reverse, slice_get}
use Rattle.std.proofs.Common.{Option, Some, None, inl, inr, refl, sym, ap, ◌∙◌, subst, arith}
use Rattle.std.specs.Prelude.{get_or, is_some}
use Rattle.std.proofs.lemmas.Bool.{cases_Bool, cases_lt, eqb-true}
use Rattle.std.proofs.lemmas.Option.{slice_get_within}
use Rattle.trace_text.specs.Tellings.{TellingData, TellingsData}
use Rattle.trace_check.specs.declared.trace.Verdict.{Verdict}
use Rattle.trace_check.specs.declared.trace.Verdict.TheVariants.{Run, NotARun}
use Rattle.trace_check.specs.Claims.{Claim}
use Rattle.trace_check.specs.Followed.{before}
use Rattle.trace_check.specs.Orders.{history, state_of, taken}
use Rattle.trace_check.specs.Verdicts.{AreTaken, DecidesRun, IsVerdict}
use Rattle.trace_check.proofs.PublicLaws.{before_more, may_take}
use Rattle.trace_console.specs.declared.answers.FalseAnswer.{FalseAnswer}
use Rattle.trace_console.specs.declared.walk.NodeCursor.{NodeCursor}
use Rattle.trace_console.specs.Answers.{AllSo, AnswersDecide, DecidesAsTold, IsComparison, IsFalse, IsFalseAt, IsFirstFalse, entry_so}
use Rattle.trace_console.specs.Answers.{is_so_if}
use Rattle.trace_console.specs.Answers.{turn_so, turn_so_of}
use Rattle.trace_console.specs.NodeAnswers.{is_finish}
use Rattle.trace_console.specs.Told.{IsSilent, told_of}
use Rattle.trace_console.specs.Turns.{seat_at}
use Rattle.trace_console.proofs.NodeCursors.{taken_same}

there : {A : Type 0} (xs : List A) (k : ℕ) → k < length xs → (x : A) × (slice_get xs k ≡ Some x)
there [] k less = absurd (omega (arith, less))
there (x ∷ xs) zero less = (x, refl)
there (x ∷ xs) (suc k) less = there xs k (omega (arith, less))

take_all : {A : Type 0} (xs : List A) → take (length xs) xs ≡ xs
take_all [] = refl
take_all (x ∷ xs) = ap (λ (ys : List _). x ∷ ys) (take_all xs)

-- one turn more
pub so_more : (hs : List (List Claim)) (d : TellingsData) (order : List ℕ) (n : ℕ) → ((k : ℕ) → k < n → turn_so hs d order k ≡ true)
    → turn_so hs d order n ≡ true → (k : ℕ) → k < n + 1 → turn_so hs d order k ≡ true
so_more hs d order n each here k less = elim (cases_lt k n) [
  | inl early ↦ each k early
  | inr now ↦ (let last : n ≡ k = omega (arith, less, now) in subst (λ (j : ℕ). turn_so hs d order j ≡ true) last here)
]

-- where so is told of the turns of an order, so is of all that were taken before one of them
all_before : (hs : List (List Claim)) (d : TellingsData) (order : List ℕ) → ((k : ℕ) → k < length order → turn_so hs d order k ≡ true)
    → (k : ℕ)
    → k ≤ length order → AllSo hs d (before order k)
all_before hs d order each zero within = tt
all_before hs d order each (suc k) within =
    let less : k < length order = omega (arith, within) in
    let n = there order k less in
    let so = subst (λ (o : Option ℕ). turn_so_of hs d (before order k) o ≡ true) n.1 (each k less) in
    subst (λ (past : List ℕ). AllSo hs d past) (sym (before_more order k n.0 n.1))
    (so, all_before hs d order each k (omega (arith, within)))

-- in an order in which each node would have told so, of each entry that it takes
pub so_taken : (hs : List (List Claim)) (d : TellingsData) (order : List ℕ) (n i : ℕ) → AllSo hs d order → i < taken n order
    → entry_so hs d n i ≡ true
so_taken hs d [] n i all less = absurd (omega (arith, less))
so_taken hs d (m ∷ past) n i all less = elim (cases_Bool (m == n)) [
  | inl same ↦ (
      let within : i < taken n past + 1 = rw same at less in
      elim (cases_lt i (taken n past)) [
        | inl early ↦ so_taken hs d past n i all.1 early
        | inr now ↦ (let last : taken n past ≡ i = omega (arith, within, now) in
            subst (λ (k : ℕ). entry_so hs d n k ≡ true) last (subst (λ (j : ℕ). entry_so hs d j (taken j past)
            ≡ true) (eqb-true m n same) all.0))
      ]
      )
  | inr other ↦ so_taken hs d past n i all.1 (rw other at less)
]

pub decide_told : AnswersDecide
decide_told hs d order None legal complete each = (
  reverse order,
  legal,
  complete,
  subst (λ (past : List ℕ). AllSo hs d past) (ap (λ (xs : List ℕ). reverse xs) (take_all order))
      (all_before hs d order each (length order) (omega arith)),
)
decide_told hs d order (Some f) legal complete found = λ run.
    let past = before order f.turn in
    let may = may_take hs order f.turn f.node legal found.0.node in
    let inside = slice_get_within (history hs f.node) (taken f.node past) may.claim may.next in
    let whole = run.2 f.node in
    let index = found.0.index in
    let so = so_taken hs d run.0 f.node f.index run.3 (omega (arith, inside, whole, index)) in
    let clash : true ≡ false = sym so ∙ found.0.other in cc

pub decide_as_told : (hs : List (List Claim)) (d : TellingsData) (v : Verdict) (order : List ℕ) (found : Option FalseAnswer)
    → IsVerdict hs v
    → DecidesRun hs v → AreTaken hs v order → IsFirstFalse hs d order found → DecidesAsTold hs d v found
decide_as_told hs d (Run run) order found is decides are first =
    decide_told hs d run.items found is.0 is.2 (subst (λ (xs : List ℕ). IsFirstFalse hs d xs found) are.run first)
decide_as_told hs d (NotARun node index) order found is decides are first = λ run. decides (run.0, run.1, run.2)

-- ---- a turn

-- what is asked of a node that stands so before and behind its turn is asked of its entry
pub entry_is : (hs : List (List Claim)) (d : TellingsData) (order : List ℕ) (k n : ℕ) (b : Bool) (old new : NodeCursor)
    → slice_get order k ≡ Some n
    → old ≡ seat_at hs (before order k) n → new ≡ seat_at hs (before order (k + 1)) n → b ≡ is_finish (slice_get (history hs n) old.index)
    → is_so_if (told_of d n old.index) b old.node_model.node new.node_model.node ≡ entry_so hs d n (taken n (before order k))
entry_is hs d order k n b old new at was is finishes =
    let past = before order k in
    let i = taken n past in
    let next : k + 1 ≡ suc k = omega arith in
    let more : taken n (before order (k + 1)) ≡ i + 1 = ap (λ (j : ℕ). taken n (before order j)) next
    ∙ ap (taken n) (before_more order k n at) ∙ taken_same n past in
    ap (λ (f : Bool). is_so_if (told_of d n old.index) f old.node_model.node new.node_model.node) finishes
    ∙ ap (λ (x : NodeCursor). is_so_if (told_of d n x.index) (is_finish (slice_get (history hs n) x.index)) x.node_model.node
    new.node_model.node) was
    ∙ ap (λ (x : NodeCursor). is_so_if (told_of d n i) (is_finish (slice_get (history hs n) i)) (state_of hs n i) x.node_model.node) is
    ∙ ap (λ (j : ℕ). is_so_if (told_of d n i) (is_finish (slice_get (history hs n) i)) (state_of hs n i) (state_of hs n j)) more

pub turn_is : (hs : List (List Claim)) (d : TellingsData) (order : List ℕ) (k n : ℕ) → slice_get order k ≡ Some n
    → turn_so hs d order k ≡ entry_so hs d n (taken n (before order k))
turn_is hs d order k n at = ap (λ (o : Option ℕ). turn_so_of hs d (before order k) o) at

-- where nothing is told
silent_turn : (hs : List (List Claim)) (d : TellingsData) (past : List ℕ) (o : Option ℕ) → IsSilent d → turn_so_of hs d past o ≡ true
silent_turn hs d past None silent = refl
silent_turn hs d past (Some n) silent =
    let i = taken n past in
    ap (λ (r : List (Option TellingData)). is_so_if (get_or r i None) (is_finish (slice_get (history hs n) i)) (state_of hs n i)
    (state_of hs n (i + 1))) (silent n)

pub silent_first : (hs : List (List Claim)) (d : TellingsData) (order : List ℕ) → IsSilent d → IsFirstFalse hs d order None
silent_first hs d order silent = λ turn less. silent_turn hs d (before order turn) (slice_get order turn) silent

-- the first turn that is false
pub first_at : (hs : List (List Claim)) (d : TellingsData) (order : List ℕ) (turn : ℕ) (found : Option FalseAnswer) → is_some found ≡ true
    → IsFalseAt hs d order turn found → ((k : ℕ) → k < turn → turn_so hs d order k ≡ true) → IsFirstFalse hs d order found
first_at hs d order turn None some at each = absurd cc
first_at hs d order turn (Some f) some at each = (
  subst (λ (k : ℕ). IsFalse hs d order k f) (sym at.turn) at,
  subst (λ (n : ℕ). (k : ℕ) → k < n → turn_so hs d order k ≡ true) (sym at.turn) each,
)

-- what was found of the entries that can be taken, in the order of the checker
pub compared : (hs : List (List Claim)) (d : TellingsData) (v : Verdict) (order : List ℕ) (found : Option FalseAnswer) → IsVerdict hs v
    → DecidesRun hs v → AreTaken hs v order → IsFirstFalse hs d order found → IsComparison hs d found
compared hs d v order found is decides taken first = record {
  verdict = v;
  is_verdict = is;
  order = order;
  taken = taken;
  first = first;
  decides =
      decide_as_told hs d v order found is decides taken first;
}
