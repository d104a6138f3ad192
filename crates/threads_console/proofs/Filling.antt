-- Plans that turns are added to, one after another.
use Rattle.std.proofs.Common.{◌≡◌, ◌≢◌, ◌==◌, ℕ, zero, suc, ◌+◌, ◌<◌, Bool, true, false, List, [], ◌∷◌, ◌++◌, length, flat_map, replicate}
use Rattle.std.proofs.Common.{slice_get, slice_set, slice_index_or, if◌then◌else◌, Some, Result, Ok, Err, refl, sym, ap, subst, ◌∙◌}
use Rattle.std.proofs.Common.{append_assoc, append-nil, arith}
use Rattle.std.proofs.lemmas.Bool.Decides.{nat_tests}
use Rattle.std.proofs.lemmas.List.{length-replicate, length-set, replicate-append-replicate}
use Rattle.std.proofs.lemmas.Option.{get_or_from_slice_get}
use Rattle.line_words.specs.declared.lines.LineFault.{LineFault}
use Rattle.line_words.specs.declared.lines.LineFault.TheVariants.{BadLine, NoMemory}
use Rattle.line_words.specs.Lines.{IsFaultAt, IsLineFault}
use Rattle.line_words.specs.Words.{words_of}
use Rattle.node_lock.specs.Planned.{Planned}
use Rattle.node_threads.proofs.PublicLaws.{place_of}
use Rattle.threads_console.specs.declared.turn.PlanTurn.{PlanTurn}
use Rattle.threads_console.specs.declared.turn.PlanTurn.TheVariants.{Poll, Fire, Do}
use Rattle.threads_console.specs.Planning.{AddsLine, ArePlanned, IsPlaced, done_in, fired_in, no_plans, polled_in, turns_at, with_turn}
use Rattle.threads_console.specs.Scripts.{AreRead, in_front, turns_of}
use Rattle.threads_console.specs.Turns.{line_of}

-- the turn added to the plans of its node
abbrev pub placed : ℕ × PlanTurn → List Planned → List Planned
placed turn ps = slice_set ps turn.0 (with_turn (slice_index_or ps turn.0 no_plans) turn.1)

abbrev pub after_turns : List Planned → List (ℕ × PlanTurn) → List Planned
after_turns ps [] = ps
after_turns ps (turn ∷ turns) = after_turns (placed turn ps) turns

abbrev pub filled : List Planned → Result (List (ℕ × PlanTurn)) ℕ → Result (List Planned) ℕ
filled ps (Ok turns) = Ok (after_turns ps turns)
filled ps (Err n) = Err n

is_placed : (turn : ℕ × PlanTurn) (old new : List Planned) → turn.0 < length old → IsPlaced turn old new → new ≡ placed turn old
is_placed turn old new within is =
    let at = place_of old turn.0 within in
    is at.0 at.1 ∙ ap (λ (p : Planned). slice_set old turn.0 (with_turn p turn.1))
    (sym (get_or_from_slice_get old turn.0 at.0 no_plans at.1))

filled_turn : (n : ℕ) (turn : ℕ × PlanTurn) (old : List Planned) (r : Result (List (ℕ × PlanTurn)) ℕ)
    → filled old (in_front n (Some turn) r) ≡ filled (placed turn old) r
filled_turn n turn old (Ok turns) = refl
filled_turn n turn old (Err m) = refl

-- the turn of a line goes into the plans in front of those of later lines
pub filled_line : (nodes n : ℕ) (line : List ℕ) (lines : List (ℕ × List ℕ)) (old new : List Planned) → length old ≡ nodes
    → AddsLine nodes line old new
    → filled old (turns_of nodes ((n, line) ∷ lines)) ≡ filled new (turns_of nodes lines)
filled_line nodes n line lines old new count adds =
    let is : new ≡ placed adds.turn old = is_placed adds.turn old new (omega (arith, adds.within, count)) adds.placed in
    rw adds.reads (rw is (filled_turn n adds.turn old (turns_of nodes lines)))

-- and so they are as many
length_placed : (turn : ℕ × PlanTurn) (ps : List Planned) → length (placed turn ps) ≡ length ps
length_placed turn ps = length-set ps turn.0 (with_turn (slice_index_or ps turn.0 no_plans) turn.1)

pub as_many : (nodes : ℕ) (line : List ℕ) (old new : List Planned) → length old ≡ nodes → AddsLine nodes line old new → length new ≡ nodes
as_many nodes line old new count adds =
    ap (λ (ps : List Planned). length ps) (is_placed adds.turn old new (omega (arith, adds.within, count)) adds.placed)
    ∙ length_placed adds.turn old ∙ count

-- ---- a line that can't be read

is_err : (ps : List Planned) (r : Result (List (ℕ × PlanTurn)) ℕ) (n : ℕ) → filled ps r ≡ Err n → r ≡ Err n
is_err ps (Ok turns) n is = absurd cc
is_err ps (Err m) n is = let same : m ≡ n = cc in rw same refl

pub fault_named : (nodes n : ℕ) (line : List ℕ) (lines all : List (ℕ × List ℕ)) (old start : List Planned) (fault : LineFault)
    → IsFaultAt n (line_of nodes (words_of line)) fault
    → filled old (turns_of nodes ((n, line) ∷ lines)) ≡ filled start (turns_of nodes all) → IsLineFault (turns_of nodes all) fault
fault_named nodes n line lines all old start (BadLine m) bad reads_so =
    let here : filled old (turns_of nodes ((n, line) ∷ lines)) ≡ Err m = rw bad.1 (ap (λ (k : ℕ). Err k) (sym bad.0)) in
    is_err start (turns_of nodes all) m (sym reads_so ∙ here)
fault_named nodes n line lines all old start NoMemory bad reads_so = tt

-- ---- what stands in the plans once all turns were added

abbrev joined : Planned → List PlanTurn → Planned
joined p turns = record {
  intake = p.intake ++ flat_map polled_in turns;
  clock = p.clock ++ flat_map fired_in turns;
  operator =
      p.operator ++ flat_map done_in turns;
}

joined_none : (p : Planned) → joined p [] ≡ p
joined_none p = λ i. record { intake = append-nil p.intake i; clock = append-nil p.clock i; operator = append-nil p.operator i }

joined_more : (p : Planned) (turn : PlanTurn) (turns : List PlanTurn) → joined (with_turn p turn) turns ≡ joined p (turn ∷ turns)
joined_more p (Poll j) turns = ap (λ (js : List ℕ). record {
  intake = js;
  clock = p.clock ++ flat_map fired_in turns;
  operator =
      p.operator ++ flat_map done_in turns;
}) (append_assoc p.intake (j ∷ []) (flat_map polled_in turns))
joined_more p (Fire timer) turns = λ i. record {
  intake = p.intake ++ flat_map polled_in turns;
  clock =
      append_assoc p.clock (timer ∷ []) (flat_map fired_in turns) i;
  operator = p.operator ++ flat_map done_in turns;
}
joined_more p (Do order) turns = λ i. record {
  intake = p.intake ++ flat_map polled_in turns;
  clock =
      p.clock ++ flat_map fired_in turns;
  operator = append_assoc p.operator (order ∷ []) (flat_map done_in turns) i;
}

pub set_here : (ps : List Planned) (n : ℕ) (x p : Planned) → slice_get (slice_set ps n x) n ≡ Some p
    → (p ≡ x) × ((was : Planned) × (slice_get ps n ≡ Some was))
set_here [] n x p at = absurd cc
set_here (was ∷ ps) zero x p at = let same : x ≡ p = cc in (sym same, (was, refl))
set_here (was ∷ ps) (suc n) x p at = set_here ps n x p at

pub set_elsewhere : (ps : List Planned) (m n : ℕ) (x : Planned) → m ≢ n → slice_get (slice_set ps m x) n ≡ slice_get ps n
set_elsewhere [] m n x other = refl
set_elsewhere (p ∷ ps) zero zero x other = absurd (other refl)
set_elsewhere (p ∷ ps) zero (suc n) x other = refl
set_elsewhere (p ∷ ps) (suc m) zero x other = refl
set_elsewhere (p ∷ ps) (suc m) (suc n) x other = set_elsewhere ps m n x (λ same. other (ap (λ (k : ℕ). suc k) same))

record StoodAt (ps : List Planned) (n : ℕ) (turns : List PlanTurn) (q : Planned) : Type 0 where
  pub was : Planned
  pub stood : slice_get ps n ≡ Some was
  pub is : q ≡ joined was turns

after_at : (turns : List (ℕ × PlanTurn)) (ps : List Planned) (n : ℕ) (q : Planned) → slice_get (after_turns ps turns) n ≡ Some q
    → StoodAt ps n (turns_at n turns) q
after_at [] ps n q at = record { was = q; stood = at; is = sym (joined_none q) }
after_at (turn ∷ turns) ps n q at =
    let rest = after_at turns (placed turn ps) n q at in
    here (turn.0 == n) refl rest.was rest.stood rest.is
  where
    here : (b : Bool) → (turn.0 == n) ≡ b → (p : Planned) → slice_get (placed turn ps) n ≡ Some p → q ≡ joined p (turns_at n turns)
        → StoodAt ps n (if b then turn.1 ∷ turns_at n turns else turns_at n turns) q
    here true same p stood is =
        let one : turn.0 ≡ n = grind (arith, nat_tests, same) in
        let place_set = set_here ps n (with_turn (slice_index_or ps turn.0 no_plans) turn.1) p
        (subst (λ (k : ℕ). slice_get (slice_set ps k (with_turn (slice_index_or ps turn.0 no_plans) turn.1)) n ≡ Some p) one stood) in
        let was = place_set.1.0 in
        let at_first : slice_index_or ps turn.0 no_plans ≡ was =
        get_or_from_slice_get ps turn.0 was no_plans (subst (λ (k : ℕ). slice_get ps k ≡ Some was) (sym one) place_set.1.1) in
        record {
          was = was;
          stood = place_set.1.1;
          is = is ∙ ap (λ (p : Planned). joined p (turns_at n turns)) (place_set.0 ∙ ap (λ (p : Planned). with_turn p turn.1) at_first)
              ∙ joined_more was turn.1 (turns_at n turns);
        }
    here false other p stood is =
        let apart : turn.0 ≢ n = λ same. grind (arith, nat_tests, other, same) in
        record {
          was = p;
          stood = sym (set_elsewhere ps turn.0 n (with_turn (slice_index_or ps turn.0 no_plans) turn.1) apart) ∙ stood;
          is =
              is;
        }

length_after : (turns : List (ℕ × PlanTurn)) (ps : List Planned) → length (after_turns ps turns) ≡ length ps
length_after [] ps = refl
length_after (turn ∷ turns) ps = length_after turns (placed turn ps) ∙ length_placed turn ps

pub all_empty : (k n : ℕ) (p : Planned) → slice_get (replicate k no_plans) n ≡ Some p → p ≡ no_plans
all_empty zero n p at = absurd cc
all_empty (suc k) zero p at = let same : no_plans ≡ p = cc in sym same
all_empty (suc k) (suc n) p at = all_empty k n p at

are_planned : (nodes : ℕ) (turns : List (ℕ × PlanTurn)) → ArePlanned nodes turns (after_turns (replicate nodes no_plans) turns)
are_planned nodes turns = record {
  count = length_after turns (replicate nodes no_plans) ∙ length-replicate nodes no_plans;
  each = λ n p at.
      let stood = after_at turns (replicate nodes no_plans) n p at in
      stood.is ∙ ap (λ (q : Planned). joined q (turns_at n turns)) (all_empty nodes n stood.was stood.stood);
}

-- no line is left
pub all_read : (nodes : ℕ) (all : List (ℕ × List ℕ)) (ps : List Planned) → Ok ps ≡ filled (replicate nodes no_plans) (turns_of nodes all)
    → AreRead nodes all ps
all_read nodes all ps reads_so = by_result (turns_of nodes all) refl reads_so
  where
    by_result : (r : Result (List (ℕ × PlanTurn)) ℕ) → turns_of nodes all ≡ r → Ok ps ≡ filled (replicate nodes no_plans) r
        → AreRead nodes all ps
    by_result (Ok turns) reads reads_so =
        let is : after_turns (replicate nodes no_plans) turns ≡ ps = cc in
        record {
          turns = turns;
          reads = reads;
          planned = subst (λ (qs : List Planned). ArePlanned nodes turns qs) is
              (are_planned nodes turns);
        }
    by_result (Err n) reads reads_so = absurd cc

-- ---- no turns yet

pub one_more : (ps : List Planned) (k : ℕ) (p : Planned) → ps ≡ replicate k no_plans → p ≡ no_plans
    → ps ++ p ∷ [] ≡ replicate (k + 1) no_plans
one_more ps k p is none = ap (λ (qs : List Planned). qs ++ p ∷ []) is ∙ ap (λ (q : Planned). replicate k no_plans ++ q ∷ []) none
    ∙ replicate-append-replicate k 1 no_plans
