-- The entries up to one of which something else is told than its node tells.
use Rattle.std.proofs.Common.{◌≡◌, ◌<◌, ◌≤◌, ℕ, ◌+◌, Bool, true, false, List, length, reverse, slice_get}
use Rattle.std.proofs.Common.{Option, Some, None, refl, sym, ap, ◌∙◌, subst, arith}
use Rattle.std.proofs.lemmas.Option.{slice_get_within}
use Rattle.console_text.specs.Ends.{Printout}
use Rattle.histories.specs.NodeState.{NodeState}
use Rattle.trace_check.specs.declared.contradiction.Contradiction.{Contradiction}
use Rattle.trace_check.specs.declared.leftover.Leftover.{Leftover}
use Rattle.trace_check.specs.declared.trace.Verdict.{Verdict}
use Rattle.trace_check.specs.Claims.{Claim, after_claim}
use Rattle.trace_check.specs.Contradictions.{IsCore}
use Rattle.trace_check.specs.Followed.{before}
use Rattle.trace_check.specs.Kept.{part}
use Rattle.trace_check.specs.Leftovers.{CanReplay}
use Rattle.trace_check.specs.Orders.{history, state_of, taken, IsLegal}
use Rattle.trace_check.specs.Twins.{Twin}
use Rattle.trace_check.proofs.PublicLaws.{may_take, replays_to, stands_again, state_more}
use Rattle.trace_text.specs.Tellings.{TellingData, TellingsData}
use Rattle.trace_console.specs.declared.answers.FalseAnswer.{FalseAnswer}
use Rattle.trace_console.specs.Answers.{IsComparison, IsFalse, entry_so, is_so_if}
use Rattle.trace_console.specs.Contradicting.{CantTell, IsShown, IsShownTold, IsShownWith}
use Rattle.trace_console.specs.NodeAnswers.{is_finish}
use Rattle.trace_console.specs.Told.{told_of}
use Rattle.trace_console.proofs.Answered.{so_taken}

-- what is said of an entry, where it stands behind the same state and the same is told of it
said_again : (hs gs : List (List Claim)) (d e : TellingsData) (n index place : ℕ) (c : Claim) (told : TellingData) → length gs ≡ length hs
    → slice_get (history hs n) index ≡ Some c → slice_get (history gs n) place ≡ Some c → state_of gs n place ≡ state_of hs n index
    → told_of d n index ≡ Some told → told_of e n place ≡ Some told → entry_so gs e n place ≡ entry_so hs d n index
said_again hs gs d e n index place c told count here there state said again =
    let nodes = length hs in
    let behind : state_of gs n (place + 1) ≡ state_of hs n (index + 1) = state_more gs n place c there
    ∙ ap (λ (m : ℕ). after_claim n m (state_of gs n place) c) count
    ∙ ap (λ (t : NodeState). after_claim n nodes t c) state ∙ sym (state_more hs n index c here) in
    ap (λ (o : Option TellingData). is_so_if o (is_finish (slice_get (history gs n) place)) (state_of gs n place)
    (state_of gs n (place + 1)))
    (again ∙ sym said)
    ∙ ap (λ (o : Option Claim). is_so_if (told_of d n index) (is_finish o) (state_of gs n place) (state_of gs n (place + 1)))
    (there ∙ sym here)
    ∙ ap (λ (t : NodeState). is_so_if (told_of d n index) (is_finish (slice_get (history hs n) index)) t (state_of gs n (place + 1))) state
    ∙ ap (λ (t : NodeState). is_so_if (told_of d n index) (is_finish (slice_get (history hs n) index)) (state_of hs n index) t) behind

-- those of a history from one place up to an entry of which something else is told
cant_tell : (hs : List (List Claim)) (d : TellingsData) (n first index : ℕ) (c : Claim) (s : NodeState) (told : TellingData)
    → slice_get (history hs n) index ≡ Some c → first ≤ index → s ≡ state_of hs n first → told_of d n index ≡ Some told
    → entry_so hs d n index ≡ false → CantTell (length hs) n s (part first (index + 1) (history hs n)) told
cant_tell hs d n first index c s told at within is said other gs e front behind last count whole stands place again run =
    let stand = stands_again hs gs n first index c front behind within at count whole (stands ∙ is) in
    let k = stand.place in
    let ends = stand.last in
    let same : last ≡ k = omega (arith, ends, place) in
    let so = said_again hs gs d e n index k c told count at stand.at stand.state said
    (ap (λ (j : ℕ). told_of e n j) (sym same) ∙ again) in
    let all = run.2 n in
    let some = slice_get_within (history gs n) k c stand.at in
    let taken_so = so_taken gs e run.0 n k run.3 (omega (arith, all, some)) in
    let clash : true ≡ false = sym taken_so ∙ so ∙ other in cc

-- of an entry of which something else is told, something is
told_there : (o : Option TellingData) (b : Bool) (old new : NodeState) → is_so_if o b old new ≡ false
    → (told : TellingData) × (o ≡ Some told)
told_there None b old new other = absurd cc
told_there (Some told) b old new other = (told, refl)

-- it stands in the history of its node, and those before it can come one behind another
pub record IsThere (hs : List (List Claim)) (f : FalseAnswer) : Type 0 where
  pub there : f.index < length (history hs f.node)
  pub before : CanReplay hs f.node f.index

is_there : (hs : List (List Claim)) (d : TellingsData) (order : List ℕ) (f : FalseAnswer) → IsLegal hs (reverse order)
    → IsFalse hs d order f.turn f → IsThere hs f
is_there hs d order f legal is =
    let past = before order f.turn in
    let may = may_take hs order f.turn f.node legal is.node in
    let inside = slice_get_within (history hs f.node) (taken f.node past) may.claim may.next in
    let index = is.index in
    record {
      there = omega (arith, inside, index);
      before = subst (λ (i : ℕ). CanReplay hs f.node i) (sym index) (replays_to hs order f.turn f.node legal);
    }

told_shown : (hs : List (List Claim)) (d : TellingsData) (order : List ℕ) (f : FalseAnswer) (printout : Printout)
    → IsLegal hs (reverse order)
    → IsFalse hs d order f.turn f → ((c : Contradiction) × IsCore hs f.node f.index c × IsShown c printout) → IsShownTold hs d f printout
told_shown hs d order f printout legal is shown =
    let n = f.node in
    let i = f.index in
    let core = shown.1 in
    let may = may_take hs order f.turn n legal is.node in
    let at = ap (λ (j : ℕ). slice_get (history hs n) j) is.index ∙ may.next in
    let told = told_there (told_of d n i) (is_finish (slice_get (history hs n) i)) (state_of hs n i) (state_of hs n (i + 1)) is.other in
    record {
      contradiction = shown.0;
      core = core;
      told = told.0;
      is_told = told.1;
      cant = cant_tell hs d n shown.0.first i may.claim shown.0.before.node told.0 at core.start.few.0
          (ap (λ (t : Twin). t.node) core.before)
          told.1 is.other;
      shown = shown.2;
    }

pub false_there : (hs : List (List Claim)) (d : TellingsData) (f : FalseAnswer) → IsComparison hs d (Some f) → IsThere hs f
false_there hs d f is = is_there hs d is.order f is.taken.legal is.first.0

-- what is printed by what was found
pub shown_with : (hs : List (List Claim)) (d : TellingsData) (verdict : Verdict) (left : List Leftover) (found : Option FalseAnswer)
    (f : FalseAnswer) (printout : Printout) → found ≡ Some f → IsComparison hs d found
    → ((c : Contradiction) × IsCore hs f.node f.index c × IsShown c printout) → IsShownWith hs d verdict left found printout
shown_with hs d verdict left found f printout is compared core =
    let it = subst (λ (o : Option FalseAnswer). IsComparison hs d o) is compared in
    subst (λ (o : Option FalseAnswer). IsShownWith hs d verdict left o printout) (sym is)
    (told_shown hs d it.order f printout it.taken.legal it.first.0 core)
