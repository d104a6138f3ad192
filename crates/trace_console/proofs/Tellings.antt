-- What is told of a node's turn.
use Rattle.std.proofs.Common.{◌≡◌, ◌<◌, ℕ, ◌+◌, Bool, List, length, reverse, slice_get, slice_index_or, Option, Some, None}
use Rattle.std.proofs.Common.{refl, sym, ap, ◌∙◌, subst, arith, option_map}
use Rattle.std.specs.Prelude.{IfSome, IsNone}
use Rattle.std.proofs.lemmas.Option.{slice_get_read}
use Rattle.trace_text.specs.Tellings.{TellingData, TellingsData}
use Rattle.trace_check.specs.Claims.{Claim}
use Rattle.trace_check.specs.Traces.{claim_seen}
use Rattle.trace_check.specs.declared.history.EntryView.{EntryView}
use Rattle.trace_console.specs.declared.walk.NodeCursor.{NodeCursor}
use Rattle.trace_check.specs.Followed.{before}
use Rattle.trace_check.specs.Orders.{history, taken, IsLegal}
use Rattle.trace_check.proofs.PublicLaws.{may_take}
use Rattle.trace_console.specs.Answers.{entry_so, is_so_if}
use Rattle.trace_console.specs.NodeAnswers.{is_finish}
use Rattle.trace_console.specs.Told.{told_of}
use Rattle.trace_console.specs.Turns.{AreSeats, seat_at}
use Rattle.trace_console.proofs.Answered.{entry_is}
use Rattle.trace_console.proofs.NodeCursors.{node_within}

-- ---- an entry, and its node

pub entry_seen : (o : Option EntryView) (x : Option Claim) → IfSome o (λ entry. x ≡ Some (claim_seen entry)) → (IsNone o → x ≡ None)
    → option_map claim_seen o ≡ x
entry_seen None x some none = sym (none refl)
entry_seen (Some entry) x some none = sym some

pub seat_next : (hs : List (List Claim)) (past : List ℕ) (n i : ℕ) (seats : List NodeCursor) (s : NodeCursor) → i ≡ n → i < length seats
    → s ≡ slice_index_or seats i s → AreSeats hs past seats → s ≡ seat_at hs past n
seat_next hs past n i seats s is within at are = are.1 n s
    (subst (λ (j : ℕ). slice_get seats j ≡ Some s) is (slice_get_read seats (length seats) i s refl within at))

-- what is asked of a turn's node, read from where the nodes stand before and behind the turn
pub turn_fact : (hs : List (List Claim)) (d : TellingsData) (order : List ℕ) (k n i : ℕ) (finished so : Bool) (olds news : List NodeCursor)
    (old new : NodeCursor) (told : Option TellingData) → IsLegal hs (reverse order) → slice_get order k ≡ Some n → i ≡ n
    → AreSeats hs (before order k) olds → AreSeats hs (before order (k + 1)) news → old ≡ slice_index_or olds i old
    → new ≡ slice_index_or news i new → told ≡ told_of d i old.index → finished ≡ is_finish (slice_get (history hs n) old.index)
    → so ≡ is_so_if told finished old.node_model.node new.node_model.node
    → (so ≡ entry_so hs d n (taken n (before order k))) × (old.index ≡ taken n (before order k))
turn_fact hs d order k n i finished so olds news old new told legal at here are are' was_at is_at told_is finishes so_is =
    let within = node_within hs (before order k) n (may_take hs order k n legal at) in
    let count = are.0 in
    let count' = are'.0 in
    let was = seat_next hs (before order k) n i olds old here (omega (arith, within, count, here)) was_at are in
    let is = seat_next hs (before order (k + 1)) n i news new here (omega (arith, within, count', here)) is_at are' in (
      so_is ∙ ap (λ (t : Option TellingData). is_so_if t finished old.node_model.node new.node_model.node)
          (told_is ∙ ap (λ (j : ℕ). told_of d j old.index) here) ∙ entry_is hs d order k n finished old new at was is finishes,
      ap (λ (x : NodeCursor). x.index) was,
    )
