-- A history, once an entry was put in.
use Rattle.std.proofs.Common.{◌≡◌, ℕ, ◌+◌, ◌-◌, ◌<◌, ◌≤◌, ◌^◌, List, [], ◌∷◌, ◌++◌, length, map, All, sym, ap, ◌∙◌, subst, arith}
use Rattle.std.proofs.lemmas.List.{length-append}
use Rattle.job_model.specs.declared.payload.TheConstants.{PAYLOAD_CAPACITY}
use Rattle.wire_msg.specs.Envelope.{Envelope}
use Rattle.trace_check.specs.declared.kept.PackedAction.{PackedAction}
use Rattle.trace_check.specs.declared.stored.StoredEntry.{StoredEntry}
use Rattle.trace_check.specs.declared.trace.TraceAction.{TraceAction}
use Rattle.trace_check.specs.Claims.{brought_by}
use Rattle.trace_check.specs.Traces.{claim}
use Rattle.trace_check.specs.Kept.{kept_action, payload_in, ActionStands}
use Rattle.trace_check.specs.Stored.{claim_stored, entry_of, action_of, IsStored}
use Rattle.trace_check.proofs.Leftovers.{brings_few}
use Rattle.trace_check.proofs.KeptEntries.{kept_entry, claims_more, all_stand_more, action_stands, action_longer}

-- the lists, once what was done, the messages and the entry stand in them, in this order
module _ (es0 es es2 : List StoredEntry) (ms0 ms ms1 ms2 : List Envelope) (p0 p p1 : List ℕ) (d : TraceAction) (sent : List Envelope)
    (action : PackedAction) (few : length (payload_in d) ≤ PAYLOAD_CAPACITY) (entries : es0 ≡ es) (before : ms0 ≡ ms) (bytes : p0 ≡ p)
    (brought : ms1 ≡ ms0 ++ brought_by d) (all : ms2 ≡ ms1 ++ sent) (payloads : p1 ≡ p0 ++ payload_in d)
    (is : action ≡ kept_action (length ms0) (length p0) d) where
  pub small : length ms + length sent + 1 < 2 ^ 32 → length p + PAYLOAD_CAPACITY < 2 ^ 32 → ActionStands (2 ^ 32 - 1) (2 ^ 32 - 1) action
  small messages places =
      let one = brings_few d in
      let first = length-append ms0 (brought_by d) in
      let second = length-append p0 (payload_in d) in
      let m = ap length before in
      let b = ap length bytes in
      subst (λ (x : PackedAction). ActionStands (2 ^ 32 - 1) (2 ^ 32 - 1) x) (sym is)
      (action_longer (length (ms0 ++ brought_by d)) (2 ^ 32 - 1) (length (p0 ++ payload_in d)) (2 ^ 32 - 1)
      (kept_action (length ms0) (length p0) d) (omega (arith, first, one, m)) (omega (arith, second, b)) (action_stands ms0 p0 d few))

  module _ (e : StoredEntry) (stored : action_of e.action ≡ action) (start : e.start ≡ length ms1) (end : e.end ≡ length ms2)
      (pushed : es2 ≡ es0 ++ e ∷ []) (stand : All (IsStored (length ms) (length p)) es) where
    is_kept : entry_of e ≡ kept_entry (length ms) (length p) d sent
    is_kept =
        let first : length ms1 ≡ length ms + length (brought_by d) = ap length brought ∙ length-append ms0 (brought_by d)
        ∙ ap (λ (k : ℕ). k + length (brought_by d)) (ap length before) in
        let action_is : action_of e.action ≡ kept_action (length ms) (length p) d =
        stored ∙ is ∙ ap (λ (xs : List Envelope). kept_action (length xs) (length p0) d) before
        ∙ ap (λ (xs : List ℕ). kept_action (length ms) (length xs) d) bytes in
        let begins : e.start ≡ length ms + length (brought_by d) = start ∙ first in
        let ends : e.end ≡ length ms + length (brought_by d) + length sent = end ∙ ap length all ∙ length-append ms1 sent
        ∙ ap (λ (k : ℕ). k + length sent) first in
        λ i. record { action = action_is i; start = begins i; end = ends i }

    whole : ms2 ≡ ms ++ brought_by d ++ sent
    whole = all ∙ ap (λ (xs : List Envelope). xs ++ sent) (brought ∙ ap (λ (xs : List Envelope). xs ++ brought_by d) before)

    pub said : map (claim_stored ms2 p1) es2 ≡ map (claim_stored ms p) es ++ claim d sent ∷ []
    said = rw (pushed, entries, whole, payloads, bytes) (claims_more es e ms p d sent few is_kept stand)

    pub all_stand : All (IsStored (length ms2) (length p1)) es2
    all_stand = rw (pushed, entries, whole, payloads, bytes) (all_stand_more es e ms p d sent few is_kept stand)
