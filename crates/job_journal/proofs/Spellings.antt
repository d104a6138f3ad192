-- The records that a call has written, slot by slot: each in the spelling that is written today.
use Rattle.job_journal.proofs.Common.{◌≡◌, ◌+◌, ◌*◌, ◌<◌, ◌≤◌, ◌⊎◌, ⊎_elim, ℕ, zero, suc, List, [], ◌∷◌, ◌++◌, length, map, slice_get, Some}
use Rattle.job_journal.proofs.Common.{sym, ◌∙◌, ap, subst, refl, arith, IsTrue, Bool, true, false, ◌==◌, if◌then◌else◌, length-append}
use Rattle.job_journal.proofs.Common.{length-map}
use Rattle.job_journal.proofs.Common.{nat_tests, Image, DiskState, SameBut, AllSynced, IsImage, Run, slot_at, sector_at, InSlot, Record}
use Rattle.job_journal.proofs.Common.{bytes_of, first_of, jobs_of, JournalState, IsJournal, next_slot}
use Rattle.job_journal.proofs.Common.{CellState, raised, records_for, EndsIn, with_slot, records_written, appended, compacted, record_for}
use Rattle.job_journal.proofs.Common.{Command, Table}
use Rattle.std.proofs.lemmas.List.{map-append}
use Rattle.slot_gate.proofs.PublicLaws.{slot_same}
use Rattle.job_journal.proofs.Frames.{synced_image, first_between}
use Rattle.job_journal.proofs.Changes.{Written}

-- records in front of one more
in_front : {X : Type 0} (xs : List X) (y : X) (k : ℕ) → k < length xs → slice_get (xs ++ y ∷ []) k ≡ slice_get xs k
in_front [] y k less = absurd (omega (arith, less))
in_front (x ∷ xs) y zero less = refl
in_front (x ∷ xs) y (suc k) less = in_front xs y k (omega (arith, less))

-- the one behind them
behind : {X : Type 0} (xs : List X) (y : X) → slice_get (xs ++ y ∷ []) (length xs) ≡ Some y
behind [] y = refl
behind (x ∷ xs) y = behind xs y

last_or_before : (k n : ℕ) → k < n + 1 → (k < n) ⊎ (k ≡ n)
last_or_before k n less = grind (arith, less)

-- one record in the last slot
pub one_ends : (slots number used : ℕ) (r : Record) (c : Image) → slot_at c (first_of slots number + 2 * used) ≡ Some (bytes_of r)
    → EndsIn slots number (used + 1) (r ∷ []) c
one_ends slots number used r c here from zero at less =
    let place : first_of slots number + 2 * (from + 0) ≡ first_of slots number + 2 * used = omega (arith, at) in
    ap (λ s. slot_at c s) place ∙ here
one_ends slots number used r c here from (suc k) at less = absurd (omega (arith, less))

-- one record behind others, whose slots stay as they were
pub more_ends : (slots number used : ℕ) (records : List Record) (r : Record) (d c : Image) → EndsIn slots number used records d
    → SameBut (InSlot (first_of slots number + 2 * used)) d c → slot_at c (first_of slots number + 2 * used) ≡ Some (bytes_of r)
    → EndsIn slots number (used + 1) (records ++ r ∷ []) c
more_ends slots number used records r d c ends same here from k at less =
    let first = first_of slots number in
    let size : length (records ++ r ∷ []) ≡ length records + 1 = length-append records (r ∷ []) in
    let begun : from + length records ≡ used = omega (arith, at, size) in
    let spelled : map bytes_of (records ++ r ∷ []) ≡ map bytes_of records ++ bytes_of r ∷ [] = map-append bytes_of records (r ∷ []) in
    let count : length (map bytes_of records) ≡ length records = length-map records bytes_of in
    let at_end : k ≡ length records → slot_at c (first + 2 * (from + k)) ≡ slice_get (map bytes_of (records ++ r ∷ [])) k = λ is.
    let place : first + 2 * (from + k) ≡ first + 2 * used = omega (arith, is, begun) in
    ap (λ s. slot_at c s) place ∙ here ∙ sym (behind (map bytes_of records) (bytes_of r))
    ∙ ap (λ n. slice_get (map bytes_of records ++ bytes_of r ∷ []) n) (count ∙ sym is)
    ∙ ap (λ xs. slice_get xs k) (sym spelled) in
    let before : k < length records → slot_at c (first + 2 * (from + k)) ≡ slice_get (map bytes_of (records ++ r ∷ [])) k = λ low.
    let s = first + 2 * (from + k) in
    slot_same c d s (same.same (s + 1) (λ is. grind (arith, is, low, begun))) (same.same s (λ is. grind (arith, is, low, begun)))
    ∙ ends from k begun low ∙ sym (in_front (map bytes_of records) (bytes_of r) k (omega (arith, low, count)))
    ∙ ap (λ xs. slice_get xs k) (sym spelled) in
    ⊎_elim before at_end (last_or_before k (length records) (omega (arith, less, size)))

-- an append's records, with a compaction before it or none
ends_by : (b : Bool) (was : JournalState) (command : Command) (d c : Image) → let now = if b then compacted was else was in
    (IsTrue b → EndsIn now.slots now.area.value now.used (records_for (jobs_of was.table)) d) → SameBut (InSlot (next_slot now)) d c
    → EndsIn now.slots now.area.value (now.used + 1) (record_for (jobs_of was.table) command ∷ []) c
    → EndsIn now.slots now.area.value (now.used + 1)
    (if b then records_for (jobs_of was.table) ++ record_for (jobs_of was.table) command ∷ []
    else record_for (jobs_of was.table) command ∷ []) c
ends_by true was command d c before same last =
    let now = compacted was in
    let place : next_slot now ≡ first_of now.slots now.area.value + 2 * (now.used + 0) = omega arith in
    more_ends now.slots now.area.value now.used (records_for (jobs_of was.table))
    (record_for (jobs_of was.table) command) d c (before refl) same
    (ap (λ s. slot_at c s) place ∙ last now.used 0 refl (omega arith))
ends_by false was command d c before same last = last

pub append_ends : (was now new : JournalState) (command : Command) (d c : Image) → now ≡ with_slot was
    → new ≡ appended (with_slot was) command
    → (was.used ≡ was.slots → EndsIn now.slots now.area.value now.used (records_for (jobs_of was.table)) d)
    → SameBut (InSlot (next_slot now)) d c
    → EndsIn new.slots new.area.value new.used (record_for (jobs_of now.table) command ∷ []) c
    → now.table ≡ was.table → EndsIn new.slots new.area.value new.used (records_written was.slots was.used (jobs_of was.table) command) c
append_ends was now new command d c is made before same last table =
    let here = with_slot was in
    let full : IsTrue (was.used == was.slots) → was.used ≡ was.slots = λ b. grind (arith, nat_tests, b) in
    subst (λ (j : JournalState). EndsIn j.slots j.area.value j.used (records_written was.slots was.used (jobs_of was.table) command) c)
    (sym made)
    (ends_by (was.used == was.slots) was command d c
    (λ b. subst (λ (j : JournalState). EndsIn j.slots j.area.value j.used (records_for (jobs_of was.table)) d) is (before (full b)))
    (subst (λ (j : JournalState). SameBut (InSlot (next_slot j)) d c) is same)
    (subst (λ (t : Table). EndsIn here.slots here.area.value (here.used + 1) (record_for (jobs_of t) command ∷ []) c) table
    (subst (λ (j : JournalState). EndsIn j.slots j.area.value j.used (record_for (jobs_of now.table) command ∷ []) c) made last)))

-- the area that a compaction has written
pub compact_ends : {journal was : JournalState} {area : CellState} {used other : ℕ} {old mid new : DiskState} → journal ≡ was
    → IsJournal journal → Written journal other old mid
    → Run (InSlot journal.area.spare) mid new → AllSynced new → area ≡ raised journal.area → used ≡ length journal.table.pending + 1
    → (c : Image) → IsImage new c → EndsIn journal.slots area.value used (records_for (jobs_of was.table)) c
compact_ends {journal = journal} {area = area} {used = used} {other = other} {mid = mid} {new =
    new} view is w run synced raised_is count c image =
    subst (λ (j : JournalState). EndsIn journal.slots area.value used (records_for (jobs_of j.table)) c) view (λ from k at less.
    let records = records_for (jobs_of journal.table) in
    let size : length records ≡ length journal.table.pending + 1 = omega (arith, length-map journal.table.pending Record.Keep) in
    let value : area.value ≡ journal.area.value + 1 = ap (λ (k : CellState). k.value) raised_is in
    let first : first_of journal.slots area.value ≡ other = ap (λ v. first_of journal.slots v) value ∙ sym w.at in
    let start : from ≡ 0 = omega (arith, at, size, count) in
    let s = other + 2 * k in
    let place : first_of journal.slots area.value + 2 * (from + k) ≡ s = omega (arith, first, start) in
    let low : 8 ≤ other = omega (arith, w.at, (first_between journal.slots (journal.area.value + 1)).0) in
    let within : k < length journal.table.pending + 1 = omega (arith, less, size) in
    let kept : (t : ℕ) → 8 ≤ t → sector_at new.contents t ≡ sector_at mid.contents t =
    λ t high. run.contents.same t (λ here. grind (arith, is.cell, here, high)) in
    ap (λ d. slot_at d (first_of journal.slots area.value + 2 * (from + k))) (synced_image new c synced image)
    ∙ ap (λ t. slot_at new.contents t) place
    ∙ slot_same new.contents mid.contents s (kept (s + 1) (omega (arith, low))) (kept s (omega (arith, low)))
    ∙ w.written.sealed k within ∙ w.written.bytes k within)
