-- What a mounting answers of the parts of a store, as what is found there.
use Rattle.std.proofs.Common.{◌≡◌, ◌+◌, ◌<◌, ◌≤◌, ◌⊎◌, ⊎_elim, ℕ, zero, suc, length, List, ◌∷◌, Option, Some, None, Result, Ok, Err, IfOk}
use Rattle.std.proofs.Common.{IsErrOf, is_none, nat_lt, true, false, if◌then◌else◌}
use Rattle.std.proofs.Common.{sym, ◌∙◌, ap, refl, arith}
use Rattle.std.proofs.lemmas.Bool.Decides.{nat_tests}
use Rattle.std.specs.declared.alloc.AllocError.{AllocError}
use Rattle.sector_disk.specs.Disk.{Image}
use Rattle.slot_gate.specs.Slot.{slot_at}
use Rattle.safe_cell.specs.Body.{body_value}
use Rattle.safe_cell.specs.Cell.{cell_at, cell_of, IsDamaged}
use Rattle.safe_cell.specs.Mounted.{CellState}
use Rattle.safe_cell.specs.Mounting as Cells
use Rattle.safe_cell.specs.declared.fault.CellFault.{CellFault}
use Rattle.job_journal.specs.Areas.{sealed_prefix, slots_from}
use Rattle.job_journal.specs.Jobs.{Jobs, jobs_of}
use Rattle.job_journal.specs.Journal.{damage_of, is_damaged, jobs_by, replay_in}
use Rattle.job_journal.specs.Mounted.{JournalState}
use Rattle.job_journal.specs.Mounting.{AnswersFor}
use Rattle.job_journal.specs.Readings.{Replay, Reads, Damage}
use Rattle.job_journal.specs.declared.fault.JournalFault.{JournalFault}
use Rattle.job_journal.proofs.PublicLaws.{whole_slots}
use Rattle.node_store.specs.Store.{slots_for}
use Rattle.console_text.specs.Ends.{printout_of}
use Rattle.console_text.specs.declared.ends.Output.{Output}
use Rattle.store_console.specs.declared.found.Counter.{Counter}
use Rattle.store_console.specs.declared.found.Counter.TheVariants.{Missing, Value, Damaged}
use Rattle.store_console.specs.declared.found.Owner.{Owner}
use Rattle.store_console.specs.Held.{IsHeldBy, counter_by, counter_of, journal_of, jobs_or_damage, owner_of, used_in}
use Rattle.store_console.specs.Printed.{IsShown, found_text, held_text, too_small}
use Rattle.store_console.specs.declared.inspecting.Shown.{Shown}
use Rattle.store_console.specs.declared.inspecting.Shown.TheVariants.{All}

-- ---- the counter

pub value_found : (image : Image) (v : ℕ) → cell_at image 0 ≡ Some v → counter_of image ≡ Value v
value_found image v is = λ i. counter_by (whole_slots 0 v (slot_at image 0) (slot_at image 2) is i) (is i)

pub missing_found : (image : Image) → slot_at image 0 ≡ None → slot_at image 2 ≡ None → counter_of image ≡ Missing
missing_found image first second = λ i. counter_by (damage_of 0 (first i) (second i)) (cell_of (first i) (second i))

marked : (slot : Option (List ℕ)) → IsDamaged slot → is_damaged slot ≡ true
marked slot is = ap is_damaged is.1 ∙ ap (λ v. is_none v) is.2

unmarked_by : (body : List ℕ) (value : Option ℕ) → body_value body ≡ value → (IsDamaged (Some body) → ⊥) → is_none value ≡ false
unmarked_by body None is whole = absurd (whole (body, refl, is))
unmarked_by body (Some v) is whole = refl

unmarked : (slot : Option (List ℕ)) → (IsDamaged slot → ⊥) → is_damaged slot ≡ false
unmarked None whole = refl
unmarked (Some body) whole = unmarked_by body (body_value body) refl whole

damage_first : (a b : Option (List ℕ)) (value : Option ℕ) → is_damaged a ≡ true → counter_by (damage_of 0 a b) value ≡ Damaged 0
damage_first a b value is = ap (λ t. counter_by (if t then Some 0 else (if is_damaged b then Some 2 else None)) value) is

damage_second : (a b : Option (List ℕ)) (value : Option ℕ) → is_damaged a ≡ false → is_damaged b ≡ true
    → counter_by (damage_of 0 a b) value ≡ Damaged 2
damage_second a b value whole is = λ i. counter_by (if whole i then Some 0 else (if is i then Some 2 else None)) value

pub damage_found : (image : Image) (k : ℕ) → (k ≡ 0) ⊎ (k ≡ 2) → (k ≡ 0 → IsDamaged (slot_at image 0))
    → (k ≡ 2 → (IsDamaged (slot_at image 0) → ⊥) × IsDamaged (slot_at image 2))
    → counter_of image ≡ Damaged k
damage_found image k which first second =
    let a = slot_at image 0 in
    let b = slot_at image 2 in
    ⊎_elim
    (λ zero. damage_first a b (cell_of a b) (marked a (first zero)) ∙ ap (λ n. Damaged n) (sym zero))
    (λ two. let is = second two in damage_second a b (cell_of a b) (unmarked a is.0) (marked b is.1) ∙ ap (λ n. Damaged n) (sym two)) which

pub no_value : (value : Option ℕ) → ((v : ℕ) → value ≡ Some v → ⊥) → value ≡ None
no_value None none = refl
no_value (Some v) none = absurd (none v refl)

-- a cell that isn't mounted has no value
pub no_cell : (image : Image) (at : ℕ) (fault other : CellFault) → fault ≡ other → (other ≡ CellFault.Device → ⊥)
    → ((IsErrOf {T = CellState} {E = CellFault} (Err fault) CellFault.Device → ⊥) → Cells.AnswersFor at image (Err fault))
    → None ≡ cell_at image at
no_cell image at fault other is else_where answered =
    sym (no_value (cell_at image at) (λ v has. ((answered (λ same. let device : other ≡ CellFault.Device = cc (same, is) in
    else_where device)).value v).1 has))

-- ---- the journal

jobs_or : (replay : Replay) (jobs : Jobs) → jobs_by replay ≡ Some jobs → jobs_or_damage replay ≡ Ok jobs
jobs_or (Reads reading) jobs is = cc
jobs_or (Damage sector) jobs is = absurd cc

pub jobs_found : (slots : ℕ) (image : Image) (journal : JournalState) → AnswersFor slots image (Ok journal)
    → Ok (jobs_of journal.table) ≡ journal_of slots image
jobs_found slots image journal answered = sym (jobs_or (replay_in slots image) (jobs_of journal.table)
    ((answered.jobs (jobs_of journal.table)).0 refl))

pub journal_damage : (slots : ℕ) (image : Image) (fault : JournalFault) (sector : ℕ) → fault ≡ JournalFault.Damaged sector
    → ((IsErrOf {T = JournalState} {E = JournalFault} (Err fault) JournalFault.Device → ⊥)
    → (IsErrOf {T = JournalState} {E = JournalFault} (Err fault) JournalFault.NoMemory → ⊥)
    → AnswersFor slots image (Err fault))
    → Err sector ≡ journal_of slots image
journal_damage slots image fault sector is answered =
    let found = answered (λ same. cc (same, is)) (λ same. cc (same, is)) in
    sym (ap jobs_or_damage ((found.damaged sector).0 (ap (λ (f : JournalFault). Err f) is)))

-- ---- the slots that are sealed

pub one_sealed : (image : Image) (at next left fewer : ℕ) (body : List ℕ) → next ≡ at + 2 → left ≡ suc fewer → slot_at image at ≡ Some body
    → length (sealed_prefix (slots_from image at left)) ≡ length (sealed_prefix (slots_from image next fewer)) + 1
one_sealed image at next left fewer body is count here =
    let behind = sealed_prefix (slots_from image (at + 2) fewer) in
    let more : suc (length behind) ≡ length behind + 1 = omega arith in
    ap (λ n. length (sealed_prefix (slots_from image at n))) count
    ∙ ap (λ s. length (sealed_prefix (s ∷ slots_from image (at + 2) fewer))) here
    ∙ more
    ∙ ap (λ a. length (sealed_prefix (slots_from image a fewer)) + 1) (sym is)

pub none_sealed : (image : Image) (at left : ℕ) → slot_at image at ≡ None → length (sealed_prefix (slots_from image at left)) ≡ 0
none_sealed image at zero is = refl
none_sealed image at (suc n) is = ap (λ s. length (sealed_prefix (s ∷ slots_from image (at + 2) n))) is

-- ---- all of it

pub found_is : (owner : Owner) (image : Image) (slots used : ℕ) (counter : Counter) (journal : Result Jobs ℕ)
    → slots ≡ slots_for (length image)
    → used ≡ used_in slots image → counter ≡ counter_of image → journal ≡ journal_of slots image
    → found_text owner slots used counter journal ≡ held_text All owner image
found_is owner image slots used counter journal s u k j =
    λ i. found_text owner (s i) ((u ∙ ap (λ n. used_in n image) s) i) (k i) ((j ∙ ap (λ n. journal_of n image) s) i)

-- of a disk that is large enough
pub shown_held : (shown : Shown) (bytes : List ℕ) (image : Image) (result : Result Output AllocError) → IsHeldBy bytes image
    → 24 ≤ length image
    → IfOk result (λ p. printout_of p ≡ held_text shown (owner_of bytes) image) → IfOk result (λ p. IsShown shown bytes (printout_of p))
shown_held shown bytes image (Err e) held large is = tt
shown_held shown bytes image (Ok p) held large is =
    let enough : nat_lt (length image) 24 ≡ false = grind (arith, nat_tests, large) in
    record { image = image; held = held; printed = rw enough is }

-- of one that isn't
pub shown_small : (shown : Shown) (bytes : List ℕ) (image : Image) (result : Result Output AllocError) → IsHeldBy bytes image
    → length image < 24
    → IfOk result (λ p. printout_of p ≡ too_small (length image)) → IfOk result (λ p. IsShown shown bytes (printout_of p))
shown_small shown bytes image (Err e) held few is = tt
shown_small shown bytes image (Ok p) held few is =
    let small : nat_lt (length image) 24 ≡ true = grind (arith, nat_tests, few) in
    record { image = image; held = held; printed = rw small is }
