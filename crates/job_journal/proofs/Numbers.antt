-- The number of the area, while a journal is appended to and compacted.
use Rattle.job_journal.proofs.Common.{◌≡◌, ⊎_elim, ◌+◌, ◌≤◌, ◌∙◌, ℕ, Some, inl, refl, subst, arith, nat_tests, IsTrue, Image, IsImage}
use Rattle.job_journal.proofs.Common.{DiskState, Laws, Run, Each, each_of_two, InSlot, InSlots}
use Rattle.job_journal.proofs.Common.{cell_at, AllStand, IsNumbered, AllWithin, JournalState, AllHold, with_slot, other_sector}
use Rattle.job_journal.proofs.Frames.{cell_same_from, first_between, value_is}
use Rattle.job_journal.proofs.Changes.{Written, area_stays}

-- it stays where no call writes below the areas
pub number_stays : (journal : JournalState) (touched : ℕ → Type 0) {old new : DiskState} → ((k : ℕ) → touched k → 8 ≤ k)
    → AllHold journal old → Run touched old new
    → Each old new (λ c. cell_at c 4 ≡ Some journal.area.value)
number_stays journal touched above all run c since =
    let f = run.follows c since in
    cell_same_from 4 f.0 c (record { same = λ k le lt. f.2.same k (λ is. omega (arith, lt, above k is)) })
    ∙ value_is journal f.0 (all f.0 f.1)

-- while one slot is written
pub slot_numbered : (journal : JournalState) {slot : ℕ} {old new : DiskState} → 8 ≤ slot → AllHold journal old → Run (InSlot slot) old new
    → Each old new (λ c. cell_at c 4 ≡ Some journal.area.value)
slot_numbered journal {slot = slot} above = number_stays journal (InSlot slot) (λ k is. grind (arith, above, is))

-- while nothing is done
pub still_numbered : (journal : JournalState) (disk : DiskState) → IsTrue disk.honest → Laws disk → AllHold journal disk
    → Each disk disk (IsNumbered journal.area.value)
still_numbered journal disk honest laws all c since = inl (value_is journal c (all c (laws.only_now c since)))

-- while the other area is written
pub area_numbered : {journal was : JournalState} {other : ℕ} {old mid : DiskState} → journal ≡ was → other ≡ other_sector journal
    → Run (InSlots other journal.slots) old mid → AllHold was old
    → Each old mid (IsNumbered was.area.value)
area_numbered {journal = journal} {other = other} {old = old} {mid = mid} view at run =
    let low = first_between journal.slots (journal.area.value + 1) in
    subst (λ j. AllHold j old → Each old mid (IsNumbered j.area.value)) view
    (λ all c since. inl (number_stays journal (InSlots other journal.slots) (λ k is. omega (arith, is.0, at, low.0)) all run c since))

-- and then the area cell is raised
pub raise_numbered : {journal was : JournalState} {other : ℕ} {old mid new : DiskState} → journal ≡ was → IsTrue old.honest
    → mid.honest ≡ old.honest → Written journal other old mid
    → (IsTrue mid.honest → Run (InSlot journal.area.spare) mid new)
    → (IsTrue mid.honest → AllStand journal.area mid → Each mid new (IsNumbered journal.area.value)) → AllHold was old
    → Each old new (IsNumbered was.area.value)
raise_numbered {journal = journal} {old = old} {mid = mid} {new = new} view honest same w run values =
    let still = same ∙ honest in
    subst (λ j. AllHold j old → Each old new (IsNumbered j.area.value)) view (λ all.
    let stays = area_stays journal honest all w.at w.run in
    each_of_two (InSlot journal.area.spare) old mid new (IsNumbered journal.area.value) w.run.later (run still)
    (area_numbered refl w.at w.run all) (values still (λ d image. (stays d (w.run.ends d image)).holds.area)))

-- where room was made
numbered_with : (was now : JournalState) (c : Image) → now ≡ with_slot was → cell_at c 4 ≡ Some now.area.value → IsNumbered was.area.value c
numbered_with was now c is at = grind (arith, nat_tests, is, at)

-- a slot is written behind what made room for it
pub append_numbered : (was now : JournalState) (touched : ℕ → Type 0) (old mid new : DiskState) → now ≡ with_slot was
    → old.moment ≤ mid.moment → Run touched mid new
    → Each old mid (IsNumbered was.area.value) → Each mid new (λ c. cell_at c 4 ≡ Some now.area.value)
    → Each old new (IsNumbered was.area.value)
append_numbered was now touched old mid new is later run before behind =
    each_of_two touched old mid new (IsNumbered was.area.value) later run before (λ c since. numbered_with was now c is (behind c since))

-- an image whose area cell has this number, or the next one, has at most the next one after a bound
within_next : (c : Image) (value number bound : ℕ) → value ≤ bound → cell_at c 4 ≡ Some number → IsNumbered value c → number ≤ bound + 1
within_next c value number bound low at is = ⊎_elim
    (λ same. (let still : number ≡ value = cc (at, same) in omega (arith, still, low)))
    (λ more. (let next : number ≡ value + 1 = cc (at, more) in omega (arith, next, low))) is

-- so the number rises by one at most
pub within_more : (journal : JournalState) (touched : ℕ → Type 0) {old new : DiskState} → AllHold journal old → Run touched old new
    → Each old new (IsNumbered journal.area.value) → (bound : ℕ)
    → AllWithin bound old → AllWithin (bound + 1) new
within_more journal touched {old = old} all run each bound within c number image at =
    let now : IsImage old old.contents = record { size = refl; same = λ k synced. refl } in
    within_next c journal.area.value number bound (within old.contents journal.area.value now
    (value_is journal old.contents (all old.contents now))) at (each c (run.ends c image))
