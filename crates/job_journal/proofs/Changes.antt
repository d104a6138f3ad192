-- What an append leaves of the journal, also behind a compaction, and what a compaction leaves, in each image: an area
-- written slot by slot, what it reads as in the end, and the area cell's raise.
use Rattle.job_journal.proofs.Common.{◌≡◌, ◌+◌, ◌*◌, ◌<◌, ◌⊎◌, inl, inr, ⊎_elim, ℕ, List, [], ◌∷◌, length, get_or, set, Bool, false, Some}
use Rattle.job_journal.proofs.Common.{None, is_some, sym, ◌∙◌, ap, subst, subst₂, refl}
use Rattle.job_journal.proofs.Common.{arith, IsTrue, Result, Ok, Err, IfOk, ◌-◌, ◌≤◌, zero, suc, ◌++◌, map, slice_get, length-append}
use Rattle.job_journal.proofs.Common.{append-nil, append_assoc, length-map, nat_tests}
use Rattle.job_journal.proofs.Common.{Image, DiskState, SameBut, AllSynced, Laws, Counts, sector_at, IsImage, Run, Each, run_widen}
use Rattle.job_journal.proofs.Common.{each_of_two, slot_at, InSlot, InSlots, run_on, Erased}
use Rattle.job_journal.proofs.Common.{erased_start, slot_same, Stands, CellState, IsCellAt, AllStand, raised, stands_same, cell_at, Command}
use Rattle.job_journal.proofs.Common.{record_of, bytes_of, Job, Record, IsInOrder}
use Rattle.job_journal.proofs.Common.{jobs_of, jobs_after, id_of, Jobs, Reads, fresh, taken, replay_at, then_slot, replayed, JournalFault}
use Rattle.job_journal.proofs.Common.{slots_from, sealed_prefix, IsPrefix, first_of}
use Rattle.job_journal.proofs.Common.{jobs_in, IsSound, IsSoundImage, ImagesSince, InJournal, replay_from, JournalState, Holds, AllHold}
use Rattle.job_journal.proofs.Common.{IsJournal, first_sector, next_slot, Admitted}
use Rattle.job_journal.proofs.Common.{BeforeOrAfter, appended, record_for, with_slot, KeepsJobs, HasAppended, IsWritten, records_for}
use Rattle.job_journal.proofs.Common.{other_sector}
use Rattle.std.proofs.lemmas.Option.{slice_get-map}
use Rattle.std.specs.Prelude.{option_map}
use borrow.Author.Count.{below_more}
use Rattle.slot_gate.specs.Stored.{Knows, IsStored, Follows}
use Rattle.sector_disk.proofs.PublicLaws.{no_more_then}
use Rattle.safe_cell.proofs.PublicLaws.{raised_way}
use Rattle.job_journal.specs.declared.place.Place.TheVariants.{Running, Keeping}
use Rattle.job_journal.proofs.Commands.{leaves_room, command_taken, kept, room_for, keep_taken}
use Rattle.job_journal.proofs.Frames.{synced_image, first_between, Stays, stays_by, stays_now, jobs_held, images_of, slots_same_from}
use Rattle.job_journal.proofs.Frames.{stands_same_from, HoldsJobs, jobs_held_at}
use Rattle.job_journal.proofs.Areas.{size, free_slot, put_some, length_slots, nth_slots, slot_kept, slots_put, replayed_more, none_sealed}
use Rattle.job_journal.proofs.Areas.{all_unsealed}

-- the slot behind the journal is unsealed
next_unsealed : (journal : JournalState) (slot : ℕ) (d : Image) → slot ≡ next_slot journal → journal.used < journal.slots → Holds journal d
    → slot_at d slot ≡ None
next_unsealed journal slot d at free h =
    let xs = slots_from d (first_sector journal) journal.slots in
    sym (nth_slots journal.used (first_sector journal) journal.slots slot d at free) ∙ ap (λ k. get_or xs k None) (sym h.used)
    ∙ (free_slot xs).0

-- Another image, in which nothing but that slot was touched.
pub record Touched (journal : JournalState) (slot : ℕ) (d c : Image) : Type 0 where
  pub at : slot ≡ next_slot journal
  pub free : journal.used < journal.slots
  pub same : SameBut (InSlot slot) d c

-- the area cell isn't in the slot, and the area differs in this place alone
touched_cell : {journal : JournalState} {slot : ℕ} {d c : Image} → Touched journal slot d c → Holds journal d → Stands journal.area c
touched_cell {journal = journal} {slot = slot} {d = d} {c = c} t h =
    let low = (first_between journal.slots journal.area.value).0 in
    let kept = λ (k : ℕ) (below : k + 1 < slot). slot_kept slot k d c t.same (inl below) in
    stands_same journal.area d c (kept journal.area.present (grind (arith, h.cell, low, t.at)))
    (kept journal.area.spare (grind (arith, h.cell, low, t.at))) h.area

touched_slots : {journal : JournalState} {slot : ℕ} {d c : Image} → Touched journal slot d c → Holds journal d
    → let xs = slots_from d (first_sector journal) journal.slots in
    slots_from c (first_sector journal) journal.slots ≡ set xs (size xs) (slot_at c slot)
touched_slots {journal = journal} {slot = slot} {d = d} {c = c} t h =
    slots_put journal.used (first_sector journal) journal.slots slot d c t.at t.same t.free
    ∙ ap (λ k. set (slots_from d (first_sector journal) journal.slots) k (slot_at c slot)) (sym h.used)

-- while that slot is unsealed, all is as it was
holds_still : {good : Type 0} {journal : JournalState} {slot : ℕ} {d c : Image} → Touched journal slot d c → Stays good journal d
    → slot_at c slot ≡ None → Stays good journal c
holds_still {journal = journal} {d = d} t was none =
    let xs = slots_from d (first_sector journal) journal.slots in
    stays_by (touched_cell t was.holds) (touched_slots t was.holds ∙ ap (λ s. set xs (size xs) s) none ∙ (free_slot xs).1) was

-- once it is sealed over the command's record, there are the jobs after the command
holds_more : {good : Type 0} {journal : JournalState} {command : Command} {content : List ℕ} {slot : ℕ} {d c : Image} → IsJournal journal
    → Admitted journal command
    → record_of content ≡ Some (record_for (jobs_of journal.table) command) → Touched journal slot d c → good → Stays good journal d
    → slot_at c slot ≡ Some content
    → Stays good (appended journal command) c
holds_more {journal = journal} {command = command} {content = content} {d = d} is can written t good was sealed =
    let h = was.holds in
    let first = first_sector journal in
    let slots = journal.slots in
    let xs = slots_from d first slots in
    let last = first + 2 * size xs in
    let put = put_some xs content (was.prefix good) (omega (arith, can.free, h.used, length_slots d first slots)) in
    let one_more = touched_slots t h ∙ ap (λ s. set xs (size xs) s) sealed in
    let bodies = ap sealed_prefix one_more ∙ put.0 in
    record {
      holds = record {
        cell = h.cell;
        present = h.present;
        area = touched_cell t h;
        place = Running;
        reads = ap (λ bs. replayed slots first (Reads fresh) bs) bodies
            ∙ replayed_more slots first last (Reads fresh) (sealed_prefix xs) content refl
            ∙ (λ i. then_slot slots last (h.reads i) content)
            ∙ ap (λ r. replay_at last (taken slots (record { jobs = jobs_of journal.table; place = h.place }) r)) written
            ∙ ap (λ r. replay_at last r) (command_taken slots (jobs_of journal.table) h.place command
            (leaves_room slots (jobs_of journal.table) command is.pending can.fits) can.known can.ids);
        used = ap length bodies ∙ omega (arith, h.used, length-append (sealed_prefix xs) (content ∷ []));
      };
      prefix = λ _. subst IsPrefix (sym one_more) put.1;
    }

-- in each image while the slot is stored
pub append_since : {journal : JournalState} {command : Command} {content : List ℕ} {slot : ℕ} {old new : DiskState} → IsTrue old.honest
    → IsJournal journal → Admitted journal command
    → record_of content ≡ Some (record_for (jobs_of journal.table) command) → slot ≡ next_slot journal → IsSound journal.slots old
    → AllHold journal old
    → (Knows old slot false → Each old new (Follows (InSlot slot) old slot (IsStored content)))
    → ImagesSince journal.slots old new (BeforeOrAfter journal command)
append_since {journal = journal} {command = command} {slot = slot} {old = old} honest is can written at good all images =
    images_of (λ c since.
    let f = images (λ d image. ap is_some (next_unsealed journal slot d at can.free (all d image))) c since in
    let h = stays_now journal old honest all f.from f.image in
    let t : Touched journal slot f.from c = record { at = at; free = can.free; same = f.same } in
    let before : slot_at c slot ≡ None → BeforeOrAfter journal command c × (IsSound journal.slots old → IsSoundImage journal.slots c) =
    λ none. let held = jobs_held (holds_still t h none) in (inl held.0, held.1) in
    ⊎_elim (λ same. before (same ∙ next_unsealed journal slot f.from at can.free h.holds))
    (⊎_elim before (λ some. let held = jobs_held (holds_more is can written t good h some) in (inr held.0, held.1))) f.step)

-- once all of it is synced
pub append_after : {journal : JournalState} {command : Command} {content : List ℕ} {slot : ℕ} {old new : DiskState} → IsTrue old.honest
    → IsJournal journal → Admitted journal command
    → record_of content ≡ Some (record_for (jobs_of journal.table) command) → slot ≡ next_slot journal → IsSound journal.slots old
    → AllHold journal old
    → Run (InSlot slot) old new → AllSynced new → slot_at new.contents slot ≡ Some content → AllHold (appended journal command) new
append_after {journal = journal} {slot = slot} {old = old} {new = new} honest is can written at good all run synced sealed c image =
    let f = run.follows c (run.ends c image) in
    (holds_more is can written (record { at = at; free = can.free; same = f.2 }) good (stays_now journal old honest all f.0 f.1)
    (ap (λ d. slot_at d slot) (synced_image new c synced image) ∙ sealed)).holds

-- the slot lies in the journal
pub append_run : (journal : JournalState) {slot : ℕ} {old new : DiskState} → slot ≡ next_slot journal → journal.used < journal.slots
    → Run (InSlot slot) old new
    → Run (InJournal journal.slots) old new
append_run journal {slot = slot} {old = old} {new = new} at free run =
    let w = first_between journal.slots journal.area.value in
    run_widen (InSlot slot) (InJournal journal.slots) old new (λ k is. (grind (arith, w.0, at, is), grind (arith, w.1, at, free, is))) run

-- the disk between the two parts is sound
pub sound_between : {was now : JournalState} {old mid : DiskState} → KeepsJobs was now → Run (InJournal was.slots) old mid
    → Each old mid (IsSoundImage was.slots) → IsSound now.slots mid
sound_between {mid = mid} keeps run each = subst (λ n. IsSound n mid) (sym keeps.slots) (λ honest c image. each c (run.ends c image))

pub before_since : (journal : JournalState) (command : Command) {old new : DiskState}
    → ImagesSince journal.slots old new (λ c. jobs_in journal.slots c ≡ Some (jobs_of journal.table))
    → ImagesSince journal.slots old new (BeforeOrAfter journal command)
before_since journal command before = record { each = λ c since. inl (before.each c since); sound = before.sound }

pub room_images : (was now : JournalState) (command : Command) {old mid new : DiskState} → KeepsJobs was now
    → Run (InJournal was.slots) old mid → Run (InJournal now.slots) mid new
    → ImagesSince was.slots old mid (λ c. jobs_in was.slots c ≡ Some (jobs_of was.table))
    → ImagesSince now.slots mid new (BeforeOrAfter now command)
    → ImagesSince was.slots old new (BeforeOrAfter was command)
room_images was now command {old = old} {mid = mid} {new = new} keeps first second before after =
    let behind : ImagesSince was.slots mid new (BeforeOrAfter was command) = subst₂ (λ n t. ImagesSince n mid new
    (λ c. (jobs_in n c ≡ Some (jobs_of t)) ⊎ (jobs_in n c ≡ Some (jobs_after (jobs_of t) command)))) keeps.slots keeps.table after in
    record {
      each = each_of_two (InJournal now.slots) old mid new (BeforeOrAfter was command) first.later second (λ c since.
          inl (before.each c since)) behind.each;
      sound = λ good. each_of_two (InJournal now.slots) old mid new (IsSoundImage was.slots) first.later second (before.sound good)
          (behind.sound (λ honest c image. before.sound good c (first.ends c image)));
    }

-- a command that was written behind a free slot was appended
pub has_appended : (was now new : JournalState) (command : Command) (answer : Result ℕ JournalFault) → KeepsJobs was now
    → now ≡ with_slot was
    → IfOk answer (λ id. (id ≡ id_of (jobs_of now.table) command) × (new ≡ appended now command))
    → IfOk answer (HasAppended was new command)
has_appended was now new command (Err fault) keeps is h = tt
has_appended was now new command (Ok id) keeps is h =
    record { id = cc (h.0, keeps.table); table = cc (h.1, keeps.table); unbroken = grind (arith, nat_tests, h.1, is); whole = cc (h.1, is) }

-- an area in which some slots were written, each by one call: what is said of it then, and that the calls end synced
pub record Writing (first slots : ℕ) (Said : ℕ → Image → Type 0) (old now : DiskState) (done : ℕ) : Type 0 where
  pub calls : Erased first slots old now 0
  pub said : IsTrue old.honest → Said 0 old.contents → Said done now.contents

pub writing_start : (first slots : ℕ) (Said : ℕ → Image → Type 0) (disk : DiskState) → (IsTrue disk.honest → Laws disk)
    → Writing first slots Said disk disk 0
writing_start first slots Said disk laws =
    record { calls = erased_start first slots disk laws; said = λ honest was. was }

-- they and one more touch nothing but the area
pub writing_run : {first slots : ℕ} {Said : ℕ → Image → Type 0} {here : ℕ → Type 0} {old mid new : DiskState} {done : ℕ}
    → ((k : ℕ) → here k → InSlots first slots k)
    → Writing first slots Said old mid done → (IsTrue mid.honest → Run here mid new) → IsTrue old.honest → Run (InSlots first slots) old new
writing_run {first = first} {slots = slots} into so_far = run_on (InSlots first slots) into so_far.calls.honest so_far.calls.run

pub writing_more : (first slots : ℕ) {Said : ℕ → Image → Type 0} {here : ℕ
    → Type 0} {old mid new : DiskState} {done : ℕ} {failed ok : Type 0} → ok → ((k : ℕ) → here k → InSlots first slots k)
    → Writing first slots Said old mid done → Counts mid new failed ok → (IsTrue mid.honest → Run here mid new)
    → (IsTrue mid.honest → Said done mid.contents → Said (done + 1) new.contents) → Writing first slots Said old new (done + 1)
writing_more first slots {old = old} {mid = mid} {new = new} was_ok into so_far counts run said = record {
  calls = record {
    sectors = counts.sectors ∙ so_far.calls.sectors;
    honest = counts.honest ∙ so_far.calls.honest;
    arms = no_more_then old.armed mid.armed new.armed so_far.calls.arms counts.arms;
    failures = counts.unchanged was_ok ∙ so_far.calls.failures;
    run = writing_run into so_far run;
    unsealed = λ honest k less. absurd (omega (arith, less));
  };
  said = λ honest was. said (so_far.calls.honest ∙ honest) (so_far.said honest was);
}

-- one body more
pub written_fill : (first slots : ℕ) (records : List Record) (filled : ℕ) (d c : Image) → SameBut (λ k. k ≡ first + 2 * filled) d c
    → record_of (sector_at c (first + 2 * filled)) ≡ slice_get records filled
    → Some (sector_at c (first + 2 * filled)) ≡ slice_get (map bytes_of records) filled
    → IsWritten first slots records filled 0 d → IsWritten first slots records (filled + 1) 0 c
written_fill first slots records filled d c same here spelled so_far = record {
  bodies = below_more (λ k. record_of (sector_at c (first + 2 * k)) ≡ slice_get records k) filled
      (λ k before. ap record_of (same.same (first + 2 * k) (λ is. omega (arith, is, before))) ∙ so_far.bodies k before) here;
  bytes = below_more (λ k. Some (sector_at c (first + 2 * k)) ≡ slice_get (map bytes_of records) k) filled
      (λ k before. ap (λ s. Some s) (same.same (first + 2 * k) (λ is. omega (arith, is, before))) ∙ so_far.bytes k before) spelled;
  sealed = λ k less. absurd (omega (arith, less));
  free = λ k le less. grind (arith, nat_tests, same.same (first + 2 * k + 1) (λ is. omega (arith, is)), so_far.free k le less);
}

-- one seal more
pub written_seal : (first slots : ℕ) (records : List Record) (filled sealed : ℕ) (d c : Image)
    → SameBut (λ k. k ≡ first + 2 * sealed + 1) d c
    → slot_at c (first + 2 * sealed) ≡ Some (sector_at d (first + 2 * sealed)) → IsWritten first slots records filled sealed d
    → IsWritten first slots records filled (sealed + 1) c
written_seal first slots records filled sealed d c same here so_far =
    let body : (k : ℕ) → sector_at c (first + 2 * k) ≡ sector_at d (first + 2 * k) =
    λ k. same.same (first + 2 * k) (λ is. omega (arith, is)) in
    let slot : (k : ℕ) → (k ≡ sealed → ⊥) → slot_at c (first + 2 * k) ≡ slot_at d (first + 2 * k) =
    λ k other. slot_same c d (first + 2 * k) (same.same (first + 2 * k + 1) (λ is. other (omega (arith, is)))) (body k) in
    record {
      bodies = λ k less. ap record_of (body k) ∙ so_far.bodies k less;
      bytes = λ k less. ap (λ s. Some s) (body k) ∙ so_far.bytes k less;
      sealed = below_more (λ k. slot_at c (first + 2 * k) ≡ Some (sector_at c (first + 2 * k))) sealed
          (λ k before. slot k (λ is. omega (arith, is, before)) ∙ so_far.sealed k before ∙ ap (λ s. Some s) (sym (body k)))
          (here ∙ ap (λ s. Some s) (sym (body sealed)));
      free = λ k le less. slot k (λ is. omega (arith, is, le)) ∙ so_far.free k (omega (arith, le)) less;
    }

-- the record behind the first, of the job in the place before
pub record_behind : (jobs : Jobs) (slot : ℕ) (job : Job) → (slot ≡ 0 → ⊥) → slice_get jobs.pending (slot - 1) ≡ Some job
    → slice_get (records_for jobs) slot ≡ Some (Record.Keep job)
record_behind jobs zero job some is = absurd (some refl)
record_behind jobs (suc place) job some is =
    let there : slice_get jobs.pending place ≡ Some job = ap (λ k. slice_get jobs.pending k) (omega arith) ∙ is in
    slice_get-map Record.Keep jobs.pending place ∙ ap (λ o. option_map Record.Keep o) there

-- in an area with all of its records and nothing else the sealed slots are a prefix, and their bodies are the records
whole_slots : (at n : ℕ) (records : List Record) (c : Image) → length records ≤ n
    → IsWritten at n records (length records) (length records) c
    → IsPrefix (slots_from c at n) × (map record_of (sealed_prefix (slots_from c at n)) ≡ map (λ r. Some r) records)
whole_slots at n [] c fits h =
    let none = none_sealed (slots_from c at n) (all_unsealed c at n (λ k less. h.free k (omega arith) less)) in
    (none.1, ap (λ bodies. map record_of bodies) none.0)
whole_slots at zero (r ∷ rs) c fits h = absurd (omega (arith, fits))
whole_slots at (suc n) (r ∷ rs) c fits h =
    let xs = slots_from c (at + 2) n in
    let first : at + 2 * 0 ≡ at = omega arith in
    let there : (k : ℕ) → at + 2 + 2 * k ≡ at + 2 * suc k = λ k. omega arith in
    let here : slot_at c at ≡ Some (sector_at c at) = subst (λ s. slot_at c s ≡ Some (sector_at c s)) first (h.sealed 0 (omega arith)) in
    let body : record_of (sector_at c at) ≡ Some r = subst (λ s. record_of (sector_at c s) ≡ Some r) first (h.bodies 0 (omega arith)) in
    let rest = whole_slots (at + 2) n rs c (omega (arith, fits)) (record {
      bodies = λ k less. ap (λ s. record_of (sector_at c s)) (there k) ∙ h.bodies (suc k) (omega (arith, less));
      bytes = λ k less. ap (λ s. Some (sector_at c s)) (there k) ∙ h.bytes (suc k) (omega (arith, less));
      sealed = λ k less. subst (λ s. slot_at c s ≡ Some (sector_at c s)) (sym (there k)) (h.sealed (suc k) (omega (arith, less)));
      free = λ k le less. ap (λ s. slot_at c s) (there k) ∙ h.free (suc k) (omega (arith, le)) (omega (arith, less));
    }) in
    (subst (λ s. IsPrefix (s ∷ xs)) (sym here) rest.0, ap (λ s. map record_of (sealed_prefix (s ∷ xs))) here ∙ (λ i. body i ∷ rest.1 i))

keeps_read : (slots at next : ℕ) (done rest : List Job) (bodies : List (List ℕ)) → IsInOrder (done ++ rest) next
    → length done + length rest + 2 ≤ slots
    → map record_of bodies ≡ map (λ r. Some r) (map Record.Keep rest)
    → replayed slots at (Reads (kept next done)) bodies ≡ Reads (kept next (done ++ rest))
keeps_read slots at next done [] [] order fits is = ap (λ jobs. Reads (kept next jobs)) (sym (append-nil done))
keeps_read slots at next done (job ∷ rest) [] order fits is = cc
keeps_read slots at next done [] (body ∷ bodies) order fits is = cc
keeps_read slots at next done (job ∷ rest) (body ∷ bodies) order fits is =
    let here : record_of body ≡ Some (Record.Keep job) = cc in
    let others : map record_of bodies ≡ map (λ r. Some r) (map Record.Keep rest) = cc in
    let more = append_assoc done (job ∷ []) rest in
    ap (λ o. replayed slots (at + 2) (replay_at at o) bodies)
    (ap (λ o. taken slots (kept next done) o) here ∙ keep_taken slots next done rest job order fits)
    ∙ keeps_read slots (at + 2) next (done ++ job ∷ []) rest bodies (subst (λ jobs. IsInOrder jobs next) (sym more) order)
    (omega (arith, fits, length-append done (job ∷ []))) others
    ∙ ap (λ jobs. Reads (kept next jobs)) more

all_read : (slots at : ℕ) (jobs : Jobs) (bodies : List (List ℕ)) → IsInOrder jobs.pending jobs.next → length jobs.pending + 2 ≤ slots
    → map record_of bodies ≡ map (λ r. Some r) (records_for jobs)
    → replayed slots at (Reads fresh) bodies ≡ Reads (kept jobs.next jobs.pending)
all_read slots at jobs [] order fits is = cc
all_read slots at jobs (body ∷ bodies) order fits is =
    let here : record_of body ≡ Some (Record.Base jobs.next) = cc in
    let others : map record_of bodies ≡ map (λ r. Some r) (map Record.Keep jobs.pending) = cc in
    ap (λ o. replayed slots (at + 2) (replay_at at o) bodies)
    (ap (λ o. taken slots fresh o) here ∙ room_for slots (kept jobs.next []) (omega (arith, fits)))
    ∙ keeps_read slots (at + 2) jobs.next [] jobs.pending bodies order (omega (arith, fits)) others

-- what an area that was written anew holds
pub record Anew (slots first : ℕ) (jobs : Jobs) (c : Image) : Type 0 where
  pub reads : replay_from slots c first ≡ Reads (kept jobs.next jobs.pending)
  pub prefix : IsPrefix (slots_from c first slots)
  pub count : length (sealed_prefix (slots_from c first slots)) ≡ length jobs.pending + 1

pub anew : (slots first : ℕ) (jobs : Jobs) (c : Image) → IsInOrder jobs.pending jobs.next → length jobs.pending + 2 ≤ slots
    → IsWritten first slots (records_for jobs) (length jobs.pending + 1) (length jobs.pending + 1) c → Anew slots first jobs c
anew slots first jobs c order fits written =
    let records = records_for jobs in
    let bodies = sealed_prefix (slots_from c first slots) in
    let count : length jobs.pending + 1 ≡ length records = omega (arith, length-map jobs.pending Record.Keep) in
    let whole = whole_slots first slots records c (omega (arith, fits, count))
    (subst (λ k. IsWritten first slots records k k c) count written) in
    record {
      reads = all_read slots first jobs bodies order fits whole.1;
      prefix = whole.0;
      count = sym (length-map bodies record_of) ∙ ap length whole.1 ∙ length-map records (λ r. Some r) ∙ sym count;
    }

-- while nothing is done
pub still_since : (journal : JournalState) (disk : DiskState) → IsTrue disk.honest → Laws disk → AllHold journal disk
    → ImagesSince journal.slots disk disk (λ c. jobs_in journal.slots c ≡ Some (jobs_of journal.table))
still_since journal disk honest laws all = images_of (λ c since. jobs_held (stays_now journal disk honest all c (laws.only_now c since)))

-- each image while the other area is written: the journal stays as it was
pub area_stays : (journal : JournalState) {other : ℕ} {old mid : DiskState} → IsTrue old.honest → AllHold journal old
    → other ≡ other_sector journal
    → Run (InSlots other journal.slots) old mid → Each old mid (Stays (IsSound journal.slots old) journal)
area_stays journal {other = other} {old = old} honest all at run c since =
    let f = run.follows c since in
    let was = stays_now journal old honest all f.0 f.1 in
    let low = first_between journal.slots (journal.area.value + 1) in
    stays_by (stands_same_from 4 journal.area f.0 c was.holds.cell (record {
      same =
          λ k le lt. f.2.same k (λ is. omega (arith, lt, is.0, at, low.0));
    }) was.holds.area)
    (slots_same_from (first_sector journal) journal.slots f.0 c (record {
      same =
          λ k le lt. f.2.same k (λ is. grind (arith, nat_tests, at, le, lt, is.0, is.1));
    })) was

-- the other area once it is written
pub record Written (journal : JournalState) (other : ℕ) (old mid : DiskState) : Type 0 where
  pub at : other ≡ other_sector journal
  pub run : Run (InSlots other journal.slots) old mid
  pub written : IsWritten other journal.slots (records_for (jobs_of journal.table)) (length journal.table.pending + 1)
      (length journal.table.pending + 1) mid.contents
  pub synced : AllSynced mid

written_anew : {journal : JournalState} {other : ℕ} {old mid : DiskState} → IsJournal journal
    → IsInOrder journal.table.pending journal.table.next → Written journal other old mid
    → (c : Image) → IsImage mid c → Anew journal.slots (other_sector journal) (jobs_of journal.table) c
written_anew {journal = journal} {other = other} {mid = mid} is order w c image =
    let count = length journal.table.pending + 1 in
    subst (λ o. Anew journal.slots o (jobs_of journal.table) c) w.at (anew journal.slots other (jobs_of journal.table) c order is.pending
    (subst (λ d. IsWritten other journal.slots (records_for (jobs_of journal.table)) count count d)
    (sym (synced_image mid c w.synced image)) w.written))

-- the areas aren't touched by the area cell's raise
area_kept : (journal : JournalState) (v : ℕ) (d c : Image) → IsCellAt 4 journal.area → SameBut (InSlot journal.area.spare) d c
    → slots_from c (first_of journal.slots v) journal.slots ≡ slots_from d (first_of journal.slots v) journal.slots
area_kept journal v d c way same =
    slots_same_from (first_of journal.slots v) journal.slots d c
    (record { same = λ k le lt. same.same k (λ is. grind (arith, le, (first_between journal.slots v).0, way, is)) })

-- each image while the area cell is raised: whichever area counts, it has the same jobs
raise_holds : {journal : JournalState} {other : ℕ} {old mid new : DiskState} → IsTrue old.honest → IsJournal journal
    → IsInOrder journal.table.pending journal.table.next → AllHold journal old
    → Written journal other old mid → Run (InSlot journal.area.spare) mid new
    → Each mid new (λ c. (cell_at c 4 ≡ Some journal.area.value) ⊎ (cell_at c 4 ≡ Some (journal.area.value + 1)))
    → Each mid new (HoldsJobs (IsSound journal.slots old) journal)
raise_holds {journal = journal} honest is order all w run values c since =
    let f = run.follows c since in
    let v = journal.area.value in
    let was = area_stays journal honest all w.at w.run f.0 (w.run.ends f.0 f.1) in
    let next = written_anew is order w f.0 f.1 in
    ⊎_elim (λ before. jobs_held_at journal.slots v f.0 c (area_kept journal v f.0 c is.cell f.2) before is.present was.holds.reads
    was.prefix)
    (λ after. jobs_held_at journal.slots (v + 1) f.0 c (area_kept journal (v + 1) f.0 c is.cell f.2) after (omega arith) next.reads (λ _.
    next.prefix)) (values c since)

-- What the code knows of the journal is known of its view. First while the other area is written:
pub area_run : {journal was : JournalState} {other : ℕ} {old mid : DiskState} → journal ≡ was → other ≡ other_sector journal
    → Run (InSlots other journal.slots) old mid
    → Run (InJournal was.slots) old mid
area_run {journal = journal} {other = other} {old = old} {mid = mid} view at run =
    let w = first_between journal.slots (journal.area.value + 1) in
    subst (λ j. Run (InJournal j.slots) old mid) view
    (run_widen (InSlots other journal.slots) (InJournal journal.slots) old mid (λ k is. (
      omega (arith, is.0, at, w.0),
      omega (arith, is.1, at, w.1),
    )) run)

pub jobs_held_since : {journal was : JournalState} {old new : DiskState} → journal ≡ was
    → (AllHold journal old → Each old new (HoldsJobs (IsSound journal.slots old) journal)) → AllHold was old
    → ImagesSince was.slots old new (λ c. jobs_in was.slots c ≡ Some (jobs_of was.table))
jobs_held_since {old = old} {new = new} view held =
    subst (λ j. AllHold j old → ImagesSince j.slots old new (λ c. jobs_in j.slots c ≡ Some (jobs_of j.table))) view (λ all.
    images_of (held all))

-- then while the area cell is raised
pub compact_run : {journal was : JournalState} {other : ℕ} {old mid new : DiskState} → journal ≡ was → IsJournal journal
    → other ≡ other_sector journal → mid.honest ≡ old.honest
    → (IsTrue old.honest → Run (InSlots other journal.slots) old mid) → (IsTrue mid.honest → Run (InSlot journal.area.spare) mid new)
    → IsTrue old.honest → Run (InJournal was.slots) old new
compact_run {was = was} view is at same first second =
    run_on (InJournal was.slots) (λ k here. subst (λ j. InJournal j.slots k) view (
      grind (arith, is.cell, here),
      grind (arith, is.cell, here),
    )) same (λ honest. area_run view at (first honest)) second

pub compact_since : {journal was : JournalState} {other : ℕ} {old mid new : DiskState} → journal ≡ was → IsTrue old.honest
    → IsJournal journal → IsInOrder journal.table.pending journal.table.next
    → mid.honest ≡ old.honest → Written journal other old mid → (IsTrue mid.honest → Run (InSlot journal.area.spare) mid new)
    → (IsTrue mid.honest → AllStand journal.area mid → Each mid new (λ c. (cell_at c 4 ≡ Some journal.area.value)
    ⊎ (cell_at c 4 ≡ Some (journal.area.value + 1))))
    → AllHold was old → ImagesSince was.slots old new (λ c. jobs_in was.slots c ≡ Some (jobs_of was.table))
compact_since {journal = journal} {old = old} {mid = mid} {new = new} view honest is order same w run values =
    let still = same ∙ honest in
    jobs_held_since view (λ all.
    let stays = area_stays journal honest all w.at w.run in
    each_of_two (InSlot journal.area.spare) old mid new (HoldsJobs (IsSound journal.slots old) journal) w.run.later (run still)
    (λ c since. jobs_held (stays c since))
    (raise_holds honest is order all w (run still) (values still (λ d image. (stays d (w.run.ends d image)).holds.area))))

-- the disk in the end
pub compact_after : {journal was : JournalState} {area : CellState} {used other : ℕ} {broken : Bool} {old mid new : DiskState}
    → journal ≡ was → IsTrue old.honest → IsJournal journal
    → IsInOrder journal.table.pending journal.table.next → Written journal other old mid → Run (InSlot journal.area.spare) mid new
    → area ≡ raised journal.area
    → used ≡ length journal.table.pending + 1 → (AllStand journal.area mid → AllStand area new) → AllHold was old
    → AllHold (record journal { area = area; used = used; broken = broken }) new
compact_after {journal = journal} {area = area} {used = used} {broken = broken} {old = old} {new =
    new} view honest is order w run here count stand known c image =
    let f = run.follows c (run.ends c image) in
    let next = written_anew is order w f.0 f.1 in
    let same = area_kept journal (journal.area.value + 1) f.0 c is.cell f.2 in
    let stays = area_stays journal honest (subst (λ j. AllHold j old) (sym view) known) w.at w.run in
    subst (λ a. Holds (record journal { area = a; used = used; broken = broken }) c) (sym here) (record {
      cell = raised_way 4 journal.area is.cell;
      present = omega arith;
      area = subst (λ a. Stands a c) here (stand (λ d now. (stays d (w.run.ends d now)).holds.area) c image);
      place = Keeping;
      reads = cc (same, next.reads);
      used = cc (same, next.count, count);
    })
