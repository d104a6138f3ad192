-- The jobs that can still be read of a store whose journal is damaged: in front of the damage and behind it.
use Rattle.std.specs.Prelude.{◌≡◌, ℕ, ◌+◌, ◌*◌, ◌==◌, ◌||◌, ◌⊎◌, ◌<◌, ◌≤◌, max, nat_lt, not, zero, suc, Bool, true, false, List, [], ◌∷◌}
use Rattle.std.specs.Prelude.{◌++◌, length, take, drop, replicate, get_or, count_by, flat_map, codes, decimal, if◌then◌else◌, Option, Some}
use Rattle.std.specs.Prelude.{None, is_some, IsSome, Result, Ok, Err}
use Rattle.std.specs.List.{list_any}
use Rattle.std.specs.Int.{from_be_bytes, w64}
use Rattle.std.specs.Ordering.{nat_cmp}
use Rattle.std.specs.BTreeMap.{BTreeMap, IsOrdered, get}
use Rattle.job_model.specs.declared.work.Work.{Work}
use Rattle.job_model.specs.declared.record.Record.{Record}
use Rattle.job_model.specs.declared.record.Record.TheVariants as kind
use Rattle.job_model.specs.Records.{length_in, record_of}
use Rattle.sector_disk.specs.Disk.{Image, sector_at}
use Rattle.slot_gate.specs.Slot.{slot_at}
use Rattle.job_journal.specs.Areas.{area_of}
use Rattle.job_journal.specs.Jobs.{Jobs}
use Rattle.console_text.specs.Ends.{Printout, line}
use Rattle.node_store.specs.Store.{slots_for}
use Rattle.store_console.specs.Explained.{apart}
use Rattle.store_console.specs.Findings.{is_raised}
use Rattle.store_console.specs.Held.{IsHeldBy, journal_of}
use Rattle.store_console.specs.Printed.{too_small}
use Rattle.store_console.specs.Replies.{job_text}
use Rattle.store_console.specs.declared.slot_content.Said.{Said}
use Rattle.store_console.specs.declared.slot_content.Said.TheVariants.{Kept, Done, Nothing, Unread}
use Rattle.store_console.specs.declared.slot_content.SlotContent.{SlotContent}

-- ---- a body of which one byte is damaged that says nothing

-- all of these bytes are zero, or all but one
abbrev pub is_nearly_blank : List ℕ → Bool
is_nearly_blank bytes = nat_lt (count_by (λ byte. not (byte == 0)) bytes) 2

-- how many bytes a record has, by its kind and by the length that it says of a payload
abbrev pub record_bytes : List ℕ → ℕ
record_bytes body =
    if get_or body 0 0 == 5 || get_or body 0 0 == 6 then 13 + length_in 11 body
    else (if get_or body 0 0 == 1 || get_or body 0 0 == 4 then 12 + length_in 10 body
    else 9)

-- so many bytes of a sector, and zeros
unfoldable pub cleared : ℕ → List ℕ → List ℕ
cleared kept body = take kept body ++ drop kept (replicate 512 0)

-- the record of a body: what stands behind its bytes may be zeros, or zeros but for one byte
unfoldable pub readable : List ℕ → Option Record
readable body = if is_nearly_blank (drop (record_bytes body) body) then record_of (cleared (record_bytes body) body) else None

-- the number of a cell's slot in the same way
unfoldable pub readable_number : List ℕ → Option ℕ
readable_number body = if is_nearly_blank (drop 8 body) then Some (from_be_bytes w64 body) else None

-- ---- what is read

-- what a record says of a job
abbrev pub said_by : Option Record → Said
said_by None = Unread
said_by (Some (kind.Put job)) = Kept job.id job.work
said_by (Some (kind.Keep job)) = Kept job.id job.work
said_by (Some (kind.Done id)) = Done id
said_by (Some (kind.Base next)) = Nothing

abbrev pub said_in : List ℕ → Said
said_in body = said_by (readable body)

-- the value of the area cell, where its slots leave no doubt of it
abbrev pub sure_of : Option ℕ → Option ℕ → Option ℕ
sure_of None b = None
sure_of (Some a) None = None
sure_of (Some a) (Some b) = if is_raised a b then Some (max a b) else None

abbrev pub sure_value : Option (List ℕ) → Option (List ℕ) → Option ℕ
sure_value None None = None
sure_value (Some a) None = readable_number a
sure_value None (Some b) = readable_number b
sure_value (Some a) (Some b) = sure_of (readable_number a) (readable_number b)

-- where the area begins that is read; none where there is a doubt: then both are
abbrev pub sure_area : ℕ → Image → Option ℕ
sure_area slots image = area_of slots (sure_value (slot_at image 4) (slot_at image 6))

-- whether a slot is sealed over a record, as a mounting reads it
abbrev pub is_whole : Option (List ℕ) → Bool
is_whole None = false
is_whole (Some body) = is_some (record_of body)

-- what a slot gives, also where its gate is damaged
abbrev pub content_at : Image → ℕ → SlotContent
content_at image at = record { sector = at; says = said_in (sector_at image at); whole = is_whole (slot_at image at) }

abbrev pub contents_from : Image → ℕ → ℕ → List SlotContent
contents_from image at zero = []
contents_from image at (suc n) = content_at image at ∷ contents_from image (at + 2) n

-- so many of these slots, from a sector on, are all up to the last that is sealed
pub record IsSealedTo (slots : ℕ) (image : Image) (first end : ℕ) : Type 0 where
  pub within : end ≤ slots
  pub last : (end ≡ 0) ⊎ ((at : ℕ) × (end ≡ at + 1) × IsSome (slot_at image (first + 2 * at)))
  pub none_behind : (at : ℕ) → end ≤ at → at < slots → slot_at image (first + 2 * at) ≡ None

-- what is read of the area that begins in a sector: its slots up to the last that is sealed
abbrev pub ReadFrom : ℕ → Image → ℕ → List SlotContent → Type 0
ReadFrom slots image first contents = (end : ℕ) × IsSealedTo slots image first end × (contents ≡ contents_from image first end)

-- the present area, or both where it isn't known
abbrev pub Reads : ℕ → Image → Option ℕ → List SlotContent → Type 0
Reads slots image (Some first) contents = ReadFrom slots image first contents
Reads slots image None contents =
    (front back : List SlotContent) × ReadFrom slots image 8 front × ReadFrom slots image (8 + 2 * slots) back × (contents ≡ front ++ back)

-- ---- the jobs

-- the work of the job of an id behind one more record, where this was known of it
abbrev pub put_by : ℕ → Option Work → Said → Option Work
put_by id known (Kept other work) = if other == id then Some work else known
put_by id known (Done other) = known
put_by id known Nothing = known
put_by id known Unread = known

-- what the last Put or Keep of an id says
abbrev pub put_behind : ℕ → Option Work → List SlotContent → Option Work
put_behind id known [] = known
put_behind id known (content ∷ contents) = put_behind id (put_by id known content.says) contents

abbrev pub is_done_by : ℕ → Said → Bool
is_done_by id (Kept other work) = false
is_done_by id (Done other) = other == id
is_done_by id Nothing = false
is_done_by id Unread = false

-- a Done names this id: an id is given once, so its job is done wherever that stands
abbrev pub is_done : List SlotContent → ℕ → Bool
is_done contents id = list_any (λ (content : SlotContent). is_done_by id content.says) contents

-- the work of the job of an id that was put or kept and isn't done
abbrev pub salvaged : List SlotContent → ℕ → Option Work
salvaged contents id = if is_done contents id then None else put_behind id None contents

-- these are the jobs that are salvaged, in order of id
pub record AreSalvaged (contents : List SlotContent) (jobs : BTreeMap ℕ Work) : Type 0 where
  pub ordered : IsOrdered nat_cmp jobs
  pub each : (id : ℕ) → get nat_cmp jobs id ≡ salvaged contents id

-- ---- what is said

-- one more reason behind those before it
abbrev pub reasoned : List ℕ → List ℕ → List ℕ
reasoned why reason = why ++ apart why ++ reason

abbrev pub reason_by : Said → List ℕ
reason_by (Kept id work) = codes " is damaged, and taken for what it says"
reason_by (Done id) = codes " is damaged, and taken for what it says"
reason_by Nothing = codes " is damaged, and taken for what it says"
reason_by Unread = codes " can't be read"

abbrev pub content_reason : SlotContent → List ℕ
content_reason content = codes "sector " ++ decimal content.sector ++ reason_by content.says

-- each slot that a mounting can't read
abbrev pub contents_reasons : List ℕ → List SlotContent → List ℕ
contents_reasons why [] = why
contents_reasons why (content ∷ contents) = contents_reasons (if content.whole then why else reasoned why (content_reason content)) contents

abbrev pub area_reason : List ℕ → Option ℕ → List ℕ
area_reason why None = reasoned why (codes "the present area isn't known, so both are read")
area_reason why (Some first) = why

-- why the journal can't be mounted, as `export` says it
abbrev pub journal_reason : Result Jobs ℕ → List ℕ
journal_reason (Ok jobs) = []
journal_reason (Err sector) = codes "damaged_journal " ++ decimal sector

abbrev pub salvage_why : ℕ → Image → List SlotContent → List ℕ
salvage_why slots image contents = contents_reasons (area_reason (journal_reason (journal_of slots image)) (sure_area slots image)) contents

-- ---- all of it

abbrev pub entry_line : ℕ × Work → List ℕ
entry_line entry = line (job_text (record { id = entry.0; work = entry.1 }))

-- a line for each of these jobs; it ends well where there is no reason not to
abbrev pub salvage_text : BTreeMap ℕ Work → List ℕ → Printout
salvage_text jobs why = record { text = flat_map entry_line jobs.entries; good = length why == 0 }

-- what is printed of a disk with as many sectors as a store has, and what is said
pub record IsSalvaged (slots : ℕ) (image : Image) (printout : Printout) (why : List ℕ) : Type 0 where
  pub contents : List SlotContent
  pub read : Reads slots image (sure_area slots image) contents
  pub jobs : BTreeMap ℕ Work
  pub each : AreSalvaged contents jobs
  pub said : why ≡ salvage_why slots image contents
  pub printed : printout ≡ salvage_text jobs why

abbrev pub IsSalvagedOr : Bool → Image → Printout → List ℕ → Type 0
IsSalvagedOr true image printout why = (printout ≡ too_small (length image)) × (why ≡ [])
IsSalvagedOr false image printout why = IsSalvaged (slots_for (length image)) image printout why

-- What is printed of a file with these bytes, and what standard error says: the jobs that can still be read, and what can't be.
pub record IsSalvage (bytes : List ℕ) (printout : Printout) (why : List ℕ) : Type 0 where
  pub image : Image
  pub held : IsHeldBy bytes image
  pub salvaged : IsSalvagedOr (nat_lt (length image) 24) image printout why

abbrev pub IsSalvagePrintout : List ℕ → Printout → Type 0
IsSalvagePrintout bytes printout = (why : List ℕ) × IsSalvage bytes printout why
