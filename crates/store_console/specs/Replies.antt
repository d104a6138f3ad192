-- What a request is answered, by what is mounted.
use Rattle.std.specs.Prelude.{◌≡◌, ◌⊎◌, ◌<◌, ℕ, ◌-◌, ◌^◌, List, [], ◌++◌, flat_map, Bool, true, false, Option, Some, None, IsTrue, IsFalse}
use Rattle.std.specs.Prelude.{Result, Ok, Err, codes, decimal}
use Rattle.job_model.specs.declared.node_command.NodeCommand.{NodeCommand as Command}
use Rattle.job_model.specs.declared.node_command.NodeCommand.TheVariants.{Raise, Put, Done}
use Rattle.job_model.specs.Durable.{Durable}
use Rattle.job_model.specs.declared.job.Job.{Job}
use Rattle.job_model.specs.declared.command.Command.TheVariants as change
use Rattle.file_disk.specs.File.{FileState}
use Rattle.file_disk.specs.declared.fault.OpenFault.{OpenFault}
use Rattle.file_disk.specs.declared.fault.OpenFault.TheVariants as fault
use Rattle.node_store.specs.Store.{StoreState, durable_of, append_refusal, compaction_refusal, raise_refusal, Changed}
use Rattle.job_journal.specs.declared.fault.JournalFault.{JournalFault}
use Rattle.node_store.specs.declared.fault.StoreFault.{StoreFault}
use Rattle.node_store.specs.declared.mounting.MountFault.{MountFault}
use Rattle.std.specs.declared.io.Error.{Error}
use Rattle.console_text.specs.Ends.{line}
use Rattle.console_text.specs.Words.{work_text}
use Rattle.store_console.specs.declared.request.Request.{Request}
use Rattle.store_console.specs.declared.request.Request.TheVariants as request
use Rattle.store_console.specs.declared.reply.Reply.{Reply}
use Rattle.store_console.specs.declared.reply.Reply.TheVariants as reply
use Rattle.store_console.specs.Barring.{IsNoLock, barred}

-- what is mounted, if anything is
abbrev pub Mounted : Type 0
Mounted = Option (StoreState FileState)

-- ---- a change of a mounted store

-- The device failed, in a call that is counted: then the store shows what it showed before, and is broken.
pub record Fails (old : StoreState FileState) (answered : Reply) (new : StoreState FileState) : Type 0 where
  pub answer : answered ≡ reply.Refused JournalFault.Device
  pub shown : durable_of new ≡ durable_of old
  pub broken : IsTrue new.broken
  pub counted : (old.disk.failures < new.disk.failures) ⊎ (new.disk.failures ≡ 2 ^ 64 - 1)

-- Some change of the store was made, and no call failed, or its device failed.
abbrev pub Attempted : (StoreState FileState → Type 0) → StoreState FileState → Reply → StoreState FileState → Type 0
Attempted Made old answered new = (Made new × (new.disk.failures ≡ old.disk.failures)) ⊎ Fails old answered new

-- The store stays mounted. Where the change is refused for what the store knows, nothing changes.
abbrev pub Tries : (StoreState FileState → Type 0) → Option JournalFault → StoreState FileState → Reply → Mounted → Type 0
Tries Made refusal old answered None = ⊥
Tries Made (Some fault) old answered (Some new) = (answered ≡ reply.Refused fault) × (new ≡ old)
Tries Made None old answered (Some new) = Attempted Made old answered new

-- the command was made, and it is answered so
abbrev pub Commanded : StoreState FileState → Command → (ℕ → Reply) → Reply → StoreState FileState → Type 0
Commanded old command reply answered new = (answer : ℕ) × (answered ≡ reply answer) × Changed old new command answer

-- a compaction was made, which changes nothing that is shown
abbrev pub Compacted : StoreState FileState → Reply → StoreState FileState → Type 0
Compacted old answered new = (answered ≡ reply.Done) × (durable_of new ≡ durable_of old) × IsFalse new.broken

-- ---- the file

-- what making the file is answered; nothing is mounted then
abbrev pub IsFormatted : Reply → Type 0
IsFormatted reply.Done = Unit {0}
IsFormatted (reply.Refused fault) = ⊥
IsFormatted (reply.Unmounted fault) = fault ≡ StoreFault.Device
IsFormatted (reply.Barred fault) = IsNoLock fault
IsFormatted reply.Locked = Unit {0}
IsFormatted reply.Foreign = Unit {0}
IsFormatted (reply.Value n) = ⊥
IsFormatted reply.Listed = ⊥

-- what is answered where no store is mounted
abbrev pub IsUnmounted : Reply → Type 0
IsUnmounted reply.Done = ⊥
IsUnmounted (reply.Refused fault) = ⊥
IsUnmounted (reply.Unmounted fault) = Unit {0}
IsUnmounted (reply.Barred fault) = IsNoLock fault
IsUnmounted reply.Locked = Unit {0}
IsUnmounted reply.Foreign = Unit {0}
IsUnmounted (reply.Value n) = ⊥
IsUnmounted reply.Listed = ⊥

-- a store was mounted of which no call has failed
pub record IsFresh (store : StoreState FileState) : Type 0 where
  pub whole : IsFalse store.broken
  pub unfailed : store.disk.failures ≡ 0

-- what a mounting is answered: a store whose device hasn't failed is mounted, or nothing is
abbrev pub IsMounted : Reply → Mounted → Type 0
IsMounted answered (Some new) = (answered ≡ reply.Done) × IsFresh new
IsMounted answered None = IsUnmounted answered

-- ---- for the code

-- the device failed, with the words of the system where there are some
abbrev pub HasFailed : Reply → Type 0
HasFailed answered = (answered ≡ reply.Unmounted StoreFault.Device) ⊎ ((error : Error) × (answered ≡ reply.Barred (fault.Device error)))

-- this is what the fault of a mounting is answered
abbrev pub IsAnswerTo : StoreFault → Reply → Type 0
IsAnswerTo StoreFault.Device answered = HasFailed answered
IsAnswerTo StoreFault.NoMemory answered = ⊥
IsAnswerTo fault answered = answered ≡ reply.Unmounted fault

-- a store that was mounted is had as it is, and a mounting that was refused is answered by its fault
abbrev pub Settles : Result (StoreState FileState) (MountFault FileState) → Result (StoreState FileState) Reply → Type 0
Settles (Ok store) (Ok same) = same ≡ store
Settles (Ok store) (Err answered) = ⊥
Settles (Err refused) (Ok store) = ⊥
Settles (Err refused) (Err answered) = IsAnswerTo refused.fault answered

-- a file was made, or wasn't, and is formatted then, or the device failed
abbrev pub Finishes : Result FileState OpenFault → Reply → Type 0
Finishes (Err fault) answered = answered ≡ barred fault
Finishes (Ok disk) answered = (answered ≡ reply.Done) ⊎ HasFailed answered

-- the format of a disk is answered so
abbrev pub IsFormattedBy : {A : Type 0} → Result A StoreFault → Reply → Type 0
IsFormattedBy (Ok done) answered = answered ≡ reply.Done
IsFormattedBy (Err fault) answered = HasFailed answered

-- a file that is there but can't be opened is answered by the fault
abbrev pub IsBarredBy : Result FileState OpenFault → Reply → Type 0
IsBarredBy (Ok disk) answered = Unit {0}
IsBarredBy (Err fault.Locked) answered = answered ≡ reply.Locked
IsBarredBy (Err (fault.Exists error)) answered = answered ≡ reply.Barred (fault.Exists error)
IsBarredBy (Err (fault.NotFound error)) answered = Unit {0}
IsBarredBy (Err (fault.Denied error)) answered = answered ≡ reply.Barred (fault.Denied error)
IsBarredBy (Err (fault.Folder error)) answered = answered ≡ reply.Barred (fault.Folder error)
IsBarredBy (Err fault.NotAFile) answered = answered ≡ reply.Barred fault.NotAFile
IsBarredBy (Err (fault.Unusable error)) answered = answered ≡ reply.Barred (fault.Unusable error)
IsBarredBy (Err (fault.NoRoom error)) answered = answered ≡ reply.Barred (fault.NoRoom error)
IsBarredBy (Err (fault.Device error)) answered = answered ≡ reply.Barred (fault.Device error)

-- ---- a request

-- a number, or why there is none
abbrev pub valued : Result ℕ JournalFault → Reply
valued (Ok n) = reply.Value n
valued (Err fault) = reply.Refused fault

-- where nothing is mounted
abbrev pub IsBroken : Reply → Mounted → Type 0
IsBroken answered new = (answered ≡ reply.Refused JournalFault.Broken) × (new ≡ None)

-- what a request is answered, and what is mounted then
abbrev pub Replies : Mounted → Request → Reply → Mounted → Type 0
Replies old (request.Format slots) answered new = IsFormatted answered × (new ≡ None)
Replies old request.Mount answered new = IsMounted answered new
Replies None request.Raise answered new = IsBroken answered new
Replies None (request.Put work) answered new = IsBroken answered new
Replies None (request.Done id) answered new = IsBroken answered new
Replies None request.Compact answered new = IsBroken answered new
Replies None request.List answered new = IsBroken answered new
Replies (Some old) request.Raise answered new = Tries (Commanded old Raise reply.Value answered) (raise_refusal old) old answered new
Replies (Some old) (request.Put work) answered new =
    Tries (Commanded old (Put work) reply.Value answered) (append_refusal old (change.Put work)) old answered new
Replies (Some old) (request.Done id) answered new =
    Tries (Commanded old (Done id) (λ _. reply.Done) answered) (append_refusal old (change.Done id)) old answered new
Replies (Some old) request.Compact answered new = Tries (Compacted old answered) (compaction_refusal old) old answered new
Replies (Some old) request.List answered new = (answered ≡ reply.Listed) × (new ≡ Some old)

-- Once the device has failed, what was mounted is given up and nothing is mounted: reads may give what the device doesn't hold.
abbrev pub RepliesOver : Bool → Mounted → Request → Reply → Mounted → Type 0
RepliesOver true old request.Mount answered new = (answered ≡ reply.Unmounted StoreFault.Device) × (new ≡ None)
RepliesOver failed old request answered new = Replies old request answered new

-- Whether the device has failed, behind a request and its reply: since the file was last made anew.
abbrev pub fails_after : Bool → Request → Reply → Bool
fails_after failed (request.Format slots) reply.Done = false
fails_after failed request (reply.Refused JournalFault.Device) = true
fails_after failed request (reply.Unmounted StoreFault.Device) = true
fails_after failed request (reply.Barred (fault.Device error)) = true
fails_after failed request answered = failed

-- ---- as text

-- why a change is refused: no number is left, be it a counter's, an id or an area's
abbrev pub fault_text : JournalFault → List ℕ
fault_text JournalFault.Device = codes "Device"
fault_text JournalFault.Broken = codes "Broken"
fault_text JournalFault.Exhausted = codes "Exhausted"
fault_text JournalFault.AreaExhausted = codes "Exhausted"
fault_text (JournalFault.Damaged sector) = codes "Damaged " ++ decimal sector
fault_text JournalFault.Full = codes "Full"
fault_text JournalFault.NoSuchJob = codes "NoSuchJob"
fault_text JournalFault.NoMemory = codes "NoMemory"

-- why no store is made or mounted
abbrev pub mount_text : StoreFault → List ℕ
mount_text StoreFault.Device = codes "Device"
mount_text StoreFault.NotFormatted = codes "NotFormatted"
mount_text (StoreFault.Damaged sector) = codes "Damaged " ++ decimal sector
mount_text StoreFault.NoMemory = codes "NoMemory"
mount_text StoreFault.TooSmall = codes "TooSmall"

abbrev pub job_text : Job → List ℕ
job_text job = codes "job " ++ decimal job.id ++ codes " " ++ work_text job.work.queue job.work.payload job.work.priority

-- the counter, the next id, and the jobs in the order of their ids
abbrev pub list_text : Durable → List ℕ
list_text state = line (codes "count " ++ decimal state.counter ++ codes " next " ++ decimal state.next)
    ++ flat_map (λ job. line (job_text job)) state.pending

abbrev pub mounted_text : Mounted → List ℕ
mounted_text None = []
mounted_text (Some store) = list_text (durable_of store)

-- what is printed for a reply, with what is mounted then
abbrev pub reply_text : Mounted → Reply → List ℕ
reply_text mounted reply.Done = line (codes "ok")
reply_text mounted (reply.Value n) = line (codes "ok " ++ decimal n)
reply_text mounted (reply.Refused fault) = line (codes "refused " ++ fault_text fault)
reply_text mounted (reply.Unmounted fault) = line (codes "refused " ++ mount_text fault)
reply_text mounted (reply.Barred fault) = line (codes "refused Device")
reply_text mounted reply.Locked = line (codes "refused Locked")
reply_text mounted reply.Foreign = line (codes "refused Foreign")
reply_text mounted reply.Listed = mounted_text mounted
