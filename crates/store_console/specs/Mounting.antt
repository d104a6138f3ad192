-- What a file that was opened is mounted as, and what requests are of then.
use Rattle.std.specs.Prelude.{◌≡◌, ◌⊎◌, ◌↔◌, ◌<◌, ◌≤◌, ℕ, List, Option, Some, None, IsFalse, Result, Ok, Err}
use Rattle.std.specs.declared.io.Error.{Error}
use Rattle.file_disk.specs.File.{FileState}
use Rattle.file_disk.specs.declared.fault.OpenFault.{OpenFault}
use Rattle.node_store.specs.Store.{StoreState, slots_for}
use Rattle.node_store.specs.declared.fault.StoreFault.{StoreFault}
use Rattle.store_console.specs.declared.reply.Reply.{Reply}
use Rattle.store_console.specs.declared.reply.Reply.TheVariants as reply
use Rattle.store_console.specs.Barring.{IsBarBy, barred}
use Rattle.store_console.specs.Replies.{IsAnswerTo, Mounted}

-- a store of this file: it has the slots of the file, and no call of it has failed since the file was opened
pub record IsStoreOf (disk : FileState) (store : StoreState FileState) : Type 0 where
  pub whole : IsFalse store.broken
  pub unfailed : store.disk.failures ≡ disk.failures
  pub large : 24 ≤ disk.sectors
  pub slots : store.journal.slots ≡ slots_for disk.sectors

-- A mounting of this file was refused, and this is what its fault is answered.
pub record IsRefusedOf (disk : FileState) (answered : Reply) : Type 0 where
  pub fault : StoreFault
  pub small : (fault ≡ StoreFault.TooSmall) ↔ (disk.sectors < 24)
  pub answers : IsAnswerTo fault answered

-- it is barred by its label, or is mounted
abbrev pub MountsLabelled : FileState → Result (Option (List ℕ)) Error → Result (StoreState FileState) Reply → Type 0
MountsLabelled disk label (Ok store) = IsBarBy label None × IsStoreOf disk store
MountsLabelled disk label (Err answered) = IsBarBy label (Some answered) ⊎ (IsBarBy label None × IsRefusedOf disk answered)

-- it was opened, and has some label or none, or it wasn't
abbrev pub MountsOpened : Result FileState OpenFault → Result (StoreState FileState) Reply → Type 0
MountsOpened (Err fault) (Ok store) = ⊥
MountsOpened (Err fault) (Err answered) = answered ≡ barred fault
MountsOpened (Ok disk) mounting = (label : Result (Option (List ℕ)) Error) × MountsLabelled disk label mounting

-- requests are of what was mounted, as it was, or of nothing
abbrev pub Takes : Result (StoreState FileState) Reply → Reply → Mounted → Type 0
Takes (Ok store) answered new = (answered ≡ reply.Done) × (new ≡ Some store)
Takes (Err why) answered new = (answered ≡ why) × (new ≡ None)
