-- What is answered where a file can't be had.
use Rattle.std.specs.Prelude.{◌≡◌, List, ℕ, codes, Option, Some, None, Result, Ok, Err}
use Rattle.std.specs.declared.io.Error.{Error}
use Rattle.file_disk.specs.Label.{IsOfANode}
use Rattle.file_disk.specs.Open.{fault_for}
use Rattle.file_disk.specs.declared.fault.OpenFault.{OpenFault}
use Rattle.file_disk.specs.declared.fault.OpenFault.TheVariants as fault
use Rattle.store_console.specs.declared.reply.Reply.{Reply}
use Rattle.store_console.specs.declared.reply.Reply.TheVariants as reply

-- where it isn't made, opened or read
abbrev pub barred : OpenFault → Reply
barred fault.Locked = reply.Locked
barred (fault.Exists error) = reply.Barred (fault.Exists error)
barred (fault.NotFound error) = reply.Barred (fault.NotFound error)
barred (fault.Denied error) = reply.Barred (fault.Denied error)
barred (fault.Folder error) = reply.Barred (fault.Folder error)
barred fault.NotAFile = reply.Barred fault.NotAFile
barred (fault.Unusable error) = reply.Barred (fault.Unusable error)
barred (fault.NoRoom error) = reply.Barred (fault.NoRoom error)
barred (fault.Device error) = reply.Barred (fault.Device error)

-- a file with this label, or with none, is no store's: a node's is Foreign
abbrev pub IsBarBy : Result (Option (List ℕ)) Error → Option Reply → Type 0
IsBarBy (Ok label) None = IsOfANode label → ⊥
IsBarBy (Ok label) (Some answered) = IsOfANode label × (answered ≡ reply.Foreign)
IsBarBy (Err error) None = ⊥
IsBarBy (Err error) (Some answered) = answered ≡ barred (fault_for error)

-- what is no store's by its label is answered so
abbrev pub Bars : Result (Option (List ℕ)) Error → Reply → Type 0
Bars label answered = (bar : Reply) → IsBarBy label (Some bar) → answered ≡ bar

-- the word for it beside the answers
abbrev pub kind_text : OpenFault → List ℕ
kind_text fault.Locked = codes "Locked"
kind_text (fault.Exists error) = codes "Exists"
kind_text (fault.NotFound error) = codes "NotFound"
kind_text (fault.Denied error) = codes "Denied"
kind_text (fault.Folder error) = codes "Folder"
kind_text fault.NotAFile = codes "NotAFile"
kind_text (fault.Unusable error) = codes "Unusable"
kind_text (fault.NoRoom error) = codes "NoRoom"
kind_text (fault.Device error) = codes "Device"

-- only a file that is locked is answered as such
abbrev pub IsNoLock : OpenFault → Type 0
IsNoLock fault.Locked = ⊥
IsNoLock (fault.Exists error) = Unit {0}
IsNoLock (fault.NotFound error) = Unit {0}
IsNoLock (fault.Denied error) = Unit {0}
IsNoLock (fault.Folder error) = Unit {0}
IsNoLock fault.NotAFile = Unit {0}
IsNoLock (fault.Unusable error) = Unit {0}
IsNoLock (fault.NoRoom error) = Unit {0}
IsNoLock (fault.Device error) = Unit {0}
