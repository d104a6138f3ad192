-- What is answered where a file isn't opened as a disk.
use Rattle.std_io.specs.IoError.{error_kind}
use Rattle.std_io.specs.declared.io.error.Error.{Error}
use Rattle.std_io.specs.declared.io.kind.ErrorKind.{ErrorKind}
use Rattle.std_io.specs.declared.io.kind.ErrorKind.TheVariants as kind
use Rattle.file_disk.specs.declared.fault.OpenFault.{OpenFault}
use Rattle.file_disk.specs.declared.fault.OpenFault.TheVariants as fault

-- the fault for an error of this kind
abbrev pub fault_at : ErrorKind → Error → OpenFault
fault_at kind.AlreadyExists = fault.Exists
fault_at kind.NotFound = fault.NotFound
fault_at kind.PermissionDenied = fault.Denied
fault_at kind.ReadOnlyFilesystem = fault.Denied
fault_at kind.IsADirectory = fault.Folder
fault_at kind.StorageFull = fault.NoRoom
fault_at kind.QuotaExceeded = fault.NoRoom
fault_at kind.FileTooLarge = fault.NoRoom
fault_at kind.NotADirectory = fault.Unusable
fault_at kind.FilesystemLoop = fault.Unusable
fault_at kind.InvalidFilename = fault.Unusable
fault_at kind.InvalidInput = fault.Unusable
fault_at kind.ExecutableFileBusy = fault.Unusable
fault_at kind.ResourceBusy = fault.Unusable
fault_at kind.WouldBlock = fault.Unusable
fault_at _ = fault.Device

-- the fault for an error that the system gave
abbrev pub fault_for : Error → OpenFault
fault_for error = fault_at (error_kind error) error

-- there is no room for a file of this length
abbrev pub IsNoRoom : OpenFault → Type 0
IsNoRoom (fault.NoRoom error) = Unit {0}
IsNoRoom _ = ⊥
