-- How the commands end.
use Rattle.std.specs.Prelude.{ℕ, Option, Some, None}
use Rattle.std_io.specs.IoError.{error_kind}
use Rattle.std_io.specs.declared.io.error.Error.{Error}
use Rattle.std_io.specs.declared.io.kind.ErrorKind.{ErrorKind}
use Rattle.std_io.specs.declared.io.kind.ErrorKind.TheVariants as kind
use Rattle.file_disk.specs.declared.fault.OpenFault.{OpenFault}
use Rattle.file_disk.specs.declared.fault.OpenFault.TheVariants as fault
use Rattle.command_line.specs.declared.status.Status.{Status}
use Rattle.command_line.specs.declared.status.Status.TheVariants as status

-- where the file can't be made or opened
abbrev pub code_for : OpenFault → ℕ
code_for fault.Locked = 4
code_for (fault.Exists error) = 1
code_for (fault.NotFound error) = 7
code_for (fault.Denied error) = 7
code_for (fault.Folder error) = 7
code_for fault.NotAFile = 7
code_for (fault.Unusable error) = 7
code_for (fault.NoRoom error) = 8
code_for (fault.Device error) = 3

-- the exit status; 2 is that of a command line that can't be read
abbrev pub code_of : Status → ℕ
code_of status.Done = 0
code_of (status.Failed error) = 1
code_of (status.File fault) = code_for fault
code_of (status.Foreign owner) = 5
code_of (status.Spent fault) = 5
code_of (status.Device error) = 3
code_of status.Key = 6
code_of (status.Lost error) = 7

-- by the kind of what was said
abbrev pub stopped_at : ErrorKind → Error → Status
stopped_at kind.NotFound = status.Lost
stopped_at kind.UnexpectedEof = status.Lost
stopped_at kind.StorageFull = λ error. status.File (fault.NoRoom error)
stopped_at kind.QuotaExceeded = λ error. status.File (fault.NoRoom error)
stopped_at _ = λ error. status.Device (Some error)

-- how a node ends that can't go on over its file
abbrev pub stopped : Option Error → Status
stopped None = status.Device None
stopped (Some error) = stopped_at (error_kind error) error
