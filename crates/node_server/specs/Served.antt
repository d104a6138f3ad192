-- What a node reads of an input and writes to an output.
use Rattle.std.specs.Prelude.{ℕ, ◌≡◌, ◌⊎◌, ◌++◌, List, [], true, false, Option, Some, None}
use Rattle.std.specs.Io.KnownBytes.{Appends, Consumes, IsAtEnd, Keeps}
use Rattle.std.specs.declared.io.Error.{Error}
use Rattle.sector_disk.specs.Disk.{DiskState}
use Rattle.node_timers.specs.declared.timer_settings.TimerSettings.{TimerSettings}
use Rattle.node_session.specs.Seals.{Seals}
use Rattle.node_session.specs.Serving.{Progress, Fed, opened}
use Rattle.node_server.specs.declared.serving.ServingEnd.{ServingEnd}
use Rattle.node_server.specs.declared.serving.ServingEnd.TheVariants as end

-- a session that nothing was fed to, of a node over its disk, with what seals its messages
abbrev pub begun : {Disk : Type 0} → ℕ → ℕ → TimerSettings → Option Seals → Disk → Progress Disk
begun id nodes setting seal disk = record (opened id nodes setting disk) { seal = seal }

-- These bytes were fed, in so many pieces, and all that was answered to them was written, but what the session has of it.
pub record IsAnswered {Disk : Type 0} (disks : Disk → DiskState) (old new : Progress Disk) (bytes : List ℕ)
    (before behind : Option (List ℕ)) : Type 0 where
  pub text : List ℕ
  pub fed : Fed disks old bytes (record new { text = text ++ new.text })
  pub printed : Appends before behind text

-- The same, or nothing was fed yet.
abbrev pub IsAnsweredUpTo : {Disk : Type 0} → (Disk → DiskState) → Progress Disk → Progress Disk → List ℕ → Option (List ℕ)
    → Option (List ℕ) → Type 0
IsAnsweredUpTo disks old new bytes before behind = IsAnswered disks old new bytes before behind
    ⊎ ((new ≡ old) × (bytes ≡ []) × Keeps before behind)

-- A front of a text was written.
pub record AppendsFront (text : List ℕ) (before behind : Option (List ℕ)) : Type 0 where
  pub front : List ℕ
  pub rest : List ℕ
  pub cut : text ≡ front ++ rest
  pub printed : Appends before behind front

-- ---- a line

-- It was fed: nothing was written, or all that the session had. Where the disk was lost nothing was.
abbrev pub IsLineEnd : {Disk : Type 0} → (Disk → DiskState) → Progress Disk → Progress Disk → List ℕ → Option (List ℕ) → Option (List ℕ)
    → Option Error → Type 0
IsLineEnd {Disk} disks old new line before behind None =
    (Fed disks old line new × Keeps before behind) ⊎ ((mid : Progress Disk) × Fed disks old line mid × (new ≡ record mid { text = [] })
    × Appends before behind mid.text)
IsLineEnd disks old new line before behind (Some error) = Fed disks old line new × Keeps before behind

-- It was broken off: nothing was written, or a front of all that the session had behind the line.
abbrev pub IsLineBroken : {Disk : Type 0} → (Disk → DiskState) → Progress Disk → List ℕ → Option (List ℕ) → Option (List ℕ) → Type 0
IsLineBroken {Disk} disks old line before behind = Keeps before behind
    ⊎ ((mid : Progress Disk) × Fed disks old line mid × AppendsFront mid.text before behind)

-- ---- a piece

-- The answers to what was fed before a line were written, or some of them; that line was fed, and nothing behind it.
pub record IsLost {Disk : Type 0} (disks : Disk → DiskState) (old new : Progress Disk) (piece : List ℕ) (before behind : Option (List ℕ)) :
    Type 0 where
  pub mid : Progress Disk
  pub front : List ℕ
  pub line : List ℕ
  pub rest : List ℕ
  pub cut : piece ≡ front ++ (line ++ rest)
  pub answered : IsAnsweredUpTo disks old mid front before behind
  pub fed : Fed disks mid line new

-- It was fed and all answers are written, or the disk was lost in it.
abbrev pub IsPieceEnd : {Disk : Type 0} → (Disk → DiskState) → Progress Disk → Progress Disk → List ℕ → Option (List ℕ) → Option (List ℕ)
    → Option Error → Type 0
IsPieceEnd disks old new piece before behind None = IsAnswered disks old new piece before behind × (new.text ≡ [])
IsPieceEnd disks old new piece before behind (Some error) = IsLost disks old new piece before behind

-- It was broken off: a front of it was fed, and the answers to that were written but for what `mid` has of them.
pub record IsBroken {Disk : Type 0} (disks : Disk → DiskState) (old : Progress Disk) (piece : List ℕ) (before behind : Option (List ℕ)) :
    Type 0 where
  pub mid : Progress Disk
  pub front : List ℕ
  pub rest : List ℕ
  pub cut : piece ≡ front ++ rest
  pub answered : IsAnsweredUpTo disks old mid front before behind

-- ---- the whole input

-- How it ends: with the input, or where the device failed, all was answered and that was written. Where the disk was lost, a line was fed
-- of which nothing was
-- written, and nothing behind it.
abbrev pub EndsSo : {Disk : Type 0} → (Disk → DiskState) → ServingEnd → Progress Disk → Progress Disk → List ℕ → Option (List ℕ) → Type 0
EndsSo disks end.Input answered last unfed rest = (last ≡ answered) × (last.text ≡ []) × (last.stopped ≡ false) × (unfed ≡ [])
    × IsAtEnd rest
EndsSo disks end.Device answered last unfed rest = (last ≡ answered) × (last.text ≡ []) × (last.stopped ≡ true) × (unfed ≡ [])
EndsSo disks (end.Lost error) answered last unfed rest = (line : List ℕ) × (behind : List ℕ) × (unfed ≡ line ++ behind)
    × Fed disks answered line last

-- All that was read was fed, in the order in which it was read, or is what was left of it, and the answers to it were written.
pub record IsServed {Disk : Type 0} (disks : Disk → DiskState) (old last : Progress Disk) (input rest before behind : Option (List ℕ))
    (end : ServingEnd) : Type 0 where
  pub bytes : List ℕ
  pub unfed : List ℕ
  pub read : Consumes input rest (bytes ++ unfed)
  pub new : Progress Disk
  pub answered : IsAnswered disks old new bytes before behind
  pub ends : EndsSo disks end new last unfed rest

-- and this is the disk that it leaves
pub record IsServedTo {Disk : Type 0} (disks : Disk → DiskState) (old : Progress Disk) (input rest before behind : Option (List ℕ))
    (left : Disk) (end : ServingEnd) : Type 0 where
  pub last : Progress Disk
  pub served : IsServed disks old last input rest before behind end
  pub disk : last.node.disk ≡ Some left

-- It was broken off by an error: of what was read a front was fed, and of the answers to that a front was written.
pub record IsBrokenOff {Disk : Type 0} (disks : Disk → DiskState) (old : Progress Disk) (input rest before behind : Option (List ℕ)) :
    Type 0 where
  pub bytes : List ℕ
  pub read : Consumes input rest bytes
  pub broken : IsBroken disks old bytes before behind
