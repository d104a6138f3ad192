-- What was written to an output.
use Rattle.std.specs.Prelude.{◌≡◌, true, Option}
use Rattle.std.specs.declared.io.Error.{Error}
use Rattle.console_text.specs.declared.ends.ExitKind.{ExitKind}
use Rattle.console_text.specs.declared.ends.ExitKind.TheVariants.{Done, Refused, NoMemory, Unread, Unwritten}
use Rattle.console_text.specs.declared.progress.Progress.{Progress}

-- a writer, and the error of the last write or flush that failed
pub record Drain (Writer : Type 0) : Type 0 where
  pub writer : Writer
  pub fault : Option Error

-- no write and no flush failed, and a flush came last
pub record IsOut (old new : Progress) : Type 0 where
  pub whole : new.failed ≡ old.failed
  pub flushed : new.flushed ≡ true

-- An ending tells whether the text went out: no, only where a write or a flush failed; yes, only where none did and a flush came last.
abbrev pub TellsProgress : Progress → Progress → ExitKind → Type 0
TellsProgress old new Done = IsOut old new
TellsProgress old new Refused = IsOut old new
TellsProgress old new NoMemory = IsOut old new
TellsProgress old new Unread = new ≡ old
TellsProgress old new Unwritten = new.failed ≡ true
