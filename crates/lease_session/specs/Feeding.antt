-- What a process answers to the lines that it is fed with.
use Rattle.std.specs.Prelude.{ℕ, ◌≡◌, List, [], ◌∷◌, ◌++◌, Bool, true, false, Option, None}
use Rattle.line_words.specs.Lines.{lines_of}
use Rattle.lease_machine.specs.declared.terms.LeaseTerms.{LeaseTerms}
use Rattle.lease_session.specs.declared.process.LeaseProcess.{LeaseProcess}
use Rattle.lease_session.specs.declared.process.Start.{Start}
use Rattle.lease_session.specs.Reading.{Meaning, meaning_of}
use Rattle.lease_session.specs.Lines.{ComesOf, IsEnded}
use Rattle.lease_session.specs.Own.{IsWithin}

-- where a process is between two lines: with the time that the last one told, whether its device failed, and up to which epoch its store
-- says that it reserved
pub record At : Type 0 where
  pub process : LeaseProcess
  pub told : ℕ
  pub stopped : Bool
  pub reserved : ℕ

abbrev pub at : LeaseProcess → ℕ → Bool → ℕ → At
at process told stopped reserved = record { process = process; told = told; stopped = stopped; reserved = reserved }

-- its machine grants no epoch that its store doesn't say that it reserved
abbrev pub IsReserved : At → Type 0
IsReserved a = IsWithin a.reserved a.process.start a.process.machine

-- a process that was told nothing yet
abbrev pub IsNew : LeaseTerms → Start → List ℕ → At → Type 0
IsNew terms start kept a =
    (kept ≡ []) × (a.stopped ≡ false) × (a.told ≡ 0) × (a.process.machine ≡ None) × (a.process.terms ≡ terms) × (a.process.start ≡ start)
    × (a.process.halt ≡ None) × (a.process.told.items ≡ [])

-- what comes of a line, and behind it the line that ends the answer; then no epoch is granted above what is reserved
pub record IsAnswer (meaning : Meaning) (old new : At) : Type 0 where
  pub behind : LeaseProcess
  pub due : Option ℕ
  pub came : ComesOf meaning old.told new.told old.process behind
  pub ended : IsEnded due new.stopped behind new.process
  pub reserved : IsReserved new

-- nothing is answered once the device failed, nor to an empty line
abbrev pub AnswersBy : Bool → List ℕ → At → At → Type 0
AnswersBy true line old new = new ≡ old
AnswersBy false [] old new = new ≡ old
AnswersBy false (c ∷ line) old new = IsAnswer (meaning_of (c ∷ line)) old new

abbrev pub Answers : List ℕ → At → At → Type 0
Answers line old new = AnswersBy old.stopped line old new

-- all of them are answered, one behind another
abbrev pub AreAnswered : List (List ℕ) → At → At → Type 0
AreAnswered [] old new = new ≡ old
AreAnswered (line ∷ lines) old new = (mid : At) × Answers line old mid × AreAnswered lines mid new

-- A piece of the input came behind what was kept of it: each line that is whole then is answered, and what is behind the last is kept.
pub record Fed (kept piece rest : List ℕ) (old new : At) : Type 0 where
  pub lines : List (List ℕ)
  pub cut : lines_of (kept ++ piece) ≡ lines ++ rest ∷ []
  pub answered : AreAnswered lines old new

-- what was fed decides what is answered, and not how it was cut
abbrev pub AnyCutting : Type 0
AnyCutting = (kept first second rest last : List ℕ) (old mid new : At) → Fed kept first rest old mid → Fed rest second last mid new
    → Fed kept (first ++ second) last old new
