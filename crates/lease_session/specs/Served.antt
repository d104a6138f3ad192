-- What a process of leases reads of an input and writes to an output.
use Rattle.std.specs.Prelude.{ℕ, ◌≡◌, List, [], ◌∷◌, ◌++◌, codes, decimal, true, false, Option}
use Rattle.std.specs.Io.KnownBytes.{Appends, Consumes, IsAtEnd}
use Rattle.line_words.specs.Lines.{lines_of}
use Rattle.lease_machine.specs.declared.terms.LeaseTerms.{LeaseTerms}
use Rattle.lease_session.specs.declared.process.Start.{Start}
use Rattle.lease_session.specs.declared.seals.LeaseSeal.{LeaseSeal}
use Rattle.lease_session.specs.declared.serving.LeaseEnd.{LeaseEnd}
use Rattle.lease_session.specs.declared.serving.LeaseEnd.TheVariants as end
use Rattle.lease_session.specs.Feeding.{Answers, At, Fed, IsNew}
use Rattle.lease_session.specs.Steps.{IsSound}

-- the same, whatever stands in its text: what was answered may be written, and forgotten
abbrev pub HasOtherText : At → At → Type 0
HasOtherText old new = new ≡ record old { process = record old.process { text = new.process.text } }

-- the line is answered by this text
abbrev pub IsAnsweredBy : List ℕ → At → At → List ℕ → Type 0
IsAnsweredBy line old new text = Answers line old new × (new.process.text.items ≡ old.process.text.items ++ text)

-- these lines are answered, one behind another, by this text in all, of which any part may have been taken away between two of them
abbrev pub AreAnsweredBy : List (List ℕ) → At → At → List ℕ → Type 0
AreAnsweredBy [] old new text = HasOtherText old new × (text ≡ [])
AreAnsweredBy (line ∷ lines) old new text =
    (from : At) × HasOtherText old from × (mid : At) × (first : List ℕ) × IsAnsweredBy line from mid first × (rest : List ℕ)
    × AreAnsweredBy lines mid new rest × (text ≡ first ++ rest)

-- These bytes came behind what was kept of the input, in any pieces: each line that is whole then is answered, by this text in all, and
-- what is behind the last is kept.
pub record IsToldAll (kept bytes rest : List ℕ) (old new : At) (text : List ℕ) : Type 0 where
  pub lines : List (List ℕ)
  pub cut : lines_of (kept ++ bytes) ≡ lines ++ rest ∷ []
  pub answered : AreAnsweredBy lines old new text

-- so it is of each piece that is fed, and what it adds to the text
abbrev pub FedIsTold : Type 0
FedIsTold = (kept piece rest : List ℕ) (old new : At) → Fed kept piece rest old new → IsSound old
    → (text : List ℕ) × (new.process.text.items ≡ old.process.text.items ++ text) × IsToldAll kept piece rest old new text × IsSound new

-- what was answered may be written and forgotten between two pieces
abbrev pub AnyClearing : Type 0
AnyClearing = (kept first second rest last : List ℕ) (old mid cleared new : At) (text more : List ℕ)
    → IsToldAll kept first rest old mid text → HasOtherText mid cleared
    → IsToldAll rest second last cleared new more → IsToldAll kept (first ++ second) last old new (text ++ more)

-- what a process says before it reads anything: its number
abbrev pub first_line : ℕ → List ℕ
first_line process = codes "process " ++ decimal process ++ codes "\n"

-- how serving ends: with the input, or where the device failed
abbrev pub EndsSo : LeaseEnd → At → Option (List ℕ) → Type 0
EndsSo end.Input new rest = (new.stopped ≡ false) × IsAtEnd rest
EndsSo end.Device new rest = new.stopped ≡ true

-- All that is read is fed to a process, in its order and once, and just the answers are written.
pub record IsServedFrom (old : At) (input rest before behind : Option (List ℕ)) (how : LeaseEnd) : Type 0 where
  pub bytes : List ℕ
  pub read : Consumes input rest bytes
  pub kept : List ℕ
  pub new : At
  pub text : List ℕ
  pub told : IsToldAll [] bytes kept old new text
  pub printed : Appends before behind text
  pub ends : EndsSo how new rest

-- A process of these terms that begins so, with what seals its messages, over a store that says that it reserved epochs up to this one.
pub record IsBegun (terms : LeaseTerms) (start : Start) (seal : Option LeaseSeal) (reserved : ℕ) (a : At) : Type 0 where
  pub is_new : IsNew terms start [] a
  pub sealed : a.process.seal ≡ seal
  pub of_store : a.reserved ≡ reserved
  pub silent : a.process.text.items ≡ []

-- It says its number, and then all that is read is fed to it, and just the answers are written.
pub record IsServed (terms : LeaseTerms) (start : Start) (seal : Option LeaseSeal) (reserved : ℕ)
    (input rest before behind : Option (List ℕ)) (how : LeaseEnd) : Type 0 where
  pub old : At
  pub begun : IsBegun terms start seal reserved old
  pub numbered : Option (List ℕ)
  pub first : Appends before numbered (first_line start.process)
  pub served : IsServedFrom old input rest numbered behind how
