-- What was read of an input.
use Rattle.std.specs.Prelude.{◌≡◌, ℕ, List, Option, IfSome}
use Rattle.std.specs.declared.io.Error.{Error}

-- a reader, how many reads may be made of it, and the error of the last read that failed
pub record Feed (Reader : Type 0) : Type 0 where
  pub reader : Reader
  pub left : ℕ
  pub fault : Option Error

-- the bytes are all that a reader had left, where the reader says that
abbrev pub HoldsAll : Option (List ℕ) → List ℕ → Type 0
HoldsAll remaining bytes = IfSome remaining (λ known. known ≡ bytes)
