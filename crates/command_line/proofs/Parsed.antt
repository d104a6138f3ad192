-- What the words of the process come to.
use Rattle.std.proofs.Common.{◌≡◌, ◌⊎◌, ℕ, true, List, Option, Result, Ok, Err, IsErr, IsErrAnd, IfOk, inl, inr}
use Rattle.std.proofs.lemmas.Bool.{false≢true}
use Rattle.clap.specs.Words.{App, takes}
use Rattle.clap.specs.declared.error.kind.ErrorKind.{ErrorKind}
use Rattle.clap.specs.declared.error.kind.ErrorKind.TheVariants.{OutOfMemory}
use Rattle.clap.specs.declared.parser.matches.ArgMatches.{ArgMatches}
use Rattle.command_line.specs.Mistakes.{AreRead, IsAskedOrTold, Names}
use Rattle.command_line.specs.declared.invocation.Invocation.{Invocation}

pub named : {E : Type 0} (app : App) (words : List (List ℕ)) (name : List ℕ) (arguments : ArgMatches) (before behind : Option (List ℕ))
    (r : Result (Result Invocation ℕ) E)
    → Names app words name arguments → IfOk r (IsAskedOrTold name arguments before behind) → IfOk r (AreRead app words before behind)
named app words name arguments before behind (Ok read) names told = inl (name, arguments, names, told)
named app words name arguments before behind (Err e) names told = tt

pub not_taken : {E : Type 0} (app : App) (words : List (List ℕ)) (before behind : Option (List ℕ)) (kind : ErrorKind)
    (r : Result (Result Invocation ℕ) E)
    → (takes app words ≡ true → kind ≡ OutOfMemory) → (kind ≡ OutOfMemory → IsErr r)
    → IfOk r (λ read. IsErrAnd read (λ code. (code ≡ 0) ⊎ (code ≡ 2))) → IfOk r (AreRead app words before behind)
not_taken app words before behind kind (Ok (Ok invocation)) only memory told = absurd told
not_taken app words before behind kind (Ok (Err code)) only memory told =
    inr (inl ((λ taken. absurd (false≢true (memory (only taken)))), told))
not_taken app words before behind kind (Err e) only memory told = tt
