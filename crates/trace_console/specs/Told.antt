-- What the nodes of a trace told, as its text says it.
use Rattle.std.specs.Prelude.{ℕ, ◌≡◌, ◌<◌, ◌+◌, List, [], Option, Some, None, codes, get_or}
use Rattle.std.specs.Option.{unwrap_or}
use Rattle.memchr.specs.Find.{FindsNeedle}
use Rattle.trace_text.specs.Tellings.{TellingData, TellingsData, tellings_of}

-- what a text tells in which the key was found at some place; nothing where it is no JSON
abbrev pub tellings_if : Option ℕ → List ℕ → TellingsData
tellings_if None text = []
tellings_if (Some place) text = unwrap_or (tellings_of text) []

-- what a text tells in which the key stands; nothing where it doesn't, or where there is no value
pub record IsToldIn (text : List ℕ) (told : TellingsData) : Type 0 where
  pub place : Option ℕ
  pub found : FindsNeedle text (codes "\"told\"") 0 place
  pub value : told ≡ tellings_if place text

-- what is told of the entries of a node
abbrev pub row : TellingsData → ℕ → List (Option TellingData)
row d node = get_or d node []

-- what the entry of a node at this index told, if it says something
abbrev pub told_of : TellingsData → ℕ → ℕ → Option TellingData
told_of d node index = get_or (row d node) index None

-- nothing is told of any entry
abbrev pub IsSilent : TellingsData → Type 0
IsSilent d = (node : ℕ) → row d node ≡ []

-- of so many places what is said first, and of those behind them what more is said
pub record IsThen {A : Type 0} (none : A) (many : ℕ) (first more all : List A) : Type 0 where
  pub before : (k : ℕ) → k < many → get_or all k none ≡ get_or first k none
  pub behind : (k : ℕ) → get_or all (many + k) none ≡ get_or more k none
