-- What is wrong with a line that can't be read.
use Rattle.std.specs.Prelude.{ℕ, List, [], ◌∷◌, bytes_eq, codes, is_some, if◌then◌else◌, Option, Some, None}
use Rattle.line_words.specs.Words.{first_word, words_of}
use Rattle.schedule.specs.declared.verb.Verb.{Verb}
use Rattle.schedule.specs.declared.flaw.Flaw.{Flaw}
use Rattle.schedule.specs.declared.flaw.Flaw.TheVariants.{Nothing, Cluster, NoAct, Fields, Misplaced}
use Rattle.schedule.specs.Acts.{act_of}
use Rattle.schedule.specs.Verbs.{verb_of}

abbrev pub verb_flaw : Option Verb → Flaw
verb_flaw None = NoAct
verb_flaw (Some verb) = Fields verb

-- a line that is no act begins with this word
unfoldable pub name_flaw : List ℕ → Flaw
name_flaw name = if bytes_eq name (codes "cluster") then Cluster else verb_flaw (verb_of name)

-- a line that can't be read where it stands: an act can be read at another place
abbrev pub flaw_of : List ℕ → Flaw
flaw_of [] = Nothing
flaw_of (c ∷ line) = if is_some (act_of (words_of (c ∷ line))) then Misplaced else name_flaw (first_word (words_of (c ∷ line)))
