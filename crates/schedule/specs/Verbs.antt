-- The words of a schedule's lines.
use Rattle.std.specs.Prelude.{ℕ, List, ◌++◌, bytes_eq, codes, if◌then◌else◌, Option, Some, None, option_map}
use Rattle.std.specs.Option.{option_or}
use Rattle.node_core.specs.TimerWords.{timer_named, word_of as timer_word}
use Rattle.schedule.specs.declared.verb.Verb.{Verb}
use Rattle.schedule.specs.declared.verb.Verb.TheVariants.{Timer, Deliver, Lose, Cut, Mend, Submit, Finish, Arm, Crash, Recover, Compact}

-- the verb that a word is
abbrev pub verb_of : List ℕ → Option Verb
verb_of word = option_or (option_map Timer (timer_named word)) (
    if bytes_eq word (codes "deliver") then Some Deliver else
    if bytes_eq word (codes "lose") then Some Lose else
    if bytes_eq word (codes "cut") then Some Cut else
    if bytes_eq word (codes "mend") then Some Mend else
    if bytes_eq word (codes "submit") then Some Submit else
    if bytes_eq word (codes "finish") then Some Finish else
    if bytes_eq word (codes "arm") then Some Arm else
    if bytes_eq word (codes "crash") then Some Crash else
    if bytes_eq word (codes "recover") then Some Recover else
    if bytes_eq word (codes "compact") then Some Compact else None)

-- the word of a verb, and the fields behind it
abbrev pub written : Verb → List ℕ × List ℕ
written (Timer timer) = (timer_word timer, codes " N")
written Deliver = (codes "deliver", codes " K")
written Lose = (codes "lose", codes " K")
written Cut = (codes "cut", codes " A B")
written Mend = (codes "mend", codes " A B")
written Submit = (codes "submit", codes " N QUEUE HEX [P]")
written Finish = (codes "finish", codes " N ORIGIN ID")
written Arm = (codes "arm", codes " N K")
written Crash = (codes "crash", codes " N [HEX]")
written Recover = (codes "recover", codes " N")
written Compact = (codes "compact", codes " N")

-- how an act is written
abbrev pub form_of : Verb → List ℕ
form_of verb = (written verb).0 ++ (written verb).1
