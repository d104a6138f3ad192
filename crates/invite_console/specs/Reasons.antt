-- What is wrong with an input, as standard error says it.
use Rattle.std.specs.Prelude.{ℕ, ◌==◌, List, [], ◌++◌, codes, if◌then◌else◌, Result, Ok, Err}
use Rattle.std.specs.List.{ends_with}
use Rattle.line_words.specs.Words.{first_word, words_of}
use Rattle.line_words.specs.Lines.{line_numbered, lines_of}
use Rattle.schedule.specs.declared.flaw.Flaw.{Flaw}
use Rattle.schedule.specs.declared.flaw.Flaw.TheVariants.{Nothing, Cluster, NoAct, Fields, Misplaced}
use Rattle.schedule.specs.Flaws.{flaw_of}
use Rattle.schedule.specs.Text.{script_of}
use Rattle.schedule.specs.Verbs.{form_of}
use Rattle.console_text.specs.Ends.{Printout}
use Rattle.console_text.specs.Reasons.{line_flaw, line_head, word_shown}
use Rattle.invite_console.specs.Answer.{answers_to}
use Rattle.invite_console.specs.Lines.{hex_lines_of}
use Rattle.invite_console.specs.Show.{shown_of}

-- ---- schedules

-- what is wrong with a line of a schedule
abbrev pub flaw_text : List ℕ → Flaw → List ℕ
flaw_text line Nothing = codes "there is no line cluster NODES SLOTS"
flaw_text line Cluster = codes "not of the form cluster NODES SLOTS, or not the first line"
flaw_text line NoAct = codes "no such act: " ++ word_shown (first_word (words_of line))
flaw_text line (Fields verb) = codes "not of the form " ++ form_of verb
flaw_text line Misplaced = codes "an act in front of the line cluster NODES SLOTS, or behind 65536 acts"

abbrev pub act_flaw : List ℕ → List ℕ
act_flaw line = flaw_text line (flaw_of line)

-- what is wrong with a schedule, in its first line that can't be read
abbrev pub schedule_flaw : List ℕ → List ℕ
schedule_flaw input = line_flaw (λ n. act_flaw (line_numbered n (lines_of input))) (script_of input)

-- ---- messages in hex lines

abbrev pub hex_flaw : List ℕ
hex_flaw = codes "neither pairs of hex digits nor a dash"

-- what is wrong with the messages of a stream that is shown so: its last line says it
abbrev pub stream_flaw : Printout → List ℕ
stream_flaw printout =
    if printout.good then [] else
    if ends_with (λ (a b : ℕ). a == b) printout.text (codes "malformed\n") then codes "a message can't be read"
    else codes "a message is for another node, or names one outside of the cluster"

abbrev pub messages_flaw : (List ℕ → Printout) → Result (List ℕ) ℕ → List ℕ
messages_flaw shown (Ok bytes) = stream_flaw (shown bytes)
messages_flaw shown (Err n) = line_head n ++ hex_flaw

abbrev pub show_flaw : List ℕ → List ℕ
show_flaw input = messages_flaw shown_of (hex_lines_of input)

abbrev pub answer_flaw : ℕ → ℕ → List ℕ → List ℕ
answer_flaw id nodes input = messages_flaw (answers_to id nodes) (hex_lines_of input)
