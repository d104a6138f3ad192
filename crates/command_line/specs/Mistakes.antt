-- What a command line comes to: what it asks for, or which of its arguments is out of its range.
use Rattle.std.specs.Prelude.{ℕ, ◌≡◌, ◌⊎◌, ◌||◌, ◌++◌, Bool, true, List, bytes_eq, codes, if◌then◌else◌, is_none, nat_lt, option_map}
use Rattle.std.specs.Prelude.{Option, Some, None, Result, Ok, Err}
use Rattle.std.specs.Fmt.{decimal}
use Rattle.std.specs.Io.KnownBytes.{Appends, Keeps}
use Rattle.clap.specs.Words.{App, HasMatchesOf, first_value, found_of, rows_of, subcommand_name_of, subcommand_rows_of, takes}
use Rattle.clap.specs.declared.parser.matches.ArgMatches.{ArgMatches}
use Rattle.group_task.specs.declared.node.TheConstants.{NODES}
use Rattle.disk_layout.specs.declared.layout.TheConstants.{LEAST_SLOTS, MOST_SLOTS}
use Rattle.command_line.specs.Asked.{Arguments, asked, asked_by, is_set, machine_of, number_in, place_of, round_trip_of, stride_of}
use Rattle.command_line.specs.Asked.{values_of}
use Rattle.command_line.specs.declared.invocation.TheConstants.{MOST_ROUND_TRIP}
use Rattle.command_line.specs.declared.invocation.Invocation.{Invocation}
use Rattle.command_line.specs.declared.mistake.Mistake.{Mistake}
use Rattle.command_line.specs.declared.mistake.Mistake.TheVariants.{Place, Machine, Slots, First, Stride, RoundTrip, Sealing}

-- ---- of the arguments the first that is out of its range; the last of them, where no other is

abbrev pub mistake_in_leases : Arguments → Mistake
mistake_in_leases arguments = if is_none (machine_of (number_in (arguments (codes "SLOTS")))) then Machine else First

abbrev pub are_no_slots : Option ℕ → Bool
are_no_slots None = true
are_no_slots (Some slots) = nat_lt slots LEAST_SLOTS || nat_lt MOST_SLOTS slots

abbrev pub mistake_in_format : Arguments → Mistake
mistake_in_format arguments =
    if are_no_slots (number_in (arguments (codes "SLOTS"))) then Slots else if is_none (stride_of (arguments (codes "stride"))) then Stride
    else First

abbrev pub mistake_by : List ℕ → Arguments → Mistake
mistake_by name arguments =
    if is_set (arguments (codes "lease")) then mistake_in_leases arguments else
    if is_none (place_of arguments) then Place else
    if bytes_eq name (codes "format") then mistake_in_format arguments else
    if is_none (round_trip_of (arguments (codes "ROUND_TRIP_MS"))) then RoundTrip else Sealing

-- what a person reads of it
abbrev pub mistake_text : Mistake → List ℕ
mistake_text Place = codes "SELF and NODES are decimal numbers, NODES from 1 to " ++ (decimal NODES ++ codes ", and SELF is below NODES")
mistake_text Machine = codes "SELF is a decimal number below " ++ decimal NODES
mistake_text Slots = codes "SLOTS is a decimal number from " ++ (decimal LEAST_SLOTS ++ (codes " to " ++ decimal MOST_SLOTS))
mistake_text First = codes "FIRST is a decimal number below 2^64"
mistake_text Stride = codes "the stride is 512 or 4096"
mistake_text RoundTrip = codes "ROUND_TRIP_MS is a decimal number from 1 to " ++ decimal MOST_ROUND_TRIP
mistake_text Sealing = codes "--key and --cluster are given together"

abbrev pub mistake_line : Mistake → List ℕ
mistake_line mistake = codes "error: " ++ (mistake_text mistake ++ codes "\n\nFor more information, try '--help'.\n")

-- ---- the words of the process

-- Nothing is printed of a command that asks for work; of any other just its mistake, and the exit status is 2.
abbrev pub IsAskedOrTold : List ℕ → ArgMatches → Option (List ℕ) → Option (List ℕ) → Result Invocation ℕ → Type 0
IsAskedOrTold name words before behind (Ok invocation) =
    (asked_by name (λ id. first_value (found_of words) id) (λ id. values_of (found_of words) id) ≡ Some (asked invocation))
    × Keeps before behind
IsAskedOrTold name words before behind (Err code) =
    (asked_by name (λ id. first_value (found_of words) id) (λ id. values_of (found_of words) id) ≡ None)
    × (code ≡ 2) × Appends before behind (mistake_line (mistake_by name (λ id. first_value (found_of words) id)))

-- a program of these commands reads these words as this command with these arguments
pub record Names (app : App) (words : List (List ℕ)) (name : List ℕ) (arguments : ArgMatches) : Type 0 where
  pub matches : ArgMatches
  pub read : HasMatchesOf app words matches
  pub named : subcommand_name_of matches ≡ Some name
  pub rows : option_map (λ p. p.1) (subcommand_rows_of matches) ≡ Some (rows_of (found_of arguments))

-- words that aren't taken: what is printed is the fault, the help or the version, and the exit status 2, or 0 for the version
abbrev pub AreNotTaken : App → List (List ℕ) → Result Invocation ℕ → Type 0
AreNotTaken app words (Ok invocation) = ⊥
AreNotTaken app words (Err code) = (takes app words ≡ true → ⊥) × ((code ≡ 0) ⊎ (code ≡ 2))

-- the words name no command, and nothing is printed
abbrev pub NameNone : Option (List ℕ) → Option (List ℕ) → Result Invocation ℕ → Type 0
NameNone before behind (Ok invocation) = ⊥
NameNone before behind (Err code) = (code ≡ 2) × Keeps before behind

abbrev pub AreRead : App → List (List ℕ) → Option (List ℕ) → Option (List ℕ) → Result Invocation ℕ → Type 0
AreRead app words before behind read =
    ((name : List ℕ) × (arguments : ArgMatches) × Names app words name arguments × IsAskedOrTold name arguments before behind read)
    ⊎ (AreNotTaken app words read ⊎ NameNone before behind read)
