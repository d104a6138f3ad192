-- What standard error says of a request for which the file can't be had.
use Rattle.std.specs.Prelude.{◌≡◌, ℕ, List, [], ◌∷◌, ◌++◌, codes, decimal}
use Rattle.file_disk.specs.declared.fault.OpenFault.{OpenFault}
use Rattle.store_console.specs.Barring.{kind_text}
use Rattle.store_console.specs.declared.reply.Reply.{Reply}
use Rattle.store_console.specs.declared.reply.Reply.TheVariants as reply

-- what stands between a reason and those before it: each is a line of its own
abbrev pub apart : List ℕ → List ℕ
apart [] = []
apart (c ∷ before) = 10 ∷ codes "invite: "

-- the line's number, the word for why, and words of the system
abbrev pub IsSaid : List ℕ → ℕ → OpenFault → List ℕ → Type 0
IsSaid before number fault after =
    (words : List ℕ) × (after ≡ before ++ (apart before ++ (codes "line " ++ decimal number ++ codes ": " ++ kind_text fault ++ codes ": "
    ++ words)))

-- behind the reasons before it: nothing is said where the file could be had, or where the answer says it all
abbrev pub Explains : List ℕ → ℕ → Reply → List ℕ → Type 0
Explains before number (reply.Barred fault) after = IsSaid before number fault after
Explains before number answered after = after ≡ before
