-- The acts of lines, put behind those that came before.
use Rattle.std.proofs.Common.{◌≡◌, ℕ, ◌+◌, ◌<◌, List, [], ◌∷◌, ◌++◌, length, Option, Some, None, Result, Ok, Err, option_map, refl, sym, ap}
use Rattle.std.proofs.Common.{◌∙◌, append_assoc, append-nil, arith}
use Rattle.std.proofs.lemmas.List.{length-append}
use Rattle.std.proofs.lemmas.Bool.Decides.{nat_tests}
use Rattle.line_words.specs.Words.{words_of}
use Rattle.schedule.specs.declared.act.Act.{Act}
use Rattle.schedule.specs.declared.size.TheConstants.{MOST_ACTS}
use Rattle.schedule.specs.Acts.{act_of}
use Rattle.schedule.specs.Text.{acts_from, behind, in_front, next_act, onto}

behind_act : (n : ℕ) (acts after : List Act) (act : Option Act) (later : ℕ → Result (List Act) ℕ)
    → Some after ≡ option_map (λ a. acts ++ a ∷ []) act
    → behind acts (in_front n act (later (length acts + 1))) ≡ behind after (later (length after))
behind_act n acts after None later read = absurd cc
behind_act n acts after (Some a) later read =
    let whole : after ≡ acts ++ a ∷ [] = cc in
    let more : length after ≡ length acts + 1 = ap length whole ∙ length-append acts (a ∷ []) in
    rw whole (rw (length-append acts (a ∷ [])) (placed (later (length acts + 1))))
  where
    placed : (r : Result (List Act) ℕ) → behind acts (in_front n (Some a) r) ≡ behind (acts ++ a ∷ []) r
    placed (Ok more) = ap (λ (xs : List Act). Ok xs) (sym (append_assoc acts (a ∷ []) more))
    placed (Err m) = refl

-- a line's act goes behind those that came before
pub behind_line : (n : ℕ) (acts after : List Act) (line : List ℕ) (lines : List (List ℕ)) → Some after ≡ onto acts line
    → behind acts (acts_from n (length acts) (line ∷ lines)) ≡ behind after (acts_from (n + 1) (length after) lines)
behind_line n acts after [] lines read = let same : after ≡ acts = cc in rw same refl
behind_line n acts after (c ∷ line) lines read =
    behind_act (n + 1) acts after (next_act (length acts) (c ∷ line)) (λ k. acts_from (n + 1) k lines) read

behind_no_act : (n : ℕ) (acts : List Act) (act : Option Act) (later : Result (List Act) ℕ) → option_map (λ a. acts ++ a ∷ []) act ≡ None
    → behind acts (in_front n act later) ≡ Err n
behind_no_act n acts None later bad = refl
behind_no_act n acts (Some a) later bad = absurd cc

-- a line that can't be read
pub behind_fault : (n : ℕ) (acts : List Act) (line : List ℕ) (lines : List (List ℕ)) → onto acts line ≡ None
    → behind acts (acts_from n (length acts) (line ∷ lines)) ≡ Err (n + 1)
behind_fault n acts [] lines bad = absurd cc
behind_fault n acts (c ∷ line) lines bad =
    behind_no_act (n + 1) acts (next_act (length acts) (c ∷ line)) (acts_from (n + 1) (length acts + 1) lines) bad

-- the last line
pub behind_last : (n : ℕ) (acts after : List Act) (line : List ℕ) → Some after ≡ onto acts line
    → behind acts (acts_from n (length acts) (line ∷ [])) ≡ Ok after
behind_last n acts after line read = behind_line n acts after line [] read ∙ ap (λ (xs : List Act). Ok xs) (append-nil after)

-- nothing came before
pub behind_nothing : (later : Result (List Act) ℕ) → behind [] later ≡ later
behind_nothing (Ok more) = refl
behind_nothing (Err m) = refl

-- a line's act where there is room for it
pub onto_act : (acts : List Act) (line : List ℕ) (a : Act) → length acts < MOST_ACTS → act_of (words_of line) ≡ Some a
    → Some (acts ++ a ∷ []) ≡ onto acts line
onto_act acts [] a room read = absurd cc
onto_act acts (c ∷ line) a room read = grind (arith, nat_tests, room, read)
