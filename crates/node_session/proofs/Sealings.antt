-- Lines of an answer that are sealed, one behind another.
use Rattle.std.proofs.Common.{◌≡◌, ◌<◌, ℕ, List, [], ◌∷◌, ◌++◌, length, refl, sym, ap, ◌∙◌, append_assoc, arith, ◌+◌, Option, Some}
use Rattle.std.proofs.lemmas.List.Splits.{length-slice_split}
use Rattle.line_words.specs.Lines.{is_line_feed, lines_of}
use Rattle.std.specs.Prelude.{codes}
use Rattle.hex.specs.Hex.{encode_lower}
use Rattle.node_session.specs.Seals.{SealKeys, Seals, key_of_line, line_by, message_in, number_by, numbered, seal_of, sealed_lines}
use Rattle.node_session.specs.Seals.{taken_told, with_life}

-- a text has a line
pub some_line : (text : List ℕ) → 0 < length (lines_of text)
some_line text = (let counts = length-slice_split is_line_feed text in omega (arith, counts))

pub sealed_more : (keys : SealKeys) (life : Option ℕ) (n : ℕ) (line : List ℕ) (lines : List (List ℕ)) → 0 < length lines
    → sealed_lines keys life n (line ∷ lines) ≡ line_by keys life n line (message_in line)
    ++ sealed_lines keys life (number_by life n (message_in line)) lines
sealed_more keys life n line [] some = absurd (omega arith)
sealed_more keys life n line (next ∷ lines) some = refl

pub numbered_more : (life : Option ℕ) (n : ℕ) (line : List ℕ) (lines : List (List ℕ)) → 0 < length lines
    → numbered life n (line ∷ lines) ≡ numbered life (number_by life n (message_in line)) lines
numbered_more life n line [] some = absurd (omega arith)
numbered_more life n line (next ∷ lines) some = refl

-- one line more, as the code does it
pub sealed_further : (keys : SealKeys) (life : Option ℕ) (n m : ℕ) (left line behind text text' all : List ℕ)
    → lines_of left ≡ line ∷ lines_of behind → text ++ sealed_lines keys life n (lines_of left) ≡ all
    → text' ≡ text ++ line_by keys life n line (message_in line) → m ≡ number_by life n (message_in line)
    → text' ++ sealed_lines keys life m (lines_of behind) ≡ all
sealed_further keys life n m left line behind text text' all cut is adds counts =
    ap (λ (x : List ℕ). x ++ sealed_lines keys life m (lines_of behind)) adds
    ∙ (append_assoc text (line_by keys life n line (message_in line)) (sealed_lines keys life m (lines_of behind))
    ∙ (ap (λ (k : ℕ). text ++ (line_by keys life n line (message_in line) ++ sealed_lines keys life k (lines_of behind))) counts
    ∙ (ap (λ (x : List ℕ). text ++ x) (sym (sealed_more keys life n line (lines_of behind) (some_line behind)))
    ∙ (ap (λ (ls : List (List ℕ)). text ++ sealed_lines keys life n ls) (sym cut) ∙ is))))

pub numbered_further : (life : Option ℕ) (n m : ℕ) (left line behind : List ℕ) (all : ℕ) → lines_of left ≡ line ∷ lines_of behind
    → numbered life n (lines_of left) ≡ all
    → m ≡ number_by life n (message_in line) → numbered life m (lines_of behind) ≡ all
numbered_further life n m left line behind all cut is counts =
    ap (λ (k : ℕ). numbered life k (lines_of behind)) counts
    ∙ (sym (numbered_more life n line (lines_of behind) (some_line behind)) ∙ (ap (numbered life n) (sym cut) ∙ is))

pub line_so : (keys : SealKeys) (life : Option ℕ) (l n next : ℕ) (line : List ℕ) (m : Option (List ℕ)) (message key : List ℕ)
    → life ≡ Some l → m ≡ Some message → next ≡ n + 1 → key ≡ key_of_line keys line
    → line_by keys life n line m ≡ line ++ encode_lower (seal_of key message (record { life = l; number = next })) ++ codes "\n"
line_so keys life l n next line m message key lives is counts same =
    ap (λ (o : Option ℕ). line_by keys o n line m) lives
    ∙ (ap (λ (o : Option (List ℕ)). line_by keys (Some l) n line o) is
    ∙ (ap (λ (k : ℕ). line ++ encode_lower (seal_of (key_of_line keys line) message (record { life = l; number = k }))
    ++ codes "\n") (sym counts)
    ∙ ap (λ (k : List ℕ). line ++ encode_lower (seal_of k message (record { life = l; number = next })) ++ codes "\n") (sym same)))

-- what a line tells is kept
pub told_by_line : (q new : Seals) (o : Option (ℕ × List ℕ)) (node : ℕ) (life : List ℕ) → Some (node, life) ≡ o
    → new ≡ record q { keys = with_life q.keys node life } → new ≡ taken_told q o
told_by_line q new o node life is tells = tells ∙ ap (taken_told q) is
