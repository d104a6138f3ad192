use Rattle.std.proofs.Common.{rules, ◌∷◌, ◌∙◌, ap, List, ℕ}
use Rattle.line_words.specs.Words.{words_of}
use Rattle.node_session.specs.Seals.{life_words}
use Rattle.node_session.proofs.Reading.{tells_no}
use Rattle.node_session.proofs.seals.life_words.Goals as goal

pub returns-then-not-is_word-clause-none : goal.returns-then-not-is_word-clause-none
returns-then-not-is_word-clause-none c = λ _.
    ap life_words (c.in_ok-name.ensures.words ∙ ap (λ (ws : List (List ℕ)). c.in_ok-name.name.now ∷ ws) c.in_ok-node.ensures.words)
    ∙ tells_no c.in_ok-name.name.now c.in_ok-node.node.now (words_of c.in_ok-node.word.now) (search rules)
