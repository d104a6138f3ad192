use Rattle.std.proofs.Common.{rules, ◌∷◌, ◌∙◌, ap, List, ℕ}
use Rattle.line_words.specs.Words.{words_of}
use Rattle.node_session.specs.Seals.{sent_word}
use Rattle.node_session.proofs.Reading.{sends_no}
use Rattle.node_session.proofs.seals.sent_word.Goals as goal

pub returns-then-not-is_word-clause-none : goal.returns-then-not-is_word-clause-none
returns-then-not-is_word-clause-none c = λ _.
    ap sent_word (c.in_ok-name.ensures.words ∙ ap (λ (ws : List (List ℕ)). c.in_ok-name.name.now ∷ ws) c.in_ok-_receiver.ensures.words)
    ∙ sends_no c.in_ok-name.name.now c.in_ok-_receiver._receiver.now (words_of c.in_ok-_receiver.word.now) (search rules)
