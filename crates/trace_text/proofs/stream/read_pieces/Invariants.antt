use Rattle.std.proofs.Common.{◌≡◌, None, length}
use denote.Shadow.{shadow}
use denote.Text.{Utf8}
use Rattle.json.specs.Lex.{tokens}
use Rattle.trace_text.specs.Pieces.{begun_on, text_on}
use Rattle.trace_text.proofs.stream.read_pieces.Given as goal

abbrev pub invariant-pieces : goal.invariant-pieces
invariant-pieces l = shadow (Utf8 l.left) × (begun_on None None (tokens l.text) ≡ text_on l.parts (tokens l.left))

abbrev pub decreases-pieces : goal.decreases-pieces
decreases-pieces l = length l.left
