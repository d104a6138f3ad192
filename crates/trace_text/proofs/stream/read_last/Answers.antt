use Rattle.std.proofs.Common.{List, Some, None, sym, ap, ◌∙◌}
use Rattle.json.specs.Token.{Token}
use Rattle.json.specs.Reads.{token_of}
use Rattle.trace_text.specs.Drafts.{parted_by}
use Rattle.trace_text.specs.Pieces.{text_on}
use Rattle.trace_text.specs.Streams.{shaped}
use Rattle.trace_text.proofs.Steps.{shut}
use Rattle.trace_text.proofs.Walks.{opened}
use Rattle.trace_text.proofs.Wholly.{not_last, not_some, paused_none}
use Rattle.trace_text.proofs.stream.read_last.Goals as goal

pub returns-then-not-branch-clause-err : goal.returns-then-not-branch-clause-err
returns-then-not-branch-clause-err c =
    λ refused. not_some _ (ap (text_on c.args.parts) (sym c.in_ok-reader.ensures.ok)
    ∙ (shut _ _ _ c.if-not-branch.true c.in_ok-read_piece.ensures.ok).at None ∙ paused_none c.read_piece.new.parts)

pub returns-in-Some-clause-err : goal.returns-in-Some-clause-err
returns-in-Some-clause-err c =
    λ refused. not_last _ (shaped (parted_by c.read_piece.new.parts))
    (token_of c.in-Some.field-0) c.read_piece.new.reader _ c.in-Some.ensures.value
    (ap (text_on c.args.parts) (sym c.in_ok-reader.ensures.ok) ∙ (opened _ _ _ c.if-not-branch.false c.in_ok-read_piece.ensures.ok).at None)

pub returns-in-None-clause-ok : goal.returns-in-None-clause-ok
returns-in-None-clause-ok c =
    ap (text_on c.args.parts) (sym c.in_ok-reader.ensures.ok) ∙ (opened _ _ _ c.if-not-branch.false c.in_ok-read_piece.ensures.ok).at None
    ∙ ap (λ (ts : List Token). Some (shaped (parted_by c.read_piece.new.parts), ts)) c.in-None.ensures.value.0
