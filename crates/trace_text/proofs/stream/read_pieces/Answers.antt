use Rattle.std.proofs.Common.{◌∙◌, rules}
use Rattle.trace_text.proofs.Wholly.{piece_on}
use Rattle.trace_text.proofs.stream.read_pieces.Goals as goal

pub pieces-preserved : goal.pieces-preserved
pieces-preserved c =
    let passed = c.in_ok-pass_piece.ensures c.if-not-branch.false in (
      search rules,
      c.pieces.invariant.1 ∙ piece_on c.pieces.parts c.pass_piece.new.parts c.pieces.left.now c.in-Some.piece.now
          c.in-Some.behind.now c.in-Some.ensures passed.0 passed.1,
    )
