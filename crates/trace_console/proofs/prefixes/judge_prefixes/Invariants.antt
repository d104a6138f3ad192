use Rattle.std.proofs.Common.{◌≡◌, ◌<◌, ◌≤◌, ◌+◌, length}
use Rattle.console_text.specs.declared.source.TheConstants.{MAX_READS}
use Rattle.trace_console.proofs.Pieces.{IsHeard}
use Rattle.trace_console.proofs.prefixes.judge_prefixes.Given as goal

abbrev pub invariant-loop-read : goal.invariant-loop-read
invariant-loop-read g l = record {
  heard : IsHeard (g.R.Read.remaining l.fn.input.reader) (g.R.Read.remaining l.input.reader) (g.W.Write.contents l.fn.output)
      (g.W.Write.contents l.output) l.prefix l.unread.items;
  room : 0 < length l.piece;
  counted : l.input.left + l._read ≡ l.fn.input.left;
  most : 0 < l._read → l.fn.input.left ≤ MAX_READS;
}
