use Rattle.std.proofs.Common.{◌≡◌, ◌<◌, ◌≤◌, ◌+◌}
use Rattle.console_text.specs.declared.source.TheConstants.{MAX_READS}
use Rattle.std.specs.Io.KnownBytes.{Consumes}
use Rattle.console_text.proofs.input.read_source.Given as goal

abbrev pub invariant-loop-read : goal.invariant-loop-read
invariant-loop-read g l = record {
  consumed : Consumes (g.R.Read.remaining l.fn.input.reader) (g.R.Read.remaining l.input.reader) l.bytes.items;
  counted : l.input.left + l._read ≡ l.fn.input.left;
  most : 0 < l._read → l.fn.input.left ≤ MAX_READS;
}
