use Rattle.std.proofs.Common.{◌≡◌, ℕ, ◌+◌, List, length, refl, ap, ◌∙◌}
use Rattle.trace_check.specs.Claims.{Claim}
use Rattle.trace_check.specs.Contradictions.{lone}
use Rattle.trace_check.specs.Kept.{part}
use Rattle.trace_check.specs.Orders.{history}
use Rattle.trace_check.specs.Traces.{claim_seen}
use Rattle.trace_check.proofs.Contradictions.{copied_more}
use Rattle.trace_check.proofs.contradiction.core_at.Goals as goal

pub returns : goal.returns
returns c =
    let hs = c.args.trace.now in
    let n = c.args.node in
    let index = c.args.index in
    let first = c.in_ok-first.first in
    let start = c.in_ok-first.ensures in
    let copied : c.copy_entry.new.history ≡ part first (index + 1) (history hs n) =
    copied_more (history hs n) c.in_ok-entries.entries c.copy_entry.new.history first index (claim_seen c.in-Some.entry) start.few.0
    c.in_ok-entries.ensures c.in-Some.ensures.some c.in_ok-copy_entry.ensures in
    record {
      node = refl;
      start = start;
      before = c.in_ok-before.ensures;
      entries =
          c.in_ok-trace.ensures ∙ ap (λ (m : ℕ). lone m n c.copy_entry.new.history) c.nodes.ensures.value
          ∙ ap (λ (es : List Claim). lone (length hs) n es) copied;
    }
