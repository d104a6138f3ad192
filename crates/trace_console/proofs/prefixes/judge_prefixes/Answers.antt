use Rattle.std.proofs.Common.{◌≡◌, [], true, false, arith, refl, take}
use Rattle.trace_console.proofs.Pieces.{counted_more, ends_with_input, ends_within, heard_kept, heard_more, heard_on, judged_by, most_more}
use Rattle.trace_console.proofs.prefixes.judge_prefixes.Goals as goal

pub returns-in_default-clause-judges : goal.returns-in_default-clause-judges
returns-in_default-clause-judges g c = (
  c.loop-read.prefix,
  judged_by _ _ _ _ _ _ (heard_kept _ _ _ _ _ _ _ c.loop-read.invariant.heard c.in_default.ensures.bytes),
)

pub returns-then-count-eq0-clause-judges : goal.returns-then-count-eq0-clause-judges
returns-then-count-eq0-clause-judges g c =
    let none : take c.in-Ok.count c.read.new.buf ≡ [] = rw c.if-count-eq0.true refl in
    ends_with_input _ _ _ _ c.loop-read.prefix _ _ (heard_on _ _ _ _ _ _ _ _ c.loop-read.invariant.heard c.in-Ok.ensures.bytes.0 none)
    (c.in-Ok.ensures.bytes.1 c.if-count-eq0.true (omega (arith, c.read.auto.buf, c.loop-read.invariant.room))) c.ending_of.ensures

pub returns-in-Some-clause-judges : goal.returns-in-Some-clause-judges
returns-in-Some-clause-judges g c = ends_within _ _ _ _ _ _ _ c.take_bytes.new.prefix _ c.take_bytes.new.unread.items _ _
    c.loop-read.invariant.heard c.in-Ok.ensures.bytes.0 (rw c.in-Some.is at c.take_bytes.ensures)

pub loop-read-preserved : goal.loop-read-preserved
loop-read-preserved g c = record {
  heard = heard_more _ _ _ _ _ _ _ _ _ _ _ c.loop-read.invariant.heard c.in-Ok.ensures.bytes.0
      (rw c.in_default-take_bytes.is at c.take_bytes.ensures);
  room = omega (arith, c.read.auto.buf, c.loop-read.invariant.room);
  counted = counted_more _ _ _ _ (λ none. (let bad : false ≡ true = (c.in-Ok.ensures.spent none).0 in
      cc)) c.in-Ok.ensures.taken c.loop-read.invariant.counted;
  most = λ some. most_more _ _ _ _ c.in-Ok.ensures.most c.loop-read.invariant.counted c.loop-read.invariant.most;
}

pub returns-clause-judges : goal.returns-clause-judges
returns-clause-judges g c = (c.loop-read.prefix, judged_by _ _ _ _ _ _ c.loop-read.invariant.heard)
