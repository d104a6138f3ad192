use Rattle.std.proofs.Common.{◌≡◌, refl, arith, [], take, length, ◌<◌, inr}
use Rattle.console_text.proofs.Consumed.{consumes_all}
use Rattle.console_text.proofs.input.read_source.Goals as goal

pub returns-then-count-eq0-clause-bytes : goal.returns-then-count-eq0-clause-bytes
returns-then-count-eq0-clause-bytes g c =
    let none : take c.in-Ok.count c.read.new.buf ≡ [] = rw c.if-count-eq0.true refl in
    let room : 0 < length c.read.new.buf = omega arith in
    consumes_all _ _ _ _ _ c.loop-read.invariant.consumed c.in-Ok.ensures.bytes.0 none (c.in-Ok.ensures.bytes.1 c.if-count-eq0.true room)

pub returns-clause-unread : goal.returns-clause-unread
returns-clause-unread g c = λ unread. inr (omega (
  arith,
  c.loop-read.invariant.counted,
  c.loop-read.invariant.most (omega arith),
  c.loop-read-test.false,
))
