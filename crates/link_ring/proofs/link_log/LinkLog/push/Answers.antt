use Rattle.std.proofs.Common.{refl, arith}
use Rattle.link_ring.proofs.Passing.{added}
use Rattle.link_ring.proofs.link_log.LinkLog.push.Goals as goal

pub invariant_of-self : goal.invariant_of-self
invariant_of-self c =
    let was = c.self.inside in
    let packs = c.pack-passed.ensures in
    let last = c.push_reserved.ensures in
    record {
      read = (added was.passed.items _ c.pack-passed.result c.args.message.now was.long _ packs last.items c.self.invariant.read).0;
      passed = omega (arith, c.self.invariant.passed, last.len, last.capacity, c.requires);
      long = omega (arith, c.self.invariant.long, packs.room, c.requires);
    }

pub returns : goal.returns
returns c =
    let was = c.self.inside in
    let packs = c.pack-passed.ensures in
    let last = c.push_reserved.ensures.items in
    let now = added was.passed.items _ c.pack-passed.result c.args.message.now was.long _ packs last c.self.invariant.read in
    rw (now.1, ← c.self.view_is) refl
