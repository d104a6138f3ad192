use Rattle.node_session.proofs.Cutting.{one_either}
use Rattle.node_session.proofs.unread.Unread.push.Goals as goal

pub invariant_of-self : goal.invariant_of-self
invariant_of-self c = one_either _ c.self.inside.bytes.items c.args.more.now c.extend_from_slice.new.self.items
    c.extend_from_slice.ensures.items c.self.invariant c.requires

pub returns-clause-line : goal.returns-clause-line
returns-clause-line c = one_either _ c.self.inside.bytes.items c.args.more.now c.extend_from_slice.new.self.items
    c.extend_from_slice.ensures.items c.self.invariant c.requires
