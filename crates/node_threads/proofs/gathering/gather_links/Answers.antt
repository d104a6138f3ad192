use Rattle.std.proofs.Common.{◌≡◌, length, vec_len, subst, rules}
use Rattle.node_threads.proofs.Links.{AreGatheredBelow, sender_gathered, all_gathered, end_of}
use Rattle.node_threads.proofs.gathering.gather_links.Goals as goal

pub loop-sender-preserved : goal.loop-sender-preserved
loop-sender-preserved c =
    sender_gathered c.loop-sender.sender c.args.left.items c.loop-sender.left.items c.gather_sender.new.left.items c.loop-sender.links.items
    c.gather_sender.new.links.items c.loop-sender.invariant c.in_ok-gather_sender.ensures

pub returns : goal.returns
returns c =
    let long : length c.args.left.items ≡ vec_len c.args.left = search rules in
    all_gathered c.args.left.items c.loop-sender.left.items c.loop-sender.links.items
    (subst (λ n. AreGatheredBelow n c.args.left.items c.loop-sender.left.items c.loop-sender.links.items)
    (end_of c.loop-sender.sender c.len-sender-end.result (vec_len c.args.left) (length c.args.left.items) c.loop-sender.auto.sender-end
    c.loop-sender-test.false c.len-sender-end.ensures long) c.loop-sender.invariant)
