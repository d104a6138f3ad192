use Rattle.std.proofs.Common.{◌≡◌, ◌∙◌, refl, subst}
use Rattle.link_ring.specs.Sides.{unused, unused_put}
use Rattle.node_threads.proofs.Links.{IsWiring, linked_as, wires_past, ends_with, end_of}
use Rattle.node_threads.proofs.wiring.wire_sender.Goals as goal
use Rattle.node_threads.proofs.wiring.wire_sender.Goals.{then-receiver-sender+in_ok-put+in_ok-add_ends, else-receiver-sender}

pub loop-receiver-preserved : goal.loop-receiver-preserved
loop-receiver-preserved c =
    let nodes = c.args.nodes in
    let capacity = c.args.capacity in
    let s = c.args.sender in
    let r = c.loop-receiver.receiver in
    elim c.if-receiver-sender.branch [
      | then-receiver-sender+in_ok-put+in_ok-add_ends w ↦
          let ring = w.in_ok-put.ensures.0 in
          let put_is : unused_put ring w.numbered.result w.numbered-then-receiver-sender.result capacity ≡ unused_put ring s r capacity =
          λ i. unused_put ring (w.numbered.ensures i) (w.numbered-then-receiver-sender.ensures i) capacity in
          let take_is : unused ring w.numbered.result w.numbered-then-receiver-sender.result capacity ≡ unused ring s r capacity =
          λ i. unused ring (w.numbered.ensures i) (w.numbered-then-receiver-sender.ensures i) capacity in
          rw w.ends-is (linked_as ring nodes capacity s r w.in_ok-put.put w.in_ok-put.take c.loop-receiver.ends.items
          w.add_ends.new.ends.items c.loop-receiver-test.true w.if-receiver-sender.true (w.in_ok-put.ensures.1 ∙ put_is)
          (w.in_ok-put.ensures.2 ∙ take_is) w.in_ok-add_ends.ensures c.loop-receiver.invariant)
      | else-receiver-sender w ↦ rw w.ends-is (wires_past nodes capacity s r c.loop-receiver.ends.items c.requires.within.0
          w.if-receiver-sender.false c.loop-receiver.invariant)
    ]

pub returns : goal.returns
returns c =
    ends_with c.args.nodes c.args.capacity c.args.sender c.loop-receiver.ends.items
    (subst (λ n. IsWiring c.args.nodes c.args.capacity c.args.sender n c.loop-receiver.ends.items)
    (end_of c.loop-receiver.receiver c.args.nodes c.args.nodes c.args.nodes c.loop-receiver.auto.receiver-end c.loop-receiver-test.false
    refl refl) c.loop-receiver.invariant)
