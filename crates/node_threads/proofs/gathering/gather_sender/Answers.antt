use Rattle.std.proofs.Common.{◌≡◌, ◌<◌, ◌∙◌, ap, List, [], ◌∷◌, ◌++◌, IfSome, length, vec_len, refl, subst, rules}
use Rattle.link_ring.specs.declared.gathering.LinkEnd.{LinkEnd}
use Rattle.node_threads.specs.Links.{TookEnds}
use Rattle.node_threads.proofs.Links.{IsGathering, gathers, gathers_past, gathered_more, end_of}
use Rattle.node_threads.proofs.gathering.gather_sender.Goals as goal
use Rattle.node_threads.proofs.gathering.gather_sender.Goals.{then-receiver-sender+in_ok-put+in-Ok+in_ok-map_err, else-receiver-sender}

pub loop-receiver-preserved : goal.loop-receiver-preserved
loop-receiver-preserved c =
    let s = c.args.sender in
    let r = c.loop-receiver.receiver in
    let left = c.loop-receiver.left.items in
    let links = c.loop-receiver.links.items in
    elim c.if-receiver-sender.branch [
      | then-receiver-sender+in_ok-put+in-Ok+in_ok-map_err w ↦
          let p = w.in_ok-put.put in
          let t = w.in_ok-put.take in
          let link = w.in-Ok.link in
          let took : TookEnds s r p t left w.next_ends.new.left.items =
          subst (λ o. IfSome o (λ ends. TookEnds s r ends.0 ends.1 left w.next_ends.new.left.items)) w.in_ok-put.ensures.ok_part
          w.next_ends.ensures in
          let said = w.in-Ok.ensures in
          rw (w.left-is, w.links-is) (gathers s r c.args.left.now.items left w.next_ends.new.left.items c.args.links.now.items links
          w.push_reserved.new.self.items p t link
          (w.push_reserved.ensures.items ∙ ap (λ (xs : List LinkEnd). xs ++ link ∷ []) w.reserve.ensures.items) took
          w.if-receiver-sender.true
          (λ from to put taken. record {
            put_end = p;
            take_end = t;
            is_put = put;
            is_take = taken;
            paired = said.paired.0 refl;
            sender =
                said.nodes.0;
            receiver = said.nodes.1;
            put = said.messages.0;
            taken = said.messages.1;
          }) c.loop-receiver.invariant)
      | else-receiver-sender w ↦ rw (w.left-is, w.links-is) (gathers_past s r c.args.left.now.items left c.args.links.now.items links
          w.if-receiver-sender.false c.loop-receiver.invariant)
    ]

pub returns : goal.returns
returns c =
    let ends = c.args.left.now.items in
    let long : length ends ≡ vec_len c.args.left.now = search rules in
    let within : c.args.sender < length ends = rw long c.requires in
    gathered_more c.args.sender ends c.loop-receiver.left.items c.args.links.now.items c.loop-receiver.links.items within
    (subst (λ n. IsGathering c.args.sender n ends c.loop-receiver.left.items c.args.links.now.items c.loop-receiver.links.items)
    (end_of c.loop-receiver.receiver c.len-receiver-end.result (vec_len c.args.left.now) (length ends) c.loop-receiver.auto.receiver-end
    c.loop-receiver-test.false c.len-receiver-end.ensures long) c.loop-receiver.invariant)
