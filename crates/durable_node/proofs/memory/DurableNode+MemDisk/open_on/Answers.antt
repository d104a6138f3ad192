use Rattle.std.proofs.Common.{◌≡◌, ap, refl, sym, ◌∙◌, subst}
use Rattle.sector_disk.specs.Memory.{Memory, state_of}
use Rattle.job_journal.specs.Journal.{AllWithin}
use Rattle.node_core.specs.declared.event.Event.TheVariants.{Recover}
use Rattle.histories.specs.NodeState.{opening}
use Rattle.durable_node.specs.Node.{Node}
use Rattle.durable_node.specs.Stepping.{Steps}
use Rattle.durable_node.proofs.Opens.{opens, unarmed, under_left}
use Rattle.durable_node.proofs.memory.DurableNode+MemDisk.open_on.Goals as goal

pub returns-clause-opens : goal.returns-clause-opens
returns-clause-opens c = c.disarm.ensures.stands (opening c.args.id)
    (opens c.args.id c.args.nodes c.args.disk c.recover.new.self c.in-Ok.came c.in-Recovered.field-0 c.in-Recovered.is c.requires.fresh
    (subst (λ (n : Node Memory). Steps state_of n c.recover.new.self Recover c.in-Ok.came) c.down-node.ensures c.in-Ok.ensures.call.step))

pub returns-clause-disk : goal.returns-clause-disk
returns-clause-disk c =
    let on = ap (λ (n : Node Memory). n.disk) (sym c.disarm.ensures.disarmed) in
    record {
      sectors = λ held at.
          under_left (λ (m : Memory). (state_of m).sectors ≡ (state_of c.args.disk).sectors) (λ m is. is) c.recover.new.self.disk
          (λ m there. (c.recover.ensures.call.counts.counts c.args.disk m (ap (λ (n : Node Memory). n.disk) c.down-node.ensures)
          there).sectors) held (on ∙ at);
      failures = λ held at.
          under_left (λ (m : Memory). m.failures ≡ 0) (λ m is. is) c.recover.new.self.disk
          (λ m there. (c.in-Ok.ensures.call.counts.counts c.args.disk m (ap (λ (n : Node Memory). n.disk) c.down-node.ensures)
          there).unchanged
          (λ e. (let bad = rw c.in-Recovered.is at e in cc)) ∙ c.requires.fresh.unfailed) held (on ∙ at);
      disarmed = λ held at. unarmed c.recover.new.self.disk held (on ∙ at);
      number = λ held at.
          under_left (λ (m : Memory). AllWithin 2 (state_of m)) (λ m is. is) c.recover.new.self.disk
          (λ m there. c.recover.ensures.call.counts.rises c.args.disk m (ap (λ (n : Node Memory). n.disk) c.down-node.ensures) there refl 1
          c.requires.fresh.number) held (on ∙ at);
    }
