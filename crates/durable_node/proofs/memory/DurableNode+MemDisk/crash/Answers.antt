use Rattle.std.proofs.Common.{◌≡◌, ◌∙◌, sym}
use Rattle.sector_disk.specs.Memory.{state_of}
use Rattle.durable_node.proofs.Crashes.{crashes, number_left, sound_left}
use Rattle.durable_node.proofs.Nodes.{node_bare}
use Rattle.durable_node.proofs.Parts.{is_some}
use Rattle.durable_node.proofs.memory.DurableNode+MemDisk.crash.Goals as goal

pub invariant_of-self : goal.invariant_of-self
invariant_of-self c =
    let was = c.self.inside in
    let e = c.crash.ensures in
    node_bare state_of was.setting.id was.setting.nodes was.core c.down.result was.disk c.self.invariant (record {
      id =
          c.down.ensures.id;
      nodes = c.down.ensures.nodes;
    }) c.crash.new.self c.down.ensures.state
    (sound_left c.take-disk.result c.crash.new.self e.left e.anew (c.self.invariant.sound c.take-disk.result c.take-disk.ensures.disk))

pub returns-clause-stands : goal.returns-clause-stands
returns-clause-stands c =
    let was = c.self.inside in
    rw (← c.self.view_is) (λ s stands. crashes was.setting.id was.setting.nodes was.core c.down.result was.disk c.take-disk.result
    c.crash.new.self was.doubt was.mounted s c.take-disk.ensures.disk
    c.down.ensures.state c.crash.ensures.left c.crash.ensures.anew stands)

pub returns-clause-there : goal.returns-clause-there
returns-clause-there c = rw (← c.self.view_is) c.self.invariant.there

pub returns-clause-number : goal.returns-clause-number
returns-clause-number c = rw (← c.self.view_is) (λ was now bound at end within.
    let first : c.take-disk.result ≡ was = is_some _ _ (sym c.take-disk.ensures.disk ∙ at) in
    let last : c.crash.new.self ≡ now = is_some _ _ end in
    rw (← last) (number_left c.take-disk.result c.crash.new.self bound c.crash.ensures.left c.crash.ensures.anew (rw first within)))
