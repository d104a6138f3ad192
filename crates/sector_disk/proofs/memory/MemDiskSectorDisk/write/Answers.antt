use Rattle.std.proofs.Common.{◌≡◌, ◌∙◌, ap, sym, subst, set, length, true, arith}
use Rattle.sector_disk.specs.Disk.{Image, Touches}
use Rattle.sector_disk.specs.Memory.{Memory, state_of, spent}
use Rattle.sector_disk.specs.Undo.{AddsNote}
use Rattle.sector_disk.proofs.Undoing.{noted_and_written}
use Rattle.sector_disk.proofs.Calls.{seen, written, write_touches}
use Rattle.sector_disk.proofs.memory.MemDiskSectorDisk.write.Goals as goal

added : (c : goal.After-write) → AddsNote c.self.inside.sectors c.args.at c.self.inside.notes.since c.may_write.new.notes.since
added c = c.may_write.ensures.noted c.if-not-may_write.false

pub invariant_of-self-2 : goal.invariant_of-self-2
invariant_of-self-2 c =
    let i = c.self.inside in
    noted_and_written i.sectors c.write.new.self i.unsynced.items i.torn c.args.at c.args.from.now i.notes.since c.may_write.new.notes.since
    (omega (arith, c.if-len-at.false)) c.write.ensures (added c) c.self.invariant

sees : (c : goal.After-write) → seen c.write.new.self (set c.self.inside.unsynced.items c.args.at true) c.may_write.new.notes.since
    c.may_write.new.notes.times c.self.inside.failures c.may_write.new.left
    ≡ record c.args.self.now {
      contents = set c.args.self.now.contents c.args.at c.args.from.now;
      unsynced =
          set c.args.self.now.unsynced c.args.at true;
      left = spent c.args.self.now.left;
    }
sees c =
    let i = c.self.inside in
    let after = λ (s : Image). seen s (set i.unsynced.items c.args.at true) c.may_write.new.notes.since i.notes.times i.failures
    c.may_write.new.left in
    ap (λ times. seen c.write.new.self (set i.unsynced.items c.args.at true) c.may_write.new.notes.since times i.failures
    c.may_write.new.left) c.may_write.ensures.times
    ∙ ap after c.write.ensures
    ∙ subst (λ (m : Memory). after (set i.sectors c.args.at c.args.from.now)
    ≡ record m { contents = set m.contents c.args.at c.args.from.now; unsynced = set m.unsynced c.args.at true; left = spent m.left })
    c.self.view_is
    (written i.sectors i.unsynced.items i.notes.since c.may_write.new.notes.since i.notes.times i.failures c.args.at c.args.from.now i.left
    c.may_write.new.left (added c) c.may_write.ensures.spent)

pub returns-clause-ok : goal.returns-clause-ok
returns-clause-ok c = λ ok. sees c

pub returns-clause-touches : goal.returns-clause-touches
returns-clause-touches c = λ honest.
    let m = c.args.self.now in
    let size : length m.unsynced ≡ length c.self.inside.unsynced.items = ap (λ (v : Memory). length v.unsynced) (sym c.self.view_is) in
    subst (λ (after : Memory). Touches (λ k. k ≡ c.args.at) (state_of m) (state_of after)) (sym (sees c))
    (write_touches m c.args.at c.args.from.now (spent m.left) (omega (arith, size, c.self.invariant.size, c.if-len-at.false)))
