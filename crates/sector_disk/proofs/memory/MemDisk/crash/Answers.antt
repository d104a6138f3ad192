use Rattle.std.proofs.Common.{◌≡◌, ◌<◌, ◌∙◌, ap, sym, subst, ℕ, get_or, length, false}
use Rattle.std.specs.Prelude.{IsFalse}
use Rattle.sector_disk.specs.Disk.{Image, sector_at}
use Rattle.sector_disk.specs.Memory.{Memory, all_synced}
use Rattle.sector_disk.specs.Noted.{Noted}
use Rattle.sector_disk.specs.Crash.{IsCrashed, torn_at}
use Rattle.sector_disk.proofs.Undoing.{length-undone}
use Rattle.sector_disk.proofs.Calls.{crashed, crash_left, begun_anew, none_flagged, none_noted}
use Rattle.sector_disk.proofs.memory.MemDisk.crash.Goals as goal

pub tear-requires : goal.tear-requires
tear-requires c =
    let i = c.self.inside in
    let test = c.is_synced-synced.ensures in
    record {
      flags = ap length c.deref.ensures.value ∙ c.self.invariant.size ∙ sym (length-undone i.notes.since i.sectors)
          ∙ sym (ap length c.undo.ensures.back);
      synced = λ is at. subst (λ u. IsFalse (get_or u at false)) (sym c.deref.ensures.value)
          (none_flagged i.sectors i.unsynced.items i.notes.since i.torn c.self.invariant (test.untorn is) (test.none is) at);
    }

size : (c : goal.After-self-2-1) → length c.tear.new.sectors ≡ length c.self.inside.sectors
size c = c.tear.ensures.size ∙ ap length c.undo.ensures.back ∙ length-undone c.self.inside.notes.since c.self.inside.sectors

same_size : (c : goal.After-self-2-1) → length c.self.inside.unsynced.items ≡ length c.tear.new.sectors
same_size c = c.self.invariant.size ∙ sym (size c)

pub returns-clause-image : goal.returns-clause-image
returns-clause-image c =
    let i = c.self.inside in
    let fill = c.args.fill.now in
    let torn = c.tear.new.sectors in
    let tears = subst (λ (s : Image). (at : ℕ) → at < length s
    → sector_at torn at ≡ torn_at i.unsynced.items fill at (sector_at s at)) c.undo.ensures.back
    (subst (λ u. (at : ℕ) → at < length c.undo.new.sectors → sector_at torn at
    ≡ torn_at u fill at (sector_at c.undo.new.sectors at)) c.deref.ensures.value c.tear.ensures.torn) in
    subst (λ (m : Memory). IsCrashed m fill torn) c.self.view_is
    (crashed i.sectors torn i.unsynced.items i.notes.since i.notes.times i.failures i.left i.torn fill c.self.invariant (size c) tears)

pub returns-clause-left : goal.returns-clause-left
returns-clause-left c = crash_left c.args.self.now c.args.fill.now _ (returns-clause-image c)

pub returns-clause-anew : goal.returns-clause-anew
returns-clause-anew c =
    let after = c.tear.new.sectors in
    let cleared = c.clear.ensures in
    begun_anew after c.mark_synced.new.unsynced.items c.clear.new.self.since c.clear.new.self.times c.self.inside.failures
    (length c.self.inside.unsynced.items)
    (ap (λ (n : Noted). n.since) cleared) (ap (λ (n : Noted). n.times) cleared) c.mark_synced.ensures (same_size c)
    ∙ ap (λ (m : Memory). all_synced after m.failures) c.self.view_is

pub invariant_of-self : goal.invariant_of-self
invariant_of-self c =
    none_noted c.tear.new.sectors c.mark_synced.new.unsynced.items c.clear.new.self.since (length c.self.inside.unsynced.items)
    (ap (λ (n : Noted). n.since) c.clear.ensures) c.mark_synced.ensures (same_size c)
