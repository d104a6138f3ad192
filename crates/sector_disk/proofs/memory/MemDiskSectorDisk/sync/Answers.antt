use Rattle.std.proofs.Common.{◌≡◌, ◌⊎◌, ⊎_elim, ◌∙◌, ℕ, Bool, List, ap, sym, subst, refl, not, Result, Ok, Err, IsOk, IsFalse, length}
use Rattle.std.proofs.Common.{get_or, replicate, false, rules, arith}
use Rattle.std.specs.Prelude.{OnErr, is_ok}
use Rattle.std.proofs.lemmas.Bool.{false≢true}
use Rattle.std.proofs.lemmas.Grind.{common_steps}
use Rattle.std.specs.Vec.{with_items}
use Rattle.std.proofs.lemmas.List.{with_items_is}
use Rattle.sector_disk.specs.Disk.{Touches, nothing}
use Rattle.sector_disk.specs.Memory.{Memory, state_of, is_unsynced}
use Rattle.sector_disk.specs.Undo.{EndsTime, EndsNothing, undone, spans_of}
use Rattle.sector_disk.specs.declared.overwritten.Overwritten.{Overwritten}
use Rattle.sector_disk.specs.Disk.{Image}
use Rattle.sector_disk.specs.Moments.{stays}
use Rattle.sector_disk.proofs.Calls.{seen, sync_touches, idle_touches}
use Rattle.sector_disk.proofs.memory.MemDiskSectorDisk.sync.Goals as goal

done : (c : goal.Else-is_err) → IsOk c.end_time.result
done c = c.is_err.ensures.negation ∙ ap not c.if-is_err.false

ends : (c : goal.Else-is_err) → EndsTime c.self.inside.sectors c.self.inside.unsynced.items c.self.inside.notes.since
    c.self.inside.notes.times c.end_time.new.notes.times
    ⊎ EndsNothing c.self.inside.unsynced.items c.self.inside.notes.times c.end_time.new.notes.times
ends c =
    let i = c.self.inside in
    let new = c.end_time.new in
    subst (λ u. EndsTime i.sectors u i.notes.since i.notes.times new.notes.times
    ⊎ EndsNothing u i.notes.times new.notes.times) c.deref_mut.ensures.value
    (c.end_time.ensures.ended (done c))

pub returns-clause-touches : goal.returns-clause-touches
returns-clause-touches c = λ honest.
    let i = c.self.inside in
    let new = c.end_time.new in
    let flags = with_items i.unsynced new.unsynced in
    let size : length new.unsynced ≡ i.unsynced.len = search rules in
    let synced = with_items_is i.unsynced new.unsynced size ∙ c.end_time.ensures.synced (done c) in
    let after = seen i.sectors flags.items new.notes.since new.notes.times i.failures c.spend-passes.new.left in
    let begun = c.end_time.ensures.begun (done c) in
    subst (λ (m : Memory). Touches nothing (state_of m) (state_of after)) c.self.view_is
    (⊎_elim
    (λ ended. sync_touches i.sectors i.unsynced.items flags.items i.notes.since new.notes.since i.notes.times new.notes.times i.failures
    i.left c.spend-passes.new.left
    (length c.deref_mut.result.now) ended begun synced)
    (λ nothing_ended. idle_touches i.sectors i.unsynced.items flags.items i.notes.since new.notes.since i.notes.times new.notes.times
    i.failures i.left c.spend-passes.new.left
    i.torn c.self.invariant nothing_ended begun (synced ∙ ap (λ u. replicate (length u) false) c.deref_mut.ensures.value))
    (ends c))

of_err : {T E P : Type 0} (r : Result T E) → is_ok r ≡ false → OnErr r P → P
of_err (Ok x) not_ok p = absurd cc
of_err (Err e) not_ok p = p

pub returns-then-is_err-clause-touches : goal.returns-then-is_err-clause-touches
returns-then-is_err-clause-touches c = λ honest.
    let failed = c.is_err.ensures.negation ∙ ap not c.if-is_err.true in
    let i = c.self.inside in
    let new = c.end_time.new in
    let e = c.end_time.ensures in
    let flags = with_items i.unsynced new.unsynced in
    let same = of_err c.end_time.result failed e.unsynced ∙ c.deref_mut.ensures.value in
    let size : length new.unsynced ≡ i.unsynced.len = search rules in
    let times = of_err c.end_time.result failed e.spans in
    let back = of_err c.end_time.result failed e.back in
    subst (λ (m : Memory). Touches nothing (state_of m) (state_of
    (seen i.sectors flags.items new.notes.since new.notes.times c.failed-then-is_err.new.failures c.spend-passes.new.left)))
    c.self.view_is
    (stays nothing (seen i.sectors i.unsynced.items i.notes.since i.notes.times i.failures i.left)
    (seen i.sectors flags.items new.notes.since new.notes.times c.failed-then-is_err.new.failures c.spend-passes.new.left)
    refl (with_items_is i.unsynced new.unsynced size ∙ same)
    (ap (λ (t : List (List Overwritten)). spans_of t (undone new.notes.since i.sectors)) times
    ∙ ap (λ (s : Image). spans_of i.notes.times s) back))

pub returns-then-is_err-clause-sync : goal.returns-then-is_err-clause-sync
returns-then-is_err-clause-sync c =
    let failed = c.is_err.ensures.negation ∙ ap not c.if-is_err.true in
    record {
      armed = search rules;
      idle = λ quiet passes.
          let inside = subst (λ (m : Memory). (at : ℕ) → IsFalse (is_unsynced m at)) (sym c.self.view_is) quiet in
          let ok = c.end_time.ensures.idle (subst (λ (u : List Bool). (at : ℕ)
          → IsFalse (get_or u at false)) (sym c.deref_mut.ensures.value) inside) in
          absurd (false≢true (sym failed ∙ ok));
      ok = search rules;
      failed = grind (arith, common_steps);
    }
