use Rattle.std.proofs.Common.{inl, inr, ⊎_elim, sym, subst, ap, ◌∙◌, IsTrue, Some, is_ok, arith}
use Rattle.sector_disk.proofs.PublicLaws.{run_widen}
use Rattle.slot_gate.specs.Slot.{InSlot}
use Rattle.slot_gate.proofs.Calls.{writes_on}
use Rattle.slot_gate.proofs.Stored.{after_clear, filled_images, one_more}
use Rattle.slot_gate.proofs.change.store.Goals as goal

pub returns-in_err-clear-clause-images : goal.returns-in_err-clear-clause-images
returns-in_err-clear-clause-images g c = λ honest knows.
    after_clear c.args.slot c.args.body.now (g.D.SectorDisk.state c.args.disk.now) (g.D.SectorDisk.state c.clear.new.disk)
    (c.clear.ensures.images honest knows)

pub returns-in_err-fill-clause-writes : goal.returns-in_err-fill-clause-writes
returns-in_err-fill-clause-writes g c = record {
  answers = grind arith;
  counts = grind arith;
  run = (writes_on (InSlot c.args.slot) (λ k is. inr is) (λ k is. inl is) (ap is_ok c.in_ok-clear.was) c.clear.ensures.writes
      c.fill.ensures.writes).run;
}

pub returns-in_err-fill-clause-images : goal.returns-in_err-fill-clause-images
returns-in_err-fill-clause-images g c = λ honest knows.
    let h1 = subst (λ b. IsTrue b) (sym c.clear.ensures.writes.counts.honest) honest in
    let none = c.fill.ensures.images h1 (c.clear.ensures.cleared honest knows (ap is_ok c.in_ok-clear.was)) in
    filled_images c.args.slot c.args.body.now (c.clear.ensures.writes.run honest) (c.fill.ensures.writes.run h1)
    (c.clear.ensures.images honest knows) none

pub returns-clause-writes : goal.returns-clause-writes
returns-clause-writes g c =
    let filled = writes_on (InSlot c.args.slot) (λ k is. inr is) (λ k is. inl is)
    (ap is_ok c.in_ok-clear.was) c.clear.ensures.writes c.fill.ensures.writes in
    writes_on (InSlot c.args.slot) (λ k is. is) (λ k is. inr is) (ap is_ok c.in_ok-fill.was) filled c.seal.ensures.writes

pub returns-clause-images : goal.returns-clause-images
returns-clause-images g c = λ honest knows.
    let state = g.D.SectorDisk.state in
    let filled = writes_on (InSlot c.args.slot) (λ k is. inr is) (λ k is. inl is)
    (ap is_ok c.in_ok-clear.was) c.clear.ensures.writes c.fill.ensures.writes in
    let h1 = subst (λ b. IsTrue b) (sym c.clear.ensures.writes.counts.honest) honest in
    let h2 = subst (λ b. IsTrue b) (sym c.fill.ensures.writes.counts.honest) h1 in
    let none = c.fill.ensures.images h1 (c.clear.ensures.cleared honest knows (ap is_ok c.in_ok-clear.was)) in
    let so_far = filled_images c.args.slot c.args.body.now (c.clear.ensures.writes.run honest) (c.fill.ensures.writes.run h1)
    (c.clear.ensures.images honest knows) none in
    let synced = c.fill.ensures.synced h1 (ap is_ok c.in_ok-fill.was) in
    let written = c.fill.ensures.written h1 (ap is_ok c.in_ok-fill.was) in
    one_more c.args.slot c.args.body.now (state c.args.disk.now) (state c.fill.new.disk) (state c.seal.new.disk)
    (filled.run honest) (run_widen _ (InSlot c.args.slot) _ _ (λ k is. inr is) (c.seal.ensures.writes.run h2))
    (λ i since. ⊎_elim (λ none. inl none) (λ some. inr (some ∙ ap (λ b. Some b) written))
    (c.seal.ensures.images h2 (synced c.args.slot) i since)) so_far
