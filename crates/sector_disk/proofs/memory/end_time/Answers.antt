use Rattle.std.proofs.Common.{◌≡◌, ◌∙◌, ◌==◌, ap, sym, ℕ, List, [], true, ◌∷◌, ◌++◌, length, IsFalse, get_or, false, inl, inr, refl}
use Rattle.std.proofs.lemmas.Bool.{false≢true}
use Rattle.sector_disk.specs.Noted.{Noted}
use Rattle.sector_disk.specs.declared.overwritten.Overwritten.{Overwritten}
use Rattle.sector_disk.proofs.Calls.{no_items, no_notes, none_flagged, all_are_synced}
use Rattle.sector_disk.proofs.Undoing.{ends_time}
use Rattle.sector_disk.proofs.memory.end_time.Goals as goal

pub returns-clause-ended : goal.returns-clause-ended
returns-clause-ended c = λ ok.
    let was = c.note_torn.new in
    let over : c.end.new.self.times ≡ c.args.notes.now.times ++ was.notes.since ∷ [] =
    ap (λ (n : Noted). n.times) (c.end.ensures.ok ok) ∙ ap (λ (t : List (List Overwritten)). t
    ++ was.notes.since ∷ []) c.note_torn.ensures.times in
    inl (ends_time c.args.sectors.now c.args.unsynced.now c.args.notes.now.since was.notes.since c.args.notes.now.times c.end.new.self.times
    over c.note_torn.ensures.back c.note_torn.ensures.noted.no_other
    (c.note_torn.ensures.noted.noted (c.in_ok-note_torn.ensures.untorn refl)))

none : (c : goal.Then-is_empty) (at : ℕ) → IsFalse (get_or c.args.unsynced.now at false)
none c at =
    let was = c.note_torn.new in
    none_flagged c.args.sectors.now c.args.unsynced.now was.notes.since was.torn c.note_torn.ensures.noted
    (c.in_ok-note_torn.ensures.untorn refl)
    (no_items was.notes.since (ap (λ (l : List Overwritten). length l == 0) (sym c.since.ensures) ∙ sym c.is_empty.ensures
    ∙ c.if-is_empty.true)) at

pub returns-then-is_empty-clause-ended : goal.returns-then-is_empty-clause-ended
returns-then-is_empty-clause-ended c = λ ok. inr (record { none = none c; same = c.note_torn.ensures.times })

pub returns-then-is_empty-clause-synced : goal.returns-then-is_empty-clause-synced
returns-then-is_empty-clause-synced c = λ ok. all_are_synced c.args.unsynced.now (none c)

-- where nothing is unsynced there are no notes
pub returns-clause-idle : goal.returns-clause-idle
returns-clause-idle c = λ quiet.
    let was = c.note_torn.new in
    let empty : length was.notes.since == 0 ≡ true = ap (λ (l : List Overwritten). length l == 0)
    (no_notes c.args.sectors.now c.args.unsynced.now was.notes.since was.torn c.note_torn.ensures.noted quiet) in
    absurd (false≢true (sym c.if-is_empty.false ∙ c.is_empty.ensures ∙ ap (λ (l : List Overwritten). length l == 0) c.since.ensures
    ∙ empty))
