-- What each answer of a mounting says of an image.
use Rattle.std.proofs.Common.{◌≡◌, ◌+◌, ◌⊎◌, inl, inr, ℕ, true, false, Option, Some, None, ◌∙◌, subst, arith, Ok, Err, Result, IsErrOf}
use Rattle.std.proofs.Common.{IsErrAnd, IfOk, IfErr, IsFalse, IsTrue}
use Rattle.sector_disk.specs.Disk.{Image, DiskState, nothing}
use Rattle.sector_disk.specs.Run.{Run}
use Rattle.sector_disk.proofs.PublicLaws.{run_of_two}
use Rattle.slot_gate.specs.Slot.{slot_at}
use Rattle.slot_gate.proofs.PublicLaws.{slot_kept}
use Rattle.safe_cell.specs.declared.fault.CellFault.{CellFault}
use Rattle.safe_cell.specs.declared.fault.CellFault.TheVariants.{NotFormatted, Damaged, Device}
use Rattle.safe_cell.specs.Cell.{IsDamaged, InCell}
use Rattle.safe_cell.specs.Mounted.{CellState, IsCellAt, IsRead, Stands, AllStand, PrefersFirst}
use Rattle.safe_cell.specs.Mounting.{AnswersFor}
use Rattle.safe_cell.proofs.Values.{stands_for, all_stand}

pub answers_damaged_first : (at : ℕ) (c : Image) → IsDamaged (slot_at c at) → AnswersFor at c (Err (Damaged at))
answers_damaged_first at c h = grind arith

pub answers_damaged_second : (at : ℕ) (c : Image) (first : Option ℕ) → IsRead (slot_at c at) first → IsDamaged (slot_at c (at + 2))
    → AnswersFor at c (Err (Damaged (at + 2)))
answers_damaged_second at c first read h = grind arith

answers_not_formatted : (at : ℕ) (c : Image) → slot_at c at ≡ None → slot_at c (at + 2) ≡ None → AnswersFor at c (Err NotFormatted)
answers_not_formatted at c first second = grind arith

answers_cell : (at : ℕ) (c : Image) (cell : CellState) → IsCellAt at cell → Stands cell c → PrefersFirst at c cell
    → AnswersFor at c (Ok cell)
answers_cell at c cell way h prefers = grind (arith, stands_for)

-- a damaged slot is answered, the device aside
pub answers_fault : (at slot : ℕ) (c : Image) (answer : Result CellState CellFault) (f : CellFault) → IsErrAnd answer (λ e. e ≡ f)
    → IsErrOf {T = Option ℕ} {E = CellFault} (Err f) Device ⊎ IsErrOf {T = Option ℕ} {E = CellFault} (Err f) (Damaged slot) ⊎ (false ≡ true)
    → (IsErrOf answer Device → ⊥) → (IsErrOf {T = Option ℕ} {E = CellFault} (Err f) (Damaged slot) → AnswersFor at c (Err (Damaged slot)))
    → AnswersFor at c answer
answers_fault at slot c (Ok cell) f bad which aside damaged = absurd bad
answers_fault at slot c (Err e) f is (inl device) aside damaged = absurd (aside (cc))
answers_fault at slot c (Err e) f is (inr (inl d)) aside damaged = let same : e ≡ Damaged slot = cc in rw same (damaged d)
answers_fault at slot c (Err e) f is (inr (inr ok)) aside damaged = cc

-- slot A counts if it has the value
first_counts : (at : ℕ) (c : Image) (first : Option ℕ) (cell : CellState) → IsRead (slot_at c at) first
    → (first ≡ Some cell.value → cell.present ≡ at) → PrefersFirst at c cell
first_counts at c None cell read before body there has = cc
first_counts at c (Some v) cell read before body there has = before (cc)

-- both slots were read
pub answers_values : (at : ℕ) (old mid new : DiskState) (first second : Option ℕ) (cell : Result CellState CellFault)
    → (IsTrue old.honest → IsRead (slot_at old.contents at) first) → (IsTrue mid.honest → IsRead (slot_at mid.contents (at + 2)) second)
    → mid.honest ≡ old.honest
    → (IsTrue old.honest → Run nothing old mid) → (IsTrue mid.honest → Run nothing mid new)
    → IfErr cell (λ f. (f ≡ NotFormatted) × (first ≡ None) × (second ≡ None))
    → IfOk cell (λ s. IsCellAt at s × IsFalse s.broken) → ((c : Image) → IsRead (slot_at c at) first → IsRead (slot_at c (at + 2)) second
    → IfOk cell (λ s. Stands s c))
    → IfOk cell (λ s. first ≡ Some s.value → s.present ≡ at) → IsTrue old.honest
    → AnswersFor at old.contents cell × IfOk cell (λ s. Stands s old.contents)
    × (((k : ℕ) → InCell at k → old.synced k) → IfOk cell (λ s. AllStand s new))
answers_values at old mid new first second (Err f) read_a read_b same early late none place stands before honest =
    let a = read_a honest in
    let b = subst (λ s. IsRead s second) (slot_kept old mid (at + 2) (early honest)) (read_b (same ∙ honest)) in
    (rw none.0 (answers_not_formatted at old.contents (rw none.1 at a) (rw none.2 at b)), tt, λ _. tt)
answers_values at old mid new first second (Ok cell) read_a read_b same early late none place stands before honest =
    let a = read_a honest in
    let b = subst (λ s. IsRead s second) (slot_kept old mid (at + 2) (early honest)) (read_b (same ∙ honest)) in
    let has = stands old.contents a b in
    let run = run_of_two nothing old mid new (early honest) (late (same ∙ honest)) in (
      answers_cell at old.contents cell place.0 has (first_counts at old.contents first cell a before),
      has,
      λ synced. all_stand at cell old new place.0 synced run has,
    )
