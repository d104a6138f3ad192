-- A disk that is read again and again holds what it held.
use Rattle.std.proofs.Common.{◌≡◌, ◌∙◌, ap, sym, ℕ, List, [], Option, Some, None, true, false, is_some, IsTrue}
use Rattle.std.proofs.lemmas.Bool.{false≢true}
use Rattle.std.proofs.lemmas.List.{ext_get_or}
use Rattle.sector_disk.specs.Disk.{Counts, DiskState, Image, SameBut, nothing}
use Rattle.sector_disk.specs.Run.{Run}
use Rattle.safe_cell.specs.Body.{body_value}
use Rattle.job_journal.proofs.PublicLaws.{quiet_contents}
use Rattle.store_console.specs.Findings.{unsealed_by}
use Rattle.store_console.specs.Unheard.{IsRead}

-- calls that write nothing
pub read_by : {old new : DiskState} {failed done : Type 0} → Counts old new failed done → (IsTrue old.honest → Run nothing old new)
    → IsRead old new
read_by counts run = record { sectors = counts.sectors; honest = counts.honest; contents = λ h. quiet_contents (run h) }

pub same_contents : {old new : Image} → SameBut nothing old new → new ≡ old
same_contents {old = old} {new = new} same = ext_get_or [] new old same.size (λ k less. same.same k (λ no. no))

-- one call that writes nothing
pub read_once : {old new : DiskState} {failed done : Type 0} → Counts old new failed done
    → (IsTrue old.honest → SameBut nothing old.contents new.contents) → IsRead old new
read_once counts same = record { sectors = counts.sectors; honest = counts.honest; contents = λ h. same_contents (same h) }

pub read_on : {old mid new : DiskState} → IsRead old mid → IsRead mid new → IsRead old new
read_on first then = record {
  sectors = then.sectors ∙ first.sectors;
  honest = then.honest ∙ first.honest;
  contents = λ h. then.contents (first.honest ∙ h) ∙ first.contents h;
}

-- the slot that was looked at is sealed
pub sealed_none : (content slot : Option (List ℕ)) (body : List ℕ) → content ≡ slot → is_some content ≡ true → None ≡ unsealed_by slot body
sealed_none None slot body same some = absurd (false≢true some)
sealed_none (Some sealed) slot body same some = ap (λ s. unsealed_by s body) same

-- it isn't: its body was read
pub unsealed_value : (content slot : Option (List ℕ)) (read body : List ℕ) → content ≡ slot → is_some content ≡ false → read ≡ body
    → body_value read ≡ unsealed_by slot body
unsealed_value None slot read body same none is = ap body_value is ∙ ap (λ s. unsealed_by s body) same
unsealed_value (Some sealed) slot read body same none is = absurd (false≢true (sym none))
