use Rattle.std.proofs.Common.{◌∙◌, inl, inr, ⊎_elim, ℕ, refl, sym}
use Rattle.safe_cell.proofs.PublicLaws.{reads_on}
use Rattle.lease_file.proofs.Cells.{both}
use Rattle.lease_file.proofs.Mountings.{cell_kept, fault_kept, read_both, refused_first, refused_second, stands_on}
use Rattle.lease_file.proofs.mounting.read_cells.Goals as goal

pub returns-in-Err-clause-only_reads : goal.returns-in-Err-clause-only_reads
returns-in-Err-clause-only_reads g c = reads_on _ _ _ _ _ _ (λ no. cc) (λ l. cc)
    (λ f. cc) c.in-Ok.ensures.only_reads c.in-Err.ensures.only_reads

pub returns-in-Err-clause-refusal : goal.returns-in-Err-clause-refusal
returns-in-Err-clause-refusal g c = λ honest.
    ⊎_elim inl (λ is. inr (refused_first _ _ (fault_kept 0 _ (c.sync_disk.ensures.only_reads.run honest) is)))
    (c.in-Err.ensures.refusal (c.sync_disk.ensures.only_reads.counts.honest ∙ honest))

pub returns-in-Err-read_cell-clause-only_reads : goal.returns-in-Err-read_cell-clause-only_reads
returns-in-Err-read_cell-clause-only_reads g c =
    reads_on _ _ _ _ _ _ (λ no. no) (λ l. cc) (λ f. cc) (read_both (λ no. cc) (λ no. cc) c.in-Ok.ensures.only_reads
    c.in-Ok-read_cell.ensures.only_reads) c.in-Err-read_cell.ensures.only_reads

pub returns-in-Ok-read_cell-2-clause-only_reads : goal.returns-in-Ok-read_cell-2-clause-only_reads
returns-in-Ok-read_cell-2-clause-only_reads g c =
    reads_on _ _ _ _ _ _ (λ no. no) (λ l. cc) (λ f. cc) (read_both (λ no. cc) (λ no. cc) c.in-Ok.ensures.only_reads
    c.in-Ok-read_cell.ensures.only_reads) c.in-Ok-read_cell-2.ensures.only_reads

pub returns-in-Err-read_cell-clause-refusal : goal.returns-in-Err-read_cell-clause-refusal
returns-in-Err-read_cell-clause-refusal g c = λ honest.
    let first = c.sync_disk.ensures.only_reads in
    let quiet = read_both (λ no. cc) (λ no. cc) c.in-Ok.ensures.only_reads c.in-Ok-read_cell.ensures.only_reads in
    ⊎_elim inl
    (λ is. inr (refused_second _ _ _ (sym (cell_kept 0 (first.run honest))
    ∙ c.in-Ok-read_cell.ensures.reads (first.counts.honest ∙ honest)) (fault_kept 4 _ (quiet.run honest) is)))
    (c.in-Err-read_cell.ensures.refusal (quiet.counts.honest ∙ honest))

pub returns-in-Ok-read_cell-2-clause-reads : goal.returns-in-Ok-read_cell-2-clause-reads
returns-in-Ok-read_cell-2-clause-reads g c = λ honest.
    let first = c.sync_disk.ensures.only_reads in
    let quiet = read_both (λ no. cc) (λ no. cc) c.in-Ok.ensures.only_reads c.in-Ok-read_cell.ensures.only_reads in
    both (g.D.SectorDisk.state c.args.disk.now).contents c.in-Ok-read_cell.count.value c.in-Ok-read_cell-2.keeps.value
    (sym (cell_kept 0 (first.run honest)) ∙ c.in-Ok-read_cell.ensures.reads (first.counts.honest ∙ honest))
    (sym (cell_kept 4 (quiet.run honest)) ∙ c.in-Ok-read_cell-2.ensures.reads (quiet.counts.honest ∙ honest))

pub returns-in-Ok-read_cell-2-clause-stand : goal.returns-in-Ok-read_cell-2-clause-stand
returns-in-Ok-read_cell-2-clause-stand g c = λ honest.
    let early = c.sync_disk.ensures.only_reads.counts.honest ∙ honest in
    let late = c.read_cell.ensures.only_reads.counts.honest ∙ early in
    let synced = c.in-Ok.ensures.synced honest refl in
    let second = c.read_cell-2.ensures.only_reads in
    let still = λ (k : ℕ). c.read_cell.ensures.only_reads.synced early k (synced k) in (
      stands_on c.in-Ok-read_cell.ensures.place.0 (second.run late) (c.in-Ok-read_cell.ensures.stand early synced),
      c.in-Ok-read_cell-2.ensures.stand late still,
      λ k. second.synced late k (still k),
    )
