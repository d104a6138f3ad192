use Rattle.std.proofs.Common.{◌≡◌, ◌+◌, ◌∙◌, ap, sym, refl, ℕ, List, ◌∷◌, ◌++◌, take, drop, length, replicate, slice_set}
use Rattle.std.specs.Int.{to_be_bytes, w64, w16}
use Rattle.std.proofs.lemmas.List.{drop-drop}
use Rattle.job_model.specs.Records.{job_bytes, number_bytes, job_of}
use Rattle.job_model.proofs.RecordBytes.{job_of-job_bytes}
use Rattle.job_model.proofs.record.job_sector.Goals as goal

-- with its queue and its priority
abbrev sorted : List ℕ → ℕ → ℕ → List ℕ
sorted sector queue priority = slice_set (slice_set sector 9 queue) 10 priority

-- and with its length
abbrev headed : ℕ → ℕ → ℕ → ℕ → ℕ → List ℕ
headed kind id queue priority n = kind ∷ (to_be_bytes w64 id ++ queue ∷ priority ∷ (to_be_bytes w16 n ++ replicate 499 0))

with_length : (kind id queue priority n : ℕ) → take 11 (sorted (number_bytes kind id) queue priority) ++ to_be_bytes w16 n
    ++ drop 13 (sorted (number_bytes kind id) queue priority)
    ≡ headed kind id queue priority n
with_length kind id queue priority n = refl

-- nothing but the first bytes is left out
drop_more : (kind id queue priority n k : ℕ) → drop (13 + k) (headed kind id queue priority n) ≡ drop k (replicate 499 0)
drop_more kind id queue priority n k = sym (drop-drop k 13 (headed kind id queue priority n))

pub returns-clause-bytes : goal.returns-clause-bytes
returns-clause-bytes c =
    let job = c.args.job.now in
    let sector = c.number_sector-sector.result in
    let p = c.as_slice-bytes.result.now in
    let q = c.number.result in
    let r = job.work.priority in
    let n = length p in
    let one : c.place.new.sector ≡ headed c.args.kind job.id q r n =
    c.place.ensures
    ∙ ap (λ t. take 11 (sorted sector q r) ++ t ++ drop (11 + length t) (sorted sector q r)) c.to_be_bytes.ensures
    ∙ ap (λ s. take 11 (sorted s q r) ++ to_be_bytes w16 n ++ drop 13 (sorted s q r)) c.number_sector-sector.ensures.bytes
    ∙ with_length c.args.kind job.id q r n in
    c.place-2.ensures
    ∙ ap (λ s. take 13 s ++ p ++ drop (13 + n) s) one
    ∙ ap (λ t. c.args.kind ∷ (to_be_bytes w64 job.id ++ q ∷ r ∷ (to_be_bytes w16 n ++ (p ++ t)))) (drop_more c.args.kind job.id q r n n)
    ∙ ap (λ b. job_bytes c.args.kind (record { id = job.id; work = record { queue = q; priority = r; payload = b } }))
    c.as_slice-bytes.ensures.value
    ∙ ap (λ k. job_bytes c.args.kind (record { id = job.id; work = record { queue = k; priority = r; payload = job.work.payload } }))
    c.number.ensures.value

pub returns-clause-job : goal.returns-clause-job
returns-clause-job c = ap job_of (returns-clause-bytes c)
    ∙ job_of-job_bytes c.args.kind c.args.job.now c.number_sector-sector.ensures.fits c.number.ensures.below c.as_slice-bytes.ensures.fits
