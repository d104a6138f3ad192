-- The bytes of a record stand for it.
use Rattle.std.proofs.Common.{◌≡◌, ◌<◌, ◌≤◌, ◌+◌, ◌-◌, ◌^◌, ◌⊎◌, inl, inr, ⊎_elim, ℕ, List, ◌∷◌, ◌++◌, take, drop, length, replicate}
use Rattle.std.proofs.Common.{get_or, Bool, true, false, ◌&&◌, nat_lt, nat_le, Some, None, sym, ◌∙◌, ap, refl, arith, if◌then◌else◌}
use Rattle.std.specs.Int.{to_be_bytes, w64, w16}
use Rattle.std.proofs.lemmas.Bool.Decides.{nat_tests}
use Rattle.std.proofs.lemmas.Nat.{from_be_bytes-to_be_bytes_8, from_be_bytes-to_be_bytes_2}
use Rattle.std.proofs.lemmas.List.{drop_at, take_at, drop-replicate, length-take, length-drop}
use Rattle.disk_layout.specs.Blank.{is_blank}
use Rattle.disk_layout.proofs.PublicLaws.{blank}
use Rattle.job_model.specs.declared.job.Job.{Job}
use Rattle.job_model.specs.declared.payload.TheConstants.{PAYLOAD_CAPACITY}
use Rattle.job_model.specs.declared.queue.TheConstants.{QUEUES}
use Rattle.job_model.specs.Records.{id_in, length_in, number_of, job_at, job_of, old_job_of, number_bytes, job_bytes, old_job_bytes}

pub number_of-number_bytes : (kind number : ℕ) → number < 2 ^ 64 → number_of (number_bytes kind number) ≡ Some number
unfolding number_of
number_of-number_bytes kind number fits =
    ap (λ b. if b then Some (id_in (number_bytes kind number)) else None) (blank 503)
    ∙ ap (λ n. Some n) (from_be_bytes-to_be_bytes_8 number fits)

all_hold : (a b c : Bool) (job : Job) → a ≡ true → b ≡ true → c ≡ true → (if a && b && c then Some job else None) ≡ Some job
all_hold true true true job ha hb hc = refl
all_hold true true false job ha hb hc = cc
all_hold true false c job ha hb hc = cc
all_hold false b c job ha hb hc = cc

one_fails : (a b c : Bool) (job : Job) → (a ≡ false) ⊎ ((b ≡ false) ⊎ (c ≡ false)) → (if a && b && c then Some job else None) ≡ None
one_fails false b c job h = refl
one_fails true false c job h = refl
one_fails true true false job h = refl
one_fails true true true job h = ⊎_elim (λ e. cc) (λ o. ⊎_elim (λ e. cc) (λ e. cc) o) h

-- the job of these parts
abbrev job_with : ℕ → ℕ → ℕ → List ℕ → Job
job_with id queue priority payload = record { id = id; work = record { queue = queue; priority = priority; payload = payload } }

-- a body with such parts is this job's
pub job_at-parts : (at priority : ℕ) (body : List ℕ) (job : Job) → id_in body ≡ job.id → get_or body 9 0 ≡ job.work.queue
    → priority ≡ job.work.priority
    → length_in at body ≡ length job.work.payload → take (length_in at body) (drop (at + 2) body) ≡ job.work.payload
    → job.work.queue < QUEUES
    → length job.work.payload ≤ PAYLOAD_CAPACITY → is_blank (drop (at + 2 + length_in at body) body) ≡ true
    → job_at at priority body ≡ Some job
unfolding job_at
job_at-parts at priority body job id queue same size payload low short empty =
    let q : nat_lt (get_or body 9 0) QUEUES ≡ true = grind (arith, nat_tests, queue, low) in
    let l : nat_le (length_in at body) PAYLOAD_CAPACITY ≡ true = grind (arith, nat_tests, size, short) in
    let bytes = take (length_in at body) (drop (at + 2) body) in
    all_hold (nat_lt (get_or body 9 0) QUEUES) (nat_le (length_in at body) PAYLOAD_CAPACITY)
    (is_blank (drop (at + 2 + length_in at body) body))
    (job_with (id_in body) (get_or body 9 0) priority bytes) q l empty
    ∙ ap (λ i. Some (job_with i (get_or body 9 0) priority bytes)) id
    ∙ ap (λ k. Some (job_with job.id k priority bytes)) queue
    ∙ ap (λ n. Some (job_with job.id job.work.queue n bytes)) same
    ∙ ap (λ p. Some (job_with job.id job.work.queue job.work.priority p)) payload

-- a body with a wrong part is no job's
pub job_at-none : (at priority : ℕ) (body : List ℕ)
    → (QUEUES ≤ get_or body 9 0) ⊎ ((PAYLOAD_CAPACITY < length_in at body) ⊎ (is_blank (drop (at + 2 + length_in at body) body) ≡ false))
    → job_at at priority body ≡ None
unfolding job_at
job_at-none at priority body wrong =
    one_fails (nat_lt (get_or body 9 0) QUEUES) (nat_le (length_in at body) PAYLOAD_CAPACITY)
    (is_blank (drop (at + 2 + length_in at body) body))
    (job_with (id_in body) (get_or body 9 0) priority (take (length_in at body) (drop (at + 2) body)))
    (⊎_elim
    (λ h. inl (grind (arith, nat_tests, h)))
    (λ o. inr (⊎_elim (λ h. inl (grind (arith, nat_tests, h))) (λ h. inr h) o))
    wrong)

-- the bytes before a payload
abbrev head_of : ℕ → ℕ → ℕ → ℕ → ℕ → List ℕ → List ℕ
head_of kind id queue priority n rest = kind ∷ (to_be_bytes w64 id ++ queue ∷ priority ∷ (to_be_bytes w16 n ++ rest))

pub job_of-job_bytes : (kind : ℕ) (job : Job) → job.id < 2 ^ 64 → job.work.queue < QUEUES → length job.work.payload ≤ PAYLOAD_CAPACITY
    → job_of (job_bytes kind job) ≡ Some job
job_of-job_bytes kind job fits low short =
    let n = length job.work.payload in
    let zeros = drop n (replicate 499 0) in
    let body = job_bytes kind job in
    let size : length_in 11 body ≡ n = from_be_bytes-to_be_bytes_2 n (omega (arith, short)) in
    let behind : drop (13 + n) body ≡ zeros = drop_at (head_of kind job.id job.work.queue job.work.priority n job.work.payload) zeros
    (13 + n) (omega arith) in
    let empty : is_blank (drop (13 + length_in 11 body) body) ≡ true =
    ap (λ k. is_blank (drop (13 + k) body)) size ∙ ap is_blank behind ∙ ap is_blank (drop-replicate n 499 0) ∙ blank (499 - n) in
    let payload : take (length_in 11 body) (job.work.payload ++ zeros) ≡ job.work.payload =
    ap (λ k. take k (job.work.payload ++ zeros)) size ∙ take_at job.work.payload zeros n refl in
    job_at-parts 11 job.work.priority body job (from_be_bytes-to_be_bytes_8 job.id fits) refl refl size payload low short empty

pub old_job_of-old_job_bytes : (kind : ℕ) (job : Job) → job.id < 2 ^ 64 → job.work.queue < QUEUES
    → length job.work.payload ≤ PAYLOAD_CAPACITY → job.work.priority ≡ 0
    → old_job_of (old_job_bytes kind job) ≡ Some job
old_job_of-old_job_bytes kind job fits low short least =
    let n = length job.work.payload in
    let zeros = drop n (replicate 500 0) in
    let body = old_job_bytes kind job in
    let size : length_in 10 body ≡ n = from_be_bytes-to_be_bytes_2 n (omega (arith, short)) in
    let behind : drop (12 + n) body ≡ zeros =
    drop_at (kind ∷ (to_be_bytes w64 job.id ++ job.work.queue ∷ (to_be_bytes w16 n ++ job.work.payload))) zeros (12 + n) (omega arith) in
    let empty : is_blank (drop (12 + length_in 10 body) body) ≡ true =
    ap (λ k. is_blank (drop (12 + k) body)) size ∙ ap is_blank behind ∙ ap is_blank (drop-replicate n 500 0) ∙ blank (500 - n) in
    let payload : take (length_in 10 body) (job.work.payload ++ zeros) ≡ job.work.payload =
    ap (λ k. take k (job.work.payload ++ zeros)) size ∙ take_at job.work.payload zeros n refl in
    job_at-parts 10 0 body job (from_be_bytes-to_be_bytes_8 job.id fits) refl (sym least) size payload low short empty

-- the job of the parts that were read
pub job_at-read : (at priority : ℕ) (body : List ℕ) (len : ℕ) (job : Job) → length body ≡ 512 → at ≤ 11 → len ≡ length_in at body
    → job.id ≡ id_in body
    → job.work.queue ≡ get_or body 9 0 → job.work.priority ≡ priority → job.work.payload ≡ take len (drop (at + 2) body)
    → (QUEUES ≤ get_or body 9 0 → ⊥) → len ≤ PAYLOAD_CAPACITY
    → is_blank (drop (at + 2 + len) body) ≡ true → job_at at priority body ≡ Some job
job_at-read at priority body len job long near size id queue same payload low short empty =
    let all : length job.work.payload ≡ len = omega (
      arith,
      ap length payload,
      length-take len (drop (at + 2) body),
      length-drop (at + 2) body,
      long,
      near,
      short,
    ) in
    job_at-parts at priority body job (sym id) (sym queue) (sym same) (sym size ∙ sym all)
    (ap (λ k. take k (drop (at + 2) body)) (sym size) ∙ sym payload) (omega (arith, queue, low))
    (omega (arith, all, short)) (ap (λ k. is_blank (drop (at + 2 + k) body)) (sym size) ∙ empty)
