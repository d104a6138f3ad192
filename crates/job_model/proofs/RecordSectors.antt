-- A sector that reads as a record is the one that is written for it.
use Rattle.std.proofs.Common.{◌≡◌, ◌<◌, ◌≤◌, ◌+◌, ◌-◌, ◌⊎◌, inl, inr, ⊎_elim, ℕ, zero, suc, List, [], ◌∷◌, ◌++◌, take, drop, length}
use Rattle.std.proofs.Common.{replicate, get_or, Bool, true, false, not, cond, count_by, ◌==◌, ◌&&◌, nat_lt, nat_le, Option, Some, None}
use Rattle.std.proofs.Common.{sym, ◌∙◌, ap, subst, refl, arith, if◌then◌else◌}
use Rattle.std.specs.Int.{from_be_bytes, to_be_bytes, w64, w16}
use Rattle.std.proofs.lemmas.Bool.Decides.{nat_tests}
use Rattle.std.proofs.lemmas.Nat.{be_bytes_8, be_bytes_2}
use Rattle.std.proofs.lemmas.List.{take-append-drop, drop-drop, drop-replicate, length-take, length-drop}
use Rattle.std.proofs.lemmas.List.Sums.{sum_by-cons}
use Rattle.disk_layout.specs.Blank.{is_blank}
use Rattle.job_model.specs.declared.job.Job.{Job}
use Rattle.job_model.specs.declared.payload.TheConstants.{PAYLOAD_CAPACITY}
use Rattle.job_model.specs.declared.queue.TheConstants.{QUEUES}
use Rattle.job_model.specs.declared.record.Record.{Record}
use Rattle.job_model.specs.declared.record.Record.TheVariants.{Put, Done, Base, Keep}
use Rattle.job_model.specs.Records.{id_in, length_in, number_of, job_at, job_of, old_job_of, record_by, record_of, number_bytes}
use Rattle.job_model.specs.Records.{payload_bytes, job_bytes, old_job_bytes, bytes_of, IsOld, IsOldOf, AllBytes}

take_same : (n k : ℕ) (xs : List ℕ) → k < n → get_or (take n xs) k 0 ≡ get_or xs k 0
take_same zero k xs lt = absurd (omega (arith, lt))
take_same (suc n) k [] lt = refl
take_same (suc n) zero (x ∷ xs) lt = refl
take_same (suc n) (suc k) (x ∷ xs) lt = take_same n k xs (omega (arith, lt))

small_take : (n : ℕ) (xs : List ℕ) → AllBytes xs → AllBytes (take n xs)
small_take zero xs small i = omega arith
small_take (suc n) [] small i = small i
small_take (suc n) (x ∷ xs) small zero = small zero
small_take (suc n) (x ∷ xs) small (suc i) = small_take n xs (λ k. small (suc k)) i

small_drop : (n : ℕ) (xs : List ℕ) → AllBytes xs → AllBytes (drop n xs)
small_drop zero xs small = small
small_drop (suc n) [] small = small
small_drop (suc n) (x ∷ xs) small = small_drop n xs (λ k. small (suc k))

head_is : (n : ℕ) (xs : List ℕ) → n < length xs → drop n xs ≡ get_or xs n 0 ∷ drop (suc n) xs
head_is n [] lt = absurd (omega (arith, lt))
head_is zero (x ∷ xs) lt = refl
head_is (suc n) (x ∷ xs) lt = head_is n xs (omega (arith, lt))

-- how many aren't zero
abbrev marked : List ℕ → ℕ
marked xs = count_by (λ byte. not (byte == 0)) xs

none_of : (n : ℕ) → (n == 0) ≡ true → n ≡ 0
none_of n is = grind (arith, nat_tests, is)

zeros_are : (xs : List ℕ) → is_blank xs ≡ true → xs ≡ replicate (length xs) 0
zeros_are [] blank = refl
zeros_are (zero ∷ xs) blank = ap (λ r. 0 ∷ r) (zeros_are xs blank)
zeros_are (suc x ∷ xs) blank =
    let other : (suc x == 0) ≡ false = grind (arith, nat_tests) in
    let one : marked (suc x ∷ xs) ≡ 1 + marked xs =
    sum_by-cons (λ byte. cond (not (byte == 0)) 1 0) (suc x) xs ∙ ap (λ b. cond (not b) 1 0 + marked xs) other in
    let none : marked (suc x ∷ xs) ≡ 0 = none_of (marked (suc x ∷ xs)) blank in
    absurd (omega (arith, one, none))

-- the number in the first eight bytes is written as they stand there
eight_read : (xs : List ℕ) → AllBytes xs → 8 ≤ length xs → to_be_bytes w64 (from_be_bytes w64 xs) ≡ take 8 xs
eight_read xs small long =
    be_bytes_8 (take 8 xs) (from_be_bytes w64 xs) (omega (arith, length-take 8 xs, long)) (small_take 8 xs small)
    (omega (
      arith,
      take_same 8 0 xs (omega arith),
      take_same 8 1 xs (omega arith),
      take_same 8 2 xs (omega arith),
      take_same 8 3 xs (omega arith),
      take_same 8 4 xs (omega arith),
      take_same 8 5 xs (omega arith),
      take_same 8 6 xs (omega arith),
      take_same 8 7 xs (omega arith),
    ))

two_read : (xs : List ℕ) → AllBytes xs → 2 ≤ length xs → to_be_bytes w16 (from_be_bytes w16 xs) ≡ take 2 xs
two_read xs small long =
    be_bytes_2 (take 2 xs) (from_be_bytes w16 xs) (omega (arith, length-take 2 xs, long)) (small_take 2 xs small)
    (omega (arith, take_same 2 0 xs (omega arith), take_same 2 1 xs (omega arith)))

-- the kind and the number behind it
front : (body : List ℕ) → length body ≡ 512 → AllBytes body → body ≡ get_or body 0 0 ∷ (to_be_bytes w64 (id_in body) ++ drop 9 body)
front body long small =
    let number = eight_read (drop 1 body) (small_drop 1 body small) (omega (arith, length-drop 1 body, long)) in
    head_is 0 body (omega (arith, long))
    ∙ ap (λ t. get_or body 0 0 ∷ t)
    (sym (take-append-drop 8 (drop 1 body)) ∙ ap (λ t. t ++ drop 8 (drop 1 body)) (sym number)
    ∙ ap (λ t. to_be_bytes w64 (id_in body) ++ t) (drop-drop 8 1 body))

pub number_is : (body : List ℕ) (number : ℕ) → length body ≡ 512 → AllBytes body → number_of body ≡ Some number
    → body ≡ number_bytes (get_or body 0 0) number
unfolding number_of
number_is body number long small is = by_blank (is_blank (drop 9 body)) refl
  where
    by_blank : (blank : Bool) → is_blank (drop 9 body) ≡ blank → body ≡ number_bytes (get_or body 0 0) number
    by_blank false other =
        let none : None ≡ Some number = sym (ap (λ b. if b then Some (id_in body) else None) other) ∙ is in
        cc
    by_blank true blank =
        let some : Some (id_in body) ≡ Some number = sym (ap (λ b. if b then Some (id_in body) else None) blank) ∙ is in
        let same : id_in body ≡ number = cc in
        let rest : length (drop 9 body) ≡ 503 = omega (arith, length-drop 9 body, long) in
        front body long small
        ∙ ap (λ t. get_or body 0 0 ∷ (to_be_bytes w64 (id_in body) ++ t)) (zeros_are (drop 9 body) blank ∙ ap (λ k. replicate k 0) rest)
        ∙ ap (λ i. number_bytes (get_or body 0 0) i) same

-- the length, the payload and the zeros
behind : (at : ℕ) (body : List ℕ) → length body ≡ 512 → AllBytes body → at ≤ 11 → length_in at body ≤ PAYLOAD_CAPACITY
    → is_blank (drop (at + 2 + length_in at body) body) ≡ true
    → drop at body ≡ payload_bytes (510 - at) (take (length_in at body) (drop (at + 2) body))
behind at body long small near short blank =
    let n = length_in at body in
    let p = take n (drop (at + 2) body) in
    let size = two_read (drop at body) (small_drop at body small) (omega (arith, length-drop at body, long, near)) in
    let rest : length (drop (at + 2 + n) body) ≡ 510 - at - n = omega (arith, length-drop (at + 2 + n) body, long, near, short) in
    let zeros : drop n (drop (at + 2) body) ≡ drop n (replicate (510 - at) 0) =
    drop-drop n (at + 2) body ∙ zeros_are (drop (at + 2 + n) body) blank ∙ ap (λ k. replicate k 0) rest
    ∙ sym (drop-replicate n (510 - at) 0) in
    let whole : n ≡ length p = omega (arith, length-take n (drop (at + 2) body), length-drop (at + 2) body, long, near, short) in
    sym (take-append-drop 2 (drop at body)) ∙ ap (λ t. t ++ drop 2 (drop at body)) (sym size)
    ∙ ap (λ t. to_be_bytes w16 n ++ t) (drop-drop 2 at body ∙ sym (take-append-drop n (drop (at + 2) body)) ∙ ap (λ t. p ++ t) zeros)
    ∙ ap (λ k. to_be_bytes w16 k ++ (p ++ drop k (replicate (510 - at) 0))) whole

-- what a body that reads as a job is read as
abbrev job_read_at : ℕ → ℕ → List ℕ → Job
job_read_at at priority body = record {
  id = id_in body;
  work =
      record { queue = get_or body 9 0; priority = priority; payload = take (length_in at body) (drop (at + 2) body) };
}

job_at_is : (at priority : ℕ) (body : List ℕ) (job : Job) → length body ≡ 512 → AllBytes body → at ≤ 11 → job_at at priority body ≡ Some job
    → (job_read_at at priority body ≡ job) × (drop at body ≡ payload_bytes (510 - at) job.work.payload)
unfolding job_at
job_at_is at priority body job long small near is =
    by_tests (nat_lt (get_or body 9 0) QUEUES) (nat_le (length_in at body) PAYLOAD_CAPACITY)
    (is_blank (drop (at + 2 + length_in at body) body)) refl refl is
  where
    by_tests : (low short blank : Bool) → nat_le (length_in at body) PAYLOAD_CAPACITY ≡ short
        → is_blank (drop (at + 2 + length_in at body) body) ≡ blank
        → (if low && short && blank then Some (job_read_at at priority body) else None) ≡ Some job
        → (job_read_at at priority body ≡ job) × (drop at body ≡ payload_bytes (510 - at) job.work.payload)
    by_tests true true true short blank r =
        let same : job_read_at at priority body ≡ job = cc in (
          same,
          behind at body long small near (grind (arith, nat_tests, short)) blank
              ∙ ap (λ (j : Job). payload_bytes (510 - at) j.work.payload) same,
        )
    by_tests true true false short blank r = cc
    by_tests true false b short blank r = cc
    by_tests false s b short blank r = cc

pub old_job_is : (body : List ℕ) (job : Job) → length body ≡ 512 → AllBytes body → old_job_of body ≡ Some job
    → (job.work.priority ≡ 0) × (body ≡ old_job_bytes (get_or body 0 0) job)
old_job_is body job long small is =
    let read = job_at_is 10 0 body job long small (omega arith) is in
    let id : id_in body ≡ job.id = ap (λ (j : Job). j.id) read.0 in
    let queue : get_or body 9 0 ≡ job.work.queue = ap (λ (j : Job). j.work.queue) read.0 in (
      ap (λ (j : Job). j.work.priority) (sym read.0),
      front body long small
          ∙ ap (λ t. get_or body 0 0 ∷ (to_be_bytes w64 (id_in body) ++ t))
          (head_is 9 body (omega (arith, long)) ∙ ap (λ t. get_or body 9 0 ∷ t) read.1)
          ∙ ap (λ i. get_or body 0 0 ∷ (to_be_bytes w64 i ++ get_or body 9 0 ∷ payload_bytes 500 job.work.payload)) id
          ∙ ap (λ q. get_or body 0 0 ∷ (to_be_bytes w64 job.id ++ q ∷ payload_bytes 500 job.work.payload)) queue,
    )

pub job_is : (body : List ℕ) (job : Job) → length body ≡ 512 → AllBytes body → job_of body ≡ Some job
    → body ≡ job_bytes (get_or body 0 0) job
job_is body job long small is =
    let read = job_at_is 11 (get_or body 10 0) body job long small (omega arith) is in
    let id : id_in body ≡ job.id = ap (λ (j : Job). j.id) read.0 in
    let queue : get_or body 9 0 ≡ job.work.queue = ap (λ (j : Job). j.work.queue) read.0 in
    let priority : get_or body 10 0 ≡ job.work.priority = ap (λ (j : Job). j.work.priority) read.0 in
    front body long small
    ∙ ap (λ t. get_or body 0 0 ∷ (to_be_bytes w64 (id_in body) ++ t))
    (head_is 9 body (omega (arith, long)) ∙ ap (λ t. get_or body 9 0 ∷ t) (head_is 10 body (omega (arith, long))
    ∙ ap (λ t. get_or body 10 0 ∷ t) read.1))
    ∙ ap (λ i. get_or body 0 0 ∷ (to_be_bytes w64 i ++ get_or body 9 0 ∷ get_or body 10 0 ∷ payload_bytes 499 job.work.payload)) id
    ∙ ap (λ q. get_or body 0 0 ∷ (to_be_bytes w64 job.id ++ q ∷ get_or body 10 0 ∷ payload_bytes 499 job.work.payload)) queue
    ∙ ap (λ r. get_or body 0 0 ∷ (to_be_bytes w64 job.id ++ job.work.queue ∷ r ∷ payload_bytes 499 job.work.payload)) priority

-- a body is that of the record, or an old one of it
abbrev IsSpelled : List ℕ → Record → Type 0
IsSpelled body r = (body ≡ bytes_of r) ⊎ IsOldOf body r

put_is : (body : List ℕ) (job : Job) (r : Record) → Put job ≡ r → body ≡ job_bytes 5 job → IsSpelled body r
put_is body job r same is = subst (λ r. IsSpelled body r) same (inl is)

keep_is : (body : List ℕ) (job : Job) (r : Record) → Keep job ≡ r → body ≡ job_bytes 6 job → IsSpelled body r
keep_is body job r same is = subst (λ r. IsSpelled body r) same (inl is)

old_put_is : (body : List ℕ) (job : Job) (r : Record) → Put job ≡ r → (job.work.priority ≡ 0) × (body ≡ old_job_bytes 1 job)
    → IsSpelled body r
old_put_is body job r same is = subst (λ r. IsSpelled body r) same (inr is)

old_keep_is : (body : List ℕ) (job : Job) (r : Record) → Keep job ≡ r → (job.work.priority ≡ 0) × (body ≡ old_job_bytes 4 job)
    → IsSpelled body r
old_keep_is body job r same is = subst (λ r. IsSpelled body r) same (inr is)

done_is : (body : List ℕ) (n : ℕ) (r : Record) → Done n ≡ r → body ≡ number_bytes 2 n → IsSpelled body r
done_is body n r same is = subst (λ r. IsSpelled body r) same (inl is)

base_is : (body : List ℕ) (n : ℕ) (r : Record) → Base n ≡ r → body ≡ number_bytes 3 n → IsSpelled body r
base_is body n r same is = subst (λ r. IsSpelled body r) same (inl is)

by_kind : (body : List ℕ) (kind : ℕ) (old job : Option Job) (number : Option ℕ) (r : Record) → record_by kind old job number ≡ Some r
    → ((j : Job) → old ≡ Some j → (j.work.priority ≡ 0) × (body ≡ old_job_bytes kind j))
    → ((j : Job) → job ≡ Some j → body ≡ job_bytes kind j)
    → ((n : ℕ) → number ≡ Some n → body ≡ number_bytes kind n) → IsSpelled body r
by_kind body zero old job number r is olds jobs numbers = cc
by_kind body (suc zero) None job number r is olds jobs numbers = cc
by_kind body (suc zero) (Some j) job number r is olds jobs numbers = let same : Put j ≡ r = cc in old_put_is body j r same (olds j refl)
by_kind body (suc (suc zero)) old job None r is olds jobs numbers = cc
by_kind body (suc (suc zero)) old job (Some n) r is olds jobs numbers = let same : Done n ≡ r = cc in done_is body n r same (numbers n refl)
by_kind body (suc (suc (suc zero))) old job None r is olds jobs numbers = cc
by_kind body (suc (suc (suc zero))) old job (Some n) r is olds jobs numbers = let same : Base n ≡ r = cc in
    base_is body n r same (numbers n refl)
by_kind body (suc (suc (suc (suc zero)))) None job number r is olds jobs numbers = cc
by_kind body (suc (suc (suc (suc zero)))) (Some j) job number r is olds jobs numbers = let same : Keep j ≡ r = cc in
    old_keep_is body j r same (olds j refl)
by_kind body (suc (suc (suc (suc (suc zero))))) old None number r is olds jobs numbers = cc
by_kind body (suc (suc (suc (suc (suc zero))))) old (Some j) number r is olds jobs numbers = let same : Put j ≡ r = cc in
    put_is body j r same (jobs j refl)
by_kind body (suc (suc (suc (suc (suc (suc zero)))))) old None number r is olds jobs numbers = cc
by_kind body (suc (suc (suc (suc (suc (suc zero)))))) old (Some j) number r is olds jobs numbers = let same : Keep j ≡ r = cc in
    keep_is body j r same (jobs j refl)
by_kind body (suc (suc (suc (suc (suc (suc (suc k))))))) old job number r is olds jobs numbers =
    let a : (suc (suc (suc (suc (suc (suc (suc k)))))) == 1) ≡ false = grind (arith, nat_tests) in
    let b : (suc (suc (suc (suc (suc (suc (suc k)))))) == 2) ≡ false = grind (arith, nat_tests) in
    let c : (suc (suc (suc (suc (suc (suc (suc k)))))) == 3) ≡ false = grind (arith, nat_tests) in
    let d : (suc (suc (suc (suc (suc (suc (suc k)))))) == 4) ≡ false = grind (arith, nat_tests) in
    let e : (suc (suc (suc (suc (suc (suc (suc k)))))) == 5) ≡ false = grind (arith, nat_tests) in
    let f : (suc (suc (suc (suc (suc (suc (suc k)))))) == 6) ≡ false = grind (arith, nat_tests) in
    cc

pub sector_is : (sector : List ℕ) (r : Record) → length sector ≡ 512 → AllBytes sector → record_of sector ≡ Some r → IsSpelled sector r
unfolding record_of
sector_is sector r long small is =
    by_kind sector (get_or sector 0 0) (old_job_of sector) (job_of sector) (number_of sector) r is
    (λ j e. old_job_is sector j long small e) (λ j e. job_is sector j long small e) (λ n e. number_is sector n long small e)

kind_of : (kind : ℕ) → (kind ≡ 1) ⊎ (kind ≡ 4) → (kind ≡ 1 → ⊥) → (kind ≡ 4 → ⊥) → ⊥
kind_of kind old one four = ⊎_elim one four old

pub never_old : (written : Record) → IsOld (bytes_of written) → ⊥
never_old (Put job) old = kind_of 5 old (λ e. omega (arith, e)) (λ e. omega (arith, e))
never_old (Done id) old = kind_of 2 old (λ e. omega (arith, e)) (λ e. omega (arith, e))
never_old (Base next) old = kind_of 3 old (λ e. omega (arith, e)) (λ e. omega (arith, e))
never_old (Keep job) old = kind_of 6 old (λ e. omega (arith, e)) (λ e. omega (arith, e))
