-- Payloads that are put together again, and rows whose payloads stay where more stand behind.
use Rattle.std.proofs.Common.{◌≡◌, Bool, true, false, cond, if◌then◌else◌, ℕ, suc, ◌+◌, ◌-◌, ◌*◌, ◌<◌, ◌≤◌, List, [], ◌∷◌, ◌++◌, length}
use Rattle.std.proofs.Common.{take, drop, map, All, refl, sym, ap, subst, ◌∙◌, arith}
use Rattle.std.proofs.lemmas.List.{map-append, append_assoc, length-append, take-append-le, drop-append-le, drop-drop, length-drop}
use Rattle.std.proofs.lemmas.List.{length-take, take_all, get_or-drop, take-map, drop-map, get_or-set_same, take-set, drop-set-lt}
use Rattle.std.proofs.lemmas.List.{length-set}
use Rattle.std.proofs.Math.Seq.{drop-append_seam, take-suc}
use Rattle.std.proofs.Math.ListN.{get_or, set}
use Rattle.std.specs.List.{filter, slice_range}
use Rattle.std.proofs.lemmas.List.Elements.{All-head, All-tail, All-push, All-weaker, All-get_or}
use Rattle.job_model.specs.declared.payload.TheConstants.{PAYLOAD_CAPACITY}
use Rattle.job_model.specs.declared.job_list.PackedJob.{PackedJob}
use Rattle.job_model.specs.JobLists.{payload_in, kept_in, HasPayload}
use Rattle.job_model.specs.declared.kept_job.KeptJob.{KeptJob}
use Rattle.job_model.specs.declared.gap.Gap.{Gap}
use Rattle.job_model.specs.Gaps.{beside, IsWithin}
use Rattle.job_model.proofs.Gapped.{beside_more}

pub chosen : {A : Type 0} (b : Bool) (x y z : A) → z ≡ if b then x else y → b ≡ true → z ≡ x
chosen b x y z is ok = is ∙ ap (λ c. if c then x else y) ok

pub payload_same : (p more : List ℕ) (row : PackedJob) → HasPayload (length p) row → payload_in (p ++ more) row ≡ payload_in p row
payload_same p more row h =
    ap (λ (xs : List ℕ). take row.len xs) (drop-append-le row.start p more (omega (arith, h.within)))
    ∙ take-append-le row.len (drop row.start p) more (omega (arith, h.within, length-drop row.start p))

-- a row with this payload
abbrev pub kept_with : PackedJob → List ℕ → KeptJob
kept_with row payload = record {
  origin = row.origin;
  job =
      record { id = row.id; work = record { queue = row.queue; priority = row.priority; payload = payload } };
}

pub rows_same : (p more : List ℕ) (rows : List PackedJob) → All (HasPayload (length p)) rows
    → map (kept_in (p ++ more)) rows ≡ map (kept_in p) rows
rows_same p more [] h = refl
rows_same p more (row ∷ rows) h =
    ap (λ (xs : List ℕ). kept_with row xs ∷ map (kept_in (p ++ more)) rows)
    (payload_same p more row (All-head (HasPayload (length p)) row rows h))
    ∙ ap (λ (ks : List KeptJob). kept_in p row ∷ ks) (rows_same p more rows (All-tail (HasPayload (length p)) row rows h))

pub payload_again : (p payload : List ℕ) → take (length payload) (drop (length p) (p ++ payload)) ≡ payload
payload_again p payload =
    ap (λ (xs : List ℕ). take (length payload) xs) (drop-append_seam p payload) ∙ take_all (length payload) payload (omega arith)

pub longer : (p more : List ℕ) (row : PackedJob) → HasPayload (length p) row → HasPayload (length (p ++ more)) row
longer p more row h = record { within = omega (arith, h.within, length-append p more); fits = h.fits }

pub all_longer : (p more : List ℕ) (rows : List PackedJob) → All (HasPayload (length p)) rows → All (HasPayload (length (p ++ more))) rows
all_longer p more rows h = All-weaker (HasPayload (length p)) (HasPayload (length (p ++ more))) (longer p more) rows h

-- one row more, whose payload comes behind all others
pub rows_more : (p payload : List ℕ) (rows : List PackedJob) (row : PackedJob) → All (HasPayload (length p)) rows → row.start ≡ length p
    → row.len ≡ length payload
    → map (kept_in (p ++ payload)) (rows ++ row ∷ []) ≡ map (kept_in p) rows ++ kept_with row payload ∷ []
rows_more p payload rows row h start len =
    map-append (kept_in (p ++ payload)) rows (row ∷ [])
    ∙ ap (λ (ks : List KeptJob). ks ++ kept_in (p ++ payload) row ∷ []) (rows_same p payload rows h)
    ∙ ap (λ (xs : List ℕ). map (kept_in p) rows ++ kept_with row xs ∷ []) (rw (start, len) (payload_again p payload))

pub all_more : (p payload : List ℕ) (rows : List PackedJob) (row : PackedJob) → All (HasPayload (length p)) rows → row.start ≡ length p
    → row.len ≡ length payload
    → length payload ≤ PAYLOAD_CAPACITY → All (HasPayload (length (p ++ payload))) (rows ++ row ∷ [])
all_more p payload rows row h start len few =
    All-push (HasPayload (length (p ++ payload))) rows row (all_longer p payload rows h)
    (record { within = omega (arith, start, len, length-append p payload); fits = omega (arith, len, few) })

-- so many payloads of the rows stand behind all others, and the first rows say where
pub record IsRepacking (before after : List ℕ) (rows items : List PackedJob) (i : ℕ) : Type 0 where
  pub front : after ≡ before ++ drop (length before) after
  pub moved : map (kept_in (drop (length before) after)) (take i items) ≡ map (kept_in before) (take i rows)
  pub read : All (HasPayload (length (drop (length before) after))) (take i items)
  pub left : drop i items ≡ drop i rows
  pub few : length after ≤ length before + PAYLOAD_CAPACITY * i
  pub count : length items ≡ length rows

-- a row whose payload begins elsewhere
abbrev pub moved_to : PackedJob → ℕ → PackedJob
moved_to row start = record { id = row.id; start = start; len = row.len; queue = row.queue; priority = row.priority; origin = row.origin }

same_at : (items rows : List PackedJob) (i : ℕ) (d : PackedJob) → drop i items ≡ drop i rows → get_or items i d ≡ get_or rows i d
same_at items rows i d same =
    let at : i + 0 ≡ i = omega arith in
    ap (λ k. get_or items k d) (sym at) ∙ sym (get_or-drop i items 0 d) ∙ ap (λ xs. get_or xs 0 d) same ∙ get_or-drop i rows 0 d
    ∙ ap (λ k. get_or rows k d) at

pub row_there : (before after : List ℕ) (rows items : List PackedJob) (i : ℕ) (d : PackedJob) → All (HasPayload (length before)) rows
    → IsRepacking before after rows items i → i < length items
    → HasPayload (length before) (get_or items i d)
row_there before after rows items i d all p within =
    subst (HasPayload (length before)) (sym (same_at items rows i d p.left))
    (All-get_or (HasPayload (length before)) rows i d (omega (arith, within, p.count)) all)

pub is_behind : (before after : List ℕ) (rows items : List PackedJob) (i : ℕ) → IsRepacking before after rows items i
    → length before ≤ length after
is_behind before after rows items i p = omega (
  arith,
  ap (λ (xs : List ℕ). length xs) p.front,
  length-append before (drop (length before) after),
)

-- what the row says is there
pub reads_within : (before after : List ℕ) (rows items : List PackedJob) (i : ℕ) (d : PackedJob) → All (HasPayload (length before)) rows
    → IsRepacking before after rows items i → i < length items
    → (get_or items i d).start + (get_or items i d).len ≤ length after
reads_within before after rows items i d all p within = omega (
  arith,
  (row_there before after rows items i d all p within).within,
  is_behind before after rows items i p,
)

-- there is room for one payload more
pub reads_few : (before after : List ℕ) (rows items : List PackedJob) (i : ℕ) (d : PackedJob) → All (HasPayload (length before)) rows
    → IsRepacking before after rows items i → i < length items
    → length after + (get_or items i d).len ≤ length before + PAYLOAD_CAPACITY * length rows
reads_few before after rows items i d all p within = omega (
  arith,
  (row_there before after rows items i d all p within).fits,
  p.few,
  p.count,
  within,
)

range_is : (before after : List ℕ) (row : PackedJob) → after ≡ before ++ drop (length before) after → HasPayload (length before) row
    → slice_range after row.start (row.start + row.len) ≡ payload_in before row
range_is before after row front h =
    let long : row.start + row.len - row.start ≡ row.len = omega arith in
    ap (λ n. take n (drop row.start after)) long
    ∙ ap (λ xs. payload_in xs row) front
    ∙ payload_same before (drop (length before) after) row h

payload_long : (before : List ℕ) (row : PackedJob) → HasPayload (length before) row → row.len ≡ length (payload_in before row)
payload_long before row h = omega (arith, h.within, length-take row.len (drop row.start before), length-drop row.start before)

pub repacked_more : (before after : List ℕ) (rows items : List PackedJob) (i : ℕ) (d : PackedJob) → All (HasPayload (length before)) rows
    → IsRepacking before after rows items i → i < length items
    → IsRepacking before (after ++ slice_range after (get_or items i d).start ((get_or items i d).start + (get_or items i d).len)) rows
    (set items i (moved_to (get_or items i d) (length after - length before))) (i + 1)
repacked_more before after rows items i d all p within =
    let x = get_or items i d in
    let m = drop (length before) after in
    let xs = payload_in before x in
    let y = moved_to x (length after - length before) in
    let hx : HasPayload (length before) x = row_there before after rows items i d all p within in
    let range : slice_range after x.start (x.start + x.len) ≡ xs = range_is before after x p.front hx in
    let len : y.len ≡ length xs = payload_long before x hx in
    let start : y.start ≡ length m = sym (length-drop (length before) after) in
    let behind : drop (length before) (after ++ xs) ≡ m ++ xs =
    drop-append-le (length before) after xs (is_behind before after rows items i p) in
    let next : i + 1 ≡ suc i = omega arith in
    let taken : take (i + 1) (set items i y) ≡ take i items ++ y ∷ [] =
    ap (λ k. take k (set items i y)) next
    ∙ take-suc (set items i y) i d (omega (arith, within, length-set items i y))
    ∙ ap (λ rs. rs ++ get_or (set items i y) i d ∷ []) (take-set items i y)
    ∙ ap (λ r. take i items ++ r ∷ []) (get_or-set_same items i y d within) in
    let taken_rows : take (i + 1) rows ≡ take i rows ++ x ∷ [] =
    ap (λ k. take k rows) next
    ∙ take-suc rows i d (omega (arith, within, p.count))
    ∙ ap (λ r. take i rows ++ r ∷ []) (sym (same_at items rows i d p.left)) in
    let few : length xs ≤ PAYLOAD_CAPACITY = omega (arith, len, hx.fits) in
    subst (λ (bytes : List ℕ). IsRepacking before (after ++ bytes) rows (set items i y) (i + 1)) (sym range) (record {
      front = ap (λ (zs : List ℕ). zs ++ xs) p.front ∙ append_assoc before m xs ∙ ap (λ (zs : List ℕ). before ++ zs) (sym behind);
      moved = ap (λ (zs : List ℕ). map (kept_in zs) (take (i + 1) (set items i y))) behind
          ∙ ap (λ rs. map (kept_in (m ++ xs)) rs) taken
          ∙ rows_more m xs (take i items) y p.read start len
          ∙ ap (λ ks. ks ++ kept_in before x ∷ []) p.moved
          ∙ sym (map-append (kept_in before) (take i rows) (x ∷ []))
          ∙ ap (λ rs. map (kept_in before) rs) (sym taken_rows);
      read = subst (λ (zs : List ℕ). All (HasPayload (length zs)) (take (i + 1) (set items i y))) (sym behind)
          (subst (λ rs. All (HasPayload (length (m ++ xs))) rs) (sym taken) (all_more m xs (take i items) y p.read start len few));
      left = drop-set-lt (i + 1) items i y (omega arith)
          ∙ sym (drop-drop 1 i items) ∙ ap (λ rs. drop 1 rs) p.left ∙ drop-drop 1 i rows;
      few = omega (arith, length-append after xs, few, p.few);
      count = length-set items i y ∙ p.count;
    })

pub repacked_as : (before after new : List ℕ) (rows items : List PackedJob) (i n s : ℕ) (d : PackedJob)
    → All (HasPayload (length before)) rows → IsRepacking before after rows items i → i < length items
    → new ≡ after ++ slice_range after (get_or items i d).start ((get_or items i d).start + n) → n ≡ (get_or items i d).len
    → s ≡ length after - length before
    → IsRepacking before new rows (set items i (moved_to (get_or items i d) s)) (i + 1)
repacked_as before after new rows items i n s d all p within is len start =
    let x = get_or items i d in
    subst (λ k. IsRepacking before new rows (set items i (moved_to x k)) (i + 1)) (sym start)
    (subst (λ ys. IsRepacking before ys rows (set items i (moved_to x (length after - length before))) (i + 1))
    (sym (is ∙ ap (λ k. after ++ slice_range after x.start (x.start + k)) len))
    (repacked_more before after rows items i d all p within))

-- the jobs of a list, with one more behind them
pub pushed : (p payload bytes : List ℕ) (rows more : List PackedJob) (row : PackedJob) (gap : Gap)
    → All (HasPayload (length p)) (beside gap rows) → IsWithin gap (length rows)
    → more ≡ rows ++ row ∷ [] → bytes ≡ p ++ payload → row.start ≡ length p → row.len ≡ length payload
    → map (kept_in bytes) (beside gap more) ≡ map (kept_in p) (beside gap rows) ++ kept_with row payload ∷ []
pushed p payload bytes rows more row gap all within is long start len =
    ap (λ rs. map (kept_in bytes) (beside gap rs)) is
    ∙ ap (λ rs. map (kept_in bytes) rs) (beside_more gap rows row within)
    ∙ ap (λ (zs : List ℕ). map (kept_in zs) (beside gap rows ++ row ∷ [])) long
    ∙ rows_more p payload (beside gap rows) row all start len

pub pushed_read : (p payload bytes : List ℕ) (rows more : List PackedJob) (row : PackedJob) (gap : Gap)
    → All (HasPayload (length p)) (beside gap rows) → IsWithin gap (length rows)
    → more ≡ rows ++ row ∷ [] → bytes ≡ p ++ payload → row.start ≡ length p → row.len ≡ length payload → length payload ≤ PAYLOAD_CAPACITY
    → All (HasPayload (length bytes)) (beside gap more)
pushed_read p payload bytes rows more row gap all within is long start len few =
    subst (λ (zs : List ℕ). All (HasPayload (length zs)) (beside gap more)) (sym long)
    (subst (λ rs. All (HasPayload (length (p ++ payload))) (beside gap rs)) (sym is)
    (subst (λ rs. All (HasPayload (length (p ++ payload))) rs) (sym (beside_more gap rows row within))
    (all_more p payload (beside gap rows) row all start len few)))

pub pushed_within : (rows more : List PackedJob) (row : PackedJob) (gap : Gap) → IsWithin gap (length rows) → more ≡ rows ++ row ∷ []
    → IsWithin gap (length more)
pushed_within rows more row gap within is = record {
  order = within.order;
  behind = omega (arith, within.behind, ap (λ (rs : List PackedJob). length rs) is, length-append rows (row ∷ []));
}

pub pushed_count : (rows more : List PackedJob) (row : PackedJob) (gap : Gap) → IsWithin gap (length rows) → more ≡ rows ++ row ∷ []
    → length (beside gap more) ≡ length (beside gap rows) + 1
pushed_count rows more row gap within is =
    ap (λ rs. length (beside gap rs)) is ∙ ap (λ (rs : List PackedJob). length rs) (beside_more gap rows row within)
    ∙ length-append (beside gap rows) (row ∷ [])

-- a list without the element in a place, by a function
pub removed : {X Y : Type 0} (f : X → Y) (xs left : List X) (place : ℕ) → left ≡ take place xs ++ drop (place + 1) xs
    → map f left ≡ take place (map f xs) ++ drop (place + 1) (map f xs)
removed f xs left place is =
    ap (λ ys. map f ys) is
    ∙ map-append f (take place xs) (drop (place + 1) xs)
    ∙ ap (λ ys. ys ++ map f (drop (place + 1) xs)) (sym (take-map f place xs))
    ∙ ap (λ ys. take place (map f xs) ++ ys) (sym (drop-map f (place + 1) xs))

-- the jobs of the rows that a test leaves
pub filtered : (p : List ℕ) (q : KeptJob → Bool) (rows : List PackedJob)
    → map (kept_in p) (filter (λ row. q (kept_in p row)) rows) ≡ filter q (map (kept_in p) rows)
filtered p q [] = refl
filtered p q (row ∷ rows) = one (q (kept_in p row)) (filtered p q rows)
  where
    one : (b : Bool) → map (kept_in p) (filter (λ row. q (kept_in p row)) rows) ≡ filter q (map (kept_in p) rows)
        → map (kept_in p) (cond b (row ∷ filter (λ row. q (kept_in p row)) rows) (filter (λ row. q (kept_in p row)) rows))
        ≡ cond b (kept_in p row ∷ filter q (map (kept_in p) rows)) (filter q (map (kept_in p) rows))
    one true rest = ap (λ ks. kept_in p row ∷ ks) rest
    one false rest = rest
