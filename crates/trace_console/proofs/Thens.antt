-- What is said behind what was said first.
use Rattle.std.proofs.Common.{◌≡◌, ◌<◌, ◌≤◌, ℕ, zero, suc, ◌+◌, ◌-◌, List, [], ◌∷◌, ◌++◌, length, length-append, drop, Option, Some, None}
use Rattle.std.proofs.Common.{refl, sym, ap, ◌∙◌, subst, arith, append_assoc, slice_set, true, inl, inr}
use Rattle.std.specs.Prelude.{get_or, replicate}
use Rattle.std.specs.Option.{option_map, unwrap_or}
use Rattle.std.proofs.lemmas.Bool.{cases_lt, eqb-true}
use Rattle.std.proofs.lemmas.Option.{slice_get_read}
use Rattle.std.proofs.lemmas.List.{get_or-append-add, get_or_append_left, get_or-drop, get_or-set_other, get_or-set_same}
use Rattle.std.proofs.lemmas.List.{length-replicate, replicate_more}
use Rattle.trace_text.specs.Tellings.{TellingData, TellingsData, told_at}
use Rattle.trace_check.specs.Claims.{Claim}
use Rattle.trace_check.specs.Orders.{claims_of, history}
use Rattle.trace_console.specs.declared.files.TraceFile.{TraceFile}
use Rattle.trace_console.specs.Files.{AreToldIn, nodes_in}
use Rattle.trace_console.specs.Prefixes.{AreThen, fits}
use Rattle.trace_console.specs.Told.{IsThen, IsToldIn, row}
use Rattle.trace_console.proofs.Lists.{set_length}

zero_more : (k : ℕ) → k ≡ 0 + k
zero_more k = omega arith

pub told_is : (ts : List (Option TellingData)) (k : ℕ) → told_at ts k ≡ get_or ts k None
told_is [] k = refl
told_is (t ∷ ts) zero = refl
told_is (t ∷ ts) (suc k) = told_is ts k

-- ---- places of which nothing is said

filled : {A : Type 0} (n i : ℕ) (d : A) → get_or (replicate n d) i d ≡ d
filled zero i d = refl
filled (suc n) zero d = refl
filled (suc n) (suc i) d = filled n i d

pub padded : {A : Type 0} (xs : List A) (n i : ℕ) (d : A) → get_or (xs ++ replicate n d) i d ≡ get_or xs i d
padded [] n i d = filled n i d
padded (x ∷ xs) n zero d = refl
padded (x ∷ xs) n (suc i) d = padded xs n i d

-- one place more
pub padded_more : {A : Type 0} (xs ys new : List A) (k : ℕ) (d : A) → length xs ≤ k → ys ≡ xs ++ replicate (k - length xs) d
    → new ≡ ys ++ d ∷ [] → new ≡ xs ++ replicate (k + 1 - length xs) d
padded_more xs ys new k d within is added =
    let more : k + 1 - length xs ≡ k - length xs + 1 = omega (arith, within) in
    added ∙ ap (λ (zs : List _). zs ++ d ∷ []) is ∙ append_assoc xs (replicate (k - length xs) d) (d ∷ [])
    ∙ ap (λ (zs : List _). xs ++ zs) (replicate_more (k - length xs) d ∙ ap (λ (j : ℕ). replicate j d) (sym more))

pub padded_length : {A : Type 0} (xs new : List A) (k : ℕ) (d : A) → length xs ≤ k → new ≡ xs ++ replicate (k - length xs) d
    → length new ≡ k
padded_length xs new k d within is =
    let all = ap (λ (ys : List _). length ys) is ∙ length-append xs (replicate (k - length xs) d) in
    let more = length-replicate (k - length xs) d in omega (arith, within, all, more)

-- behind so many places, of the last of which nothing is said
pub then_behind : {A : Type 0} (none : A) (many n : ℕ) (first more middle all : List A) → middle ≡ first ++ replicate n none
    → length middle ≡ many → all ≡ middle ++ more → IsThen none many first more all
then_behind none many n first more middle all is count joined = record {
  before = λ k less. ap (λ (xs : List _). get_or xs k none) joined ∙ get_or_append_left middle more none k (omega (arith, less, count))
      ∙ ap (λ (xs : List _). get_or xs k none) is ∙ padded first n k none;
  behind = λ k. ap (λ (xs : List _). get_or xs (many + k) none) joined
      ∙ ap (λ (m : ℕ). get_or (middle ++ more) (m + k) none) (sym count) ∙ get_or-append-add middle more k none;
}

pub then_there : {A : Type 0} (none : A) (many m : ℕ) (first f more o all : List A) → many ≡ m → first ≡ f → more ≡ o
    → IsThen none many first more all → IsThen none m f o all
then_there none many m first f more o all a b c is = subst (λ (x : ℕ). IsThen none x f o all) a
    (subst (λ (x : List _). IsThen none many x o all) b (subst (λ (x : List _). IsThen none many first x all) c is))

pub unwrap_now : {A R : Type 0} (f : R → A) (o : Option R) (d : R) → f (unwrap_or o d) ≡ unwrap_or (option_map f o) (f d)
unwrap_now f None d = refl
unwrap_now f (Some r) d = refl

-- ---- the entries of each node

pub history_read : (hs : List (List Claim)) (k : ℕ) (h : List Claim) → k < length hs → h ≡ get_or hs k h → h ≡ history hs k
history_read hs k h less at = sym (ap claims_of (slice_get_read hs (length hs) k h refl less at))

pub fits_length : (hs piece : List (List Claim)) → fits hs piece ≡ true → (length hs ≡ 0 → ⊥) → length hs ≡ length piece
fits_length [] piece fit some = absurd (some refl)
fits_length (h ∷ hs) piece fit some = eqb-true (length (h ∷ hs)) (length piece) fit

-- so of the first nodes, and of the others what was told first
pub record AreThenBelow (hs : List (List Claim)) (below : ℕ) (first more now : TellingsData) : Type 0 where
  pub count : length now ≡ length hs
  pub done : (n : ℕ) → n < below → IsThen None (length (history hs n)) (row first n) (row more n) (row now n)
  pub rest : (n : ℕ) → below ≤ n → row now n ≡ row first n

pub none_below : (hs : List (List Claim)) (n : ℕ) (first more now : TellingsData) → now ≡ first ++ replicate n [] → length now ≡ length hs
    → AreThenBelow hs 0 first more now
none_below hs n first more now is count = record {
  count = count;
  done = λ k less. absurd (omega (arith, less));
  rest = λ k within. ap (λ (d : TellingsData). row d k) is ∙ padded first n k [];
}

pub one_more : (hs : List (List Claim)) (k : ℕ) (first more old new : TellingsData) (r : List (Option TellingData))
    → AreThenBelow hs k first more old → k < length hs → new ≡ slice_set old k r
    → IsThen None (length (history hs k)) (row old k) (row more k) r → AreThenBelow hs (k + 1) first more new
one_more hs k first more old new r so less is here = record {
  count = ap (λ (d : TellingsData). length d) is ∙ set_length old k r ∙ so.count;
  done = λ n low. elim (cases_lt n k) [
    | inl early ↦ (let other : n ≡ k → ⊥ = λ same. omega (arith, early, same) in
        subst (λ (x : List (Option TellingData)). IsThen None (length (history hs n)) (row first n) (row more n) x)
        (sym (ap (λ (d : TellingsData). row d n) is ∙ get_or-set_other old k n r [] other)) (so.done n early))
    | inr late ↦ (let same : k ≡ n = omega (arith, low, late) in
        subst (λ (j : ℕ). IsThen None (length (history hs j)) (row first j) (row more j) (row new j)) same
        (subst (λ (x : List (Option TellingData)). IsThen None (length (history hs k)) (row first k) (row more k) x)
        (sym (ap (λ (d : TellingsData). row d k) is ∙ get_or-set_same old k r [] (let count = so.count in omega (arith, less, count))))
        (subst (λ (x : List (Option TellingData)). IsThen None (length (history hs k)) x (row more k) r) (so.rest k (omega arith)) here)))
  ];
  rest = λ n within. ap (λ (d : TellingsData). row d n) is ∙ get_or-set_other old k n r [] (λ same. omega (arith, within, same))
      ∙ so.rest n (omega (arith, within));
}

-- nothing came before
pub first_then : (hs : List (List Claim)) (nodes : ℕ) (first more all : TellingsData) → length hs ≡ 0 → all ≡ more
    → AreThen hs nodes first more all
first_then [] nodes first more all none is = λ n less. record {
  before = λ k low. absurd (omega (arith, low));
  behind = λ k. ap (λ (d : TellingsData). get_or (row d n) (0 + k) None) is
      ∙ ap (λ (j : ℕ). get_or (row more n) j None) (sym (zero_more k));
}
first_then (h ∷ hs) nodes first more all none is = absurd (omega (arith, none))

-- ---- the nodes of each file

same_rows : (files : List TraceFile) (d e : TellingsData) → AreToldIn files d → ((n : ℕ) → row e n ≡ row d n) → AreToldIn files e
same_rows [] d e are same = tt
same_rows (file ∷ files) d e are same = (
  are.0,
  are.1,
  are.2,
  are.3,
  record {
    before = λ k less. same k ∙ are.4.before k less;
    behind = λ k. same (nodes_in file + k) ∙ are.4.behind k;
  },
)

-- what was told in the files so far; whatever the others tell
abbrev pub IsToldSoFar : List TraceFile → List TraceFile → ℕ → TellingsData → Type 0
IsToldSoFar files others nodes now =
    (later all : TellingsData) → AreToldIn others later → IsThen [] nodes now later all → AreToldIn files all

pub no_file_yet : (files : List TraceFile) (now : TellingsData) → IsToldSoFar files files 0 now
no_file_yet files now later all are said = same_rows files later all are (λ n. ap (λ (k : ℕ). row all k) (zero_more n) ∙ said.behind n)

pub told_of_files : (files : List TraceFile) (nodes : ℕ) (now : TellingsData) → IsToldSoFar files [] nodes now → AreToldIn files now
told_of_files files nodes now so = so (drop nodes now) now tt (record {
  before = λ k less. refl;
  behind = λ k. sym (get_or-drop nodes now k []);
})

pub one_file_more : (files others : List TraceFile) (file : TraceFile) (nodes more : ℕ) (now own new : TellingsData)
    → IsToldSoFar files (file ∷ others) nodes now → IsToldIn file.text.items own → nodes_in file ≡ more → IsThen [] nodes now own new
    → IsToldSoFar files others (nodes + more) new
one_file_more files others file nodes more now own new so is count said later all are behind =
    so (drop nodes all) all (
      own,
      later,
      is,
      are,
      record {
        before = λ k less. get_or-drop nodes all k [] ∙ behind.before (nodes + k) (omega (arith, less, count)) ∙ said.behind k;
        behind = λ k. get_or-drop nodes all (nodes_in file + k) []
            ∙ ap (λ (j : ℕ). get_or all j []) (let place : nodes + (nodes_in file + k) ≡ nodes + more + k = omega (arith, count) in place)
            ∙ behind.behind k;
      },
    ) (record {
      before = λ k less. behind.before k (omega (arith, less)) ∙ said.before k less;
      behind = λ k. sym (get_or-drop nodes all k []);
    })
