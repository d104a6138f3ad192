-- The list of names, and what becomes of each when one entry is written, or one more is added.
use Rattle.std.proofs.Common.{◌≡◌, ◌≢◌, ℕ, zero, suc, ◌+◌, ◌<◌, Bool, true, false, cond, List, [], ◌∷◌, ◌++◌, length, get_or, refl, sym, ap}
use Rattle.std.proofs.Common.{subst, ◌∙◌, arith}
use Rattle.std.specs.Prelude.{◌⊎◌, ◌&&◌, is_none, Option, Some, None, option_map, map, set}
use Rattle.std.proofs.Common.{inl, inr}
use Rattle.std.specs.List.{AllByRecursion}
use Rattle.std.proofs.lemmas.Bool.{false_from_ne_true}
use Rattle.std.proofs.lemmas.Slice.Eq.{bytes_eq-Decides}
use Rattle.std.proofs.lemmas.Cmp.{nat_list_eq_equiv}
use Rattle.lease_machine.specs.declared.name_entry.NameEntry.{NameEntry}
use Rattle.lease_machine.specs.Names.{is_same, entry_of, are_apart, is_dead, place_from, dead_from}

pub same_name : (a b : List ℕ) → is_same a b ≡ true → a ≡ b
same_name a b = (bytes_eq-Decides a b).0

pub self_same : (a b : List ℕ) → a ≡ b → is_same a b ≡ true
self_same a b = (bytes_eq-Decides a b).1

turned : (a b : List ℕ) (v : Bool) → is_same a b ≡ v → is_same b a ≡ v
turned a b v e = nat_list_eq_equiv.symm b a ∙ e

pub unlike : (a b : List ℕ) → a ≢ b → is_same a b ≡ false
unlike a b differ = false_from_ne_true (is_same a b) (λ e. differ (same_name a b e))

-- no name stands twice
abbrev pub AreApart : List NameEntry → Type 0
AreApart [] = Unit {0}
AreApart (e ∷ es) = (entry_of e.name es ≡ None) × AreApart es

pub apart_from : (es : List NameEntry) → are_apart es ≡ true → AreApart es
apart_from [] h = tt
apart_from (e ∷ es) h = let both = parts (entry_of e.name es) (are_apart es) h in (both.0, apart_from es both.1)
  where
    parts : (o : Option NameEntry) (rest : Bool) → (is_none o && rest) ≡ true → (o ≡ None) × (rest ≡ true)
    parts None rest g = (refl, g)
    parts (Some x) rest g = absurd cc

pub apart_to : (es : List NameEntry) → AreApart es → are_apart es ≡ true
apart_to [] h = refl
apart_to (e ∷ es) h = ap (λ (o : Option NameEntry). is_none o && are_apart es) h.0 ∙ apart_to es h.1

-- ---- tests

taken : (b : Bool) (e : NameEntry) (rest : Option NameEntry) → b ≡ true → cond b (Some e) rest ≡ Some e
taken b e rest is = ap (λ (t : Bool). cond t (Some e) rest) is

passed : (b : Bool) (e : NameEntry) (rest : Option NameEntry) → b ≡ false → cond b (Some e) rest ≡ rest
passed b e rest is = ap (λ (t : Bool). cond t (Some e) rest) is

none_parts : (b : Bool) (e : NameEntry) (rest : Option NameEntry) → cond b (Some e) rest ≡ None → (b ≡ false) × (rest ≡ None)
none_parts true e rest h = absurd cc
none_parts false e rest h = (refl, h)

-- ---- places

abbrev pub IsAt : ℕ → NameEntry → List NameEntry → Type 0
IsAt k d [] = ⊥
IsAt zero d (e ∷ es) = e ≡ d
IsAt (suc k) d (e ∷ es) = IsAt k d es

pub at_index : (k : ℕ) (es : List NameEntry) (x : NameEntry) → k < length es → IsAt k (get_or es k x) es
at_index k [] x less = absurd (omega (arith, less))
at_index zero (e ∷ es) x less = refl
at_index (suc k) (e ∷ es) x less = at_index k es x (omega (arith, less))

pub at_get : (k : ℕ) (d : NameEntry) (es : List NameEntry) (x : NameEntry) → IsAt k d es → (k < length es) × (get_or es k x ≡ d)
at_get k d [] x at = absurd at
at_get zero d (e ∷ es) x at = (omega arith, at)
at_get (suc k) d (e ∷ es) x at = let h = at_get k d es x at in (omega (arith, h.0), h.1)

-- an entry that passes the test, at a place that was found from here on
pub record IsFound (from place : ℕ) (es : List NameEntry) (test : NameEntry → Bool) : Type 0 where
  pub k : ℕ
  pub d : NameEntry
  pub place-is : place ≡ from + k
  pub at : IsAt k d es
  pub passes : test d ≡ true

later : (from place : ℕ) (e : NameEntry) (es : List NameEntry) (test : NameEntry → Bool) → IsFound (from + 1) place es test
    → IsFound from place (e ∷ es) test
later from place e es test f = record { k = suc f.k; d = f.d; place-is = omega (arith, f.place-is); at = f.at; passes = f.passes }

the_place : (m n : ℕ) → Some m ≡ Some n → m ≡ n
the_place m n e = cc

find_step : (b : Bool) (test : NameEntry → Bool) (from place : ℕ) (e : NameEntry) (es : List NameEntry) (rest : Option ℕ) → test e ≡ b
    → cond b (Some from) rest ≡ Some place
    → (rest ≡ Some place → IsFound (from + 1) place es test) → IsFound from place (e ∷ es) test
find_step true test from place e es rest is h next = record {
  k = zero;
  d = e;
  place-is = omega (arith, the_place from place h);
  at = refl;
  passes = is;
}
find_step false test from place e es rest is h next = later from place e es test (next h)

none_step : (b : Bool) (from : ℕ) (rest : Option ℕ) → cond b (Some from) rest ≡ None → (b ≡ false) × (rest ≡ None)
none_step true from rest h = absurd cc
none_step false from rest h = (refl, h)

pub placed : (from : ℕ) (name : List ℕ) (es : List NameEntry) (place : ℕ) → place_from from name es ≡ Some place
    → IsFound from place es (λ e. is_same e.name name)
placed from name [] place h = absurd cc
placed from name (e ∷ es) place h =
    find_step (is_same e.name name) (λ e. is_same e.name name) from place e es (place_from (from + 1) name es) refl h (λ g.
    placed (from + 1) name es place g)

pub unplaced : (from : ℕ) (name : List ℕ) (es : List NameEntry) → place_from from name es ≡ None → entry_of name es ≡ None
unplaced from name [] h = refl
unplaced from name (e ∷ es) h =
    let g = none_step (is_same e.name name) from (place_from (from + 1) name es) h in
    passed (is_same e.name name) e (entry_of name es) g.0 ∙ unplaced (from + 1) name es g.1

pub dead_placed : (from now : ℕ) (es : List NameEntry) (place : ℕ) → dead_from from now es ≡ Some place
    → IsFound from place es (is_dead now)
dead_placed from now [] place h = absurd cc
dead_placed from now (e ∷ es) place h =
    find_step (is_dead now e) (is_dead now) from place e es (dead_from (from + 1) now es) refl h (λ g.
    dead_placed (from + 1) now es place g)

pub none_dead : (from now : ℕ) (es : List NameEntry) → dead_from from now es ≡ None → AllByRecursion (λ e. is_dead now e ≡ false) es
none_dead from now [] h = tt
none_dead from now (e ∷ es) h = let g = none_step (is_dead now e) from (dead_from (from + 1) now es) h in
    (g.0, none_dead (from + 1) now es g.1)

-- what is true of all is true at each place
pub all_at : (P : NameEntry → Type 0) (k : ℕ) (d : NameEntry) (es : List NameEntry) → IsAt k d es → AllByRecursion P es → P d
all_at P k d [] at all = absurd at
all_at P zero d (e ∷ es) at all = subst P at all.0
all_at P (suc k) d (e ∷ es) at all = all_at P k d es at all.1

-- so no dead name has a place where all are in use
pub not_in_use : (now k : ℕ) (d : NameEntry) (es : List NameEntry) → IsAt k d es → is_dead now d ≡ true
    → AllByRecursion (λ e. is_dead now e ≡ false) es → ⊥
not_in_use now k d es at dead all = absurd (let bad : true ≡ false = sym dead ∙ all_at (λ e. is_dead now e ≡ false) k d es at all in cc)

-- ---- what is found

apart_none : (k : ℕ) (d : NameEntry) (n : List ℕ) (es : List NameEntry) → IsAt k d es → entry_of n es ≡ None → is_same d.name n ≡ false
apart_none k d n [] at none = absurd at
apart_none zero d n (e ∷ es) at none = subst (λ (x : NameEntry). is_same x.name n
    ≡ false) at (none_parts (is_same e.name n) e (entry_of n es) none).0
apart_none (suc k) d n (e ∷ es) at none = apart_none k d n es at (none_parts (is_same e.name n) e (entry_of n es) none).1

pub found : (k : ℕ) (d : NameEntry) (es : List NameEntry) → IsAt k d es → AreApart es → entry_of d.name es ≡ Some d
found k d [] at apart = absurd at
found zero d (e ∷ es) at apart = taken (is_same e.name d.name) e (entry_of d.name es)
    (self_same e.name d.name (ap (λ (x : NameEntry). x.name) at)) ∙ ap (λ (x : NameEntry). Some x) at
found (suc k) d (e ∷ es) at apart =
    passed (is_same e.name d.name) e (entry_of d.name es) (turned d.name e.name false (apart_none k d e.name es at apart.0))
    ∙ found k d es at apart.1

-- ---- an entry is written

pub set_other : (k : ℕ) (d x : NameEntry) (m : List ℕ) (es : List NameEntry) → IsAt k d es → is_same d.name m ≡ false
    → is_same x.name m ≡ false → entry_of m (set es k x) ≡ entry_of m es
set_other k d x m [] at f g = absurd at
set_other zero d x m (e ∷ es) at f g =
    passed (is_same x.name m) x (entry_of m es) g ∙ sym (passed (is_same e.name m) e (entry_of m es)
    (subst (λ (y : NameEntry). is_same y.name m ≡ false) (sym at) f))
set_other (suc k) d x m (e ∷ es) at f g = ap (cond (is_same e.name m) (Some e)) (set_other k d x m es at f g)

pub set_found : (k : ℕ) (d x : NameEntry) (es : List NameEntry) → IsAt k d es → AreApart es → x.name ≡ d.name
    → entry_of d.name (set es k x) ≡ Some x
set_found k d x [] at apart same = absurd at
set_found zero d x (e ∷ es) at apart same = taken (is_same x.name d.name) x (entry_of d.name es) (self_same x.name d.name same)
set_found (suc k) d x (e ∷ es) at apart same =
    passed (is_same e.name d.name) e (entry_of d.name (set es k x)) (turned d.name e.name false (apart_none k d e.name es at apart.0))
    ∙ set_found k d x es at apart.1 same

pub set_new : (k : ℕ) (d x : NameEntry) (es : List NameEntry) → IsAt k d es → entry_of x.name es ≡ None
    → entry_of x.name (set es k x) ≡ Some x
set_new k d x [] at none = absurd at
set_new zero d x (e ∷ es) at none = taken (is_same x.name x.name) x (entry_of x.name es) (self_same x.name x.name refl)
set_new (suc k) d x (e ∷ es) at none =
    let h = none_parts (is_same e.name x.name) e (entry_of x.name es) none in
    passed (is_same e.name x.name) e (entry_of x.name (set es k x)) h.0 ∙ set_new k d x es at h.1

pub set_gone : (k : ℕ) (d x : NameEntry) (es : List NameEntry) → IsAt k d es → AreApart es → entry_of x.name es ≡ None
    → entry_of d.name (set es k x) ≡ None
set_gone k d x [] at apart none = absurd at
set_gone zero d x (e ∷ es) at apart none =
    passed (is_same x.name d.name) x (entry_of d.name es) (turned d.name x.name false (apart_none zero d x.name (e ∷ es) at none))
    ∙ subst (λ (y : NameEntry). entry_of y.name es ≡ None) at apart.0
set_gone (suc k) d x (e ∷ es) at apart none =
    let h = none_parts (is_same e.name x.name) e (entry_of x.name es) none in
    passed (is_same e.name d.name) e (entry_of d.name (set es k x)) (turned d.name e.name false (apart_none k d e.name es at apart.0))
    ∙ set_gone k d x es at apart.1 h.1

-- the same name, or one that stood nowhere
abbrev pub IsFitting : NameEntry → NameEntry → List NameEntry → Type 0
IsFitting d x es = (x.name ≡ d.name) ⊎ (entry_of x.name es ≡ None)

pub set_apart : (k : ℕ) (d x : NameEntry) (es : List NameEntry) → IsAt k d es → AreApart es → IsFitting d x es → AreApart (set es k x)
set_apart k d x [] at apart fits = absurd at
set_apart zero d x (e ∷ es) at apart (inl same) = (
  subst (λ (n : List ℕ). entry_of n es ≡ None) (ap (λ (y : NameEntry). y.name) at
      ∙ sym same) apart.0,
  apart.1,
)
set_apart zero d x (e ∷ es) at apart (inr none) = ((none_parts (is_same e.name x.name) e (entry_of x.name es) none).1, apart.1)
set_apart (suc k) d x (e ∷ es) at apart (inl same) =
    let away = apart_none k d e.name es at apart.0 in (
      set_other k d x e.name es at away (subst (λ (n : List ℕ). is_same n e.name ≡ false) (sym same) away) ∙ apart.0,
      set_apart k d x es at apart.1 (inl same),
    )
set_apart (suc k) d x (e ∷ es) at apart (inr none) =
    let h = none_parts (is_same e.name x.name) e (entry_of x.name es) none in (
      set_other k d x e.name es at (apart_none k d e.name es at apart.0) (turned e.name x.name false h.0) ∙ apart.0,
      set_apart k d x es at apart.1 (inr h.1),
    )

-- ---- one more entry

pub push_other : (x : NameEntry) (m : List ℕ) (es : List NameEntry) → is_same x.name m ≡ false → entry_of m (es ++ x ∷ []) ≡ entry_of m es
push_other x m [] g = passed (is_same x.name m) x None g
push_other x m (e ∷ es) g = ap (cond (is_same e.name m) (Some e)) (push_other x m es g)

pub push_new : (x : NameEntry) (es : List NameEntry) → entry_of x.name es ≡ None → entry_of x.name (es ++ x ∷ []) ≡ Some x
push_new x [] none = taken (is_same x.name x.name) x None (self_same x.name x.name refl)
push_new x (e ∷ es) none =
    let h = none_parts (is_same e.name x.name) e (entry_of x.name es) none in
    passed (is_same e.name x.name) e (entry_of x.name (es ++ x ∷ [])) h.0 ∙ push_new x es h.1

pub push_apart : (x : NameEntry) (es : List NameEntry) → AreApart es → entry_of x.name es ≡ None → AreApart (es ++ x ∷ [])
push_apart x [] apart none = (refl, tt)
push_apart x (e ∷ es) apart none =
    let h = none_parts (is_same e.name x.name) e (entry_of x.name es) none in
    (push_other x e.name es (turned e.name x.name false h.0) ∙ apart.0, push_apart x es apart.1 h.1)

-- ---- all entries are changed, and their names stay

pub map_of : (f : NameEntry → NameEntry) → ((e : NameEntry) → (f e).name ≡ e.name) → (m : List ℕ) (es : List NameEntry)
    → entry_of m (map f es) ≡ option_map f (entry_of m es)
map_of f same m [] = refl
map_of f same m (e ∷ es) =
    ap (λ (n : List ℕ). cond (is_same n m) (Some (f e)) (entry_of m (map f es))) (same e)
    ∙ ap (cond (is_same e.name m) (Some (f e))) (map_of f same m es) ∙ out (is_same e.name m)
  where
    out : (b : Bool) → cond b (Some (f e)) (option_map f (entry_of m es)) ≡ option_map f (cond b (Some e) (entry_of m es))
    out true = refl
    out false = refl

pub map_apart : (f : NameEntry → NameEntry) → ((e : NameEntry) → (f e).name ≡ e.name) → (es : List NameEntry) → AreApart es
    → AreApart (map f es)
map_apart f same [] apart = tt
map_apart f same (e ∷ es) apart =
    (ap (λ (n : List ℕ). entry_of n (map f es)) (same e) ∙ map_of f same e.name es ∙ ap (option_map f) apart.0, map_apart f same es apart.1)
