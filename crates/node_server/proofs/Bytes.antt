-- What a writer holds and what a reader has left, call by call.
use Rattle.std.proofs.Common.{ℕ, List, [], ◌++◌, Option, Some, None, Result, Ok, Err, OnErr, refl, sym, ap, ◌∙◌, append_assoc, append-nil}
use Rattle.std.specs.Io.KnownBytes.{Appends, Consumes, Keeps}

pub appends_none : (a : Option (List ℕ)) → Appends a a []
appends_none None = tt
appends_none (Some xs) = sym (append-nil xs)

pub appends_more : (a b c : Option (List ℕ)) (x y : List ℕ) → Appends a b x → Appends b c y → Appends a c (x ++ y)
appends_more None b c x y first second = tt
appends_more (Some xs) None c x y first second = absurd first
appends_more (Some xs) (Some ys) None x y first second = absurd second
appends_more (Some xs) (Some ys) (Some zs) x y first second = second ∙ ap (λ l. l ++ y) first ∙ append_assoc xs x y

pub consumes_none : (a : Option (List ℕ)) → Consumes a a []
consumes_none None = tt
consumes_none (Some xs) = refl

pub consumes_more : (a b c : Option (List ℕ)) (x y : List ℕ) → Consumes a b x → Consumes b c y → Consumes a c (x ++ y)
consumes_more None b c x y first second = tt
consumes_more (Some xs) None c x y first second = absurd first
consumes_more (Some xs) (Some ys) None x y first second = absurd second
consumes_more (Some xs) (Some ys) (Some zs) x y first second = first ∙ ap (λ l. x ++ l) second ∙ sym (append_assoc x y zs)

pub consumes_keeps : (a b c : Option (List ℕ)) (x : List ℕ) → Consumes a b x → Keeps b c → Consumes a c x
consumes_keeps None b c x first second = tt
consumes_keeps (Some xs) None c x first second = absurd first
consumes_keeps (Some xs) (Some ys) None x first second = absurd second
consumes_keeps (Some xs) (Some ys) (Some zs) x first second = first ∙ ap (λ l. x ++ l) (sym second)

pub keeps_same : (a : Option (List ℕ)) → Keeps a a
keeps_same None = tt
keeps_same (Some xs) = refl

pub keeps_on : (a b c : Option (List ℕ)) (x : List ℕ) → Appends a b x → Keeps b c → Appends a c x
keeps_on None b c x first second = tt
keeps_on (Some xs) None c x first second = absurd first
keeps_on (Some xs) (Some ys) None x first second = absurd second
keeps_on (Some xs) (Some ys) (Some zs) x first second = second ∙ first

pub keeps_more : (a b c : Option (List ℕ)) → Keeps a b → Keeps b c → Keeps a c
keeps_more None b c first second = tt
keeps_more (Some xs) None c first second = absurd first
keeps_more (Some xs) (Some ys) None first second = absurd second
keeps_more (Some xs) (Some ys) (Some zs) first second = second ∙ first

-- what holds anyway holds after an error
pub on_err : {A E P : Type 0} (r : Result A E) → P → OnErr r P
on_err (Ok a) p = tt
on_err (Err e) p = p
