-- Elements of lists.
use Rattle.std.proofs.Common.{◌≡◌, ◌⊎◌, ℕ, zero, suc, Bool, true, false, List, [], ◌∷◌, ◌++◌, refl, sym, inl, inr, subst, Some, slice_get}
use Rattle.std.proofs.Common.{map}
use Rattle.std.specs.Prelude.{if◌then◌else◌}
use Rattle.std.specs.List.{filter}
use Rattle.job_model.specs.declared.job.Job.{Job}
use Rattle.node_core.specs.Priorities.{by_priority}
use Rattle.node_core.proofs.PublicLaws.{by_priority_keeps}
use Rattle.wire_msg.specs.Envelope.{Envelope}
use Rattle.histories.specs.Lists.{IsAmong, Each}
use Rattle.histories.specs.HistoryEvent.{Entry}
use Rattle.histories.specs.History.{sent_in}
use Rattle.histories.specs.Bundle.{sent_by_all}

pub among_left : {A : Type 0} (x : A) (xs ys : List A) → IsAmong x xs → IsAmong x (xs ++ ys)
among_left x [] ys h = absurd h
among_left x (y ∷ xs) ys h = elim h [ inl e ↦ inl e | inr i ↦ inr (among_left x xs ys i) ]

pub among_right : {A : Type 0} (x : A) (xs ys : List A) → IsAmong x ys → IsAmong x (xs ++ ys)
among_right x [] ys h = h
among_right x (y ∷ xs) ys h = inr (among_right x xs ys h)

pub among_either : {A : Type 0} (x : A) (xs ys : List A) → IsAmong x (xs ++ ys) → IsAmong x xs ⊎ IsAmong x ys
among_either x [] ys h = inr h
among_either x (y ∷ xs) ys h = elim h [
  | inl e ↦ inl (inl e)
  | inr i ↦ elim (among_either x xs ys i) [ inl l ↦ inl (inr l) | inr r ↦ inr r ]
]

-- what all send, one of them sends
pub record SentBy (m : Envelope) (histories : List (List Entry)) : Type 0 where
  pub node : ℕ
  pub history : List Entry
  pub at : slice_get histories node ≡ Some history
  pub sent : IsAmong m (sent_in history)

pub sent_by_one : (m : Envelope) (hs : List (List Entry)) → IsAmong m (sent_by_all hs) → SentBy m hs
sent_by_one m [] h = absurd h
sent_by_one m (h ∷ hs) i = elim (among_either m (sent_in h) (sent_by_all hs) i) [
  | inl l ↦ record { node = 0; history = h; at = refl; sent = l }
  | inr r ↦ (let s = sent_by_one m hs r in record { node = suc s.node; history = s.history; at = s.at; sent = s.sent })
]

pub sent_of_one : (m : Envelope) (hs : List (List Entry)) (n : ℕ) (h : List Entry) → slice_get hs n ≡ Some h → IsAmong m (sent_in h)
    → IsAmong m (sent_by_all hs)
sent_of_one m [] n h at i = absurd cc
sent_of_one m (x ∷ hs) zero h at i = among_left m (sent_in x) (sent_by_all hs)
    (let e : x ≡ h = cc (at) in subst (λ (y : List Entry). IsAmong m (sent_in y)) (sym e) i)
sent_of_one m (x ∷ hs) (suc n) h at i = among_right m (sent_in x) (sent_by_all hs) (sent_of_one m hs n h at i)

-- ---- what holds of each element

pub each_append : {A : Type 0} (P : A → Type 0) (xs ys : List A) → Each P xs → Each P ys → Each P (xs ++ ys)
each_append P [] ys h k = k
each_append P (x ∷ xs) ys h k = (h.0, each_append P xs ys h.1 k)

pub each_split : {A : Type 0} (P : A → Type 0) (xs ys : List A) → Each P (xs ++ ys) → Each P xs × Each P ys
each_split P [] ys h = (tt, h)
each_split P (x ∷ xs) ys h = (let rest = each_split P xs ys h.1 in ((h.0, rest.0), rest.1))

pub each_at : {A : Type 0} (P : A → Type 0) (xs : List A) (x : A) → Each P xs → IsAmong x xs → P x
each_at P [] x h i = absurd i
each_at P (y ∷ xs) x h i = elim i [ inl e ↦ subst P (sym e) h.0 | inr j ↦ each_at P xs x h.1 j ]

pub each_of : {A : Type 0} (P : A → Type 0) (xs : List A) → ((x : A) → IsAmong x xs → P x) → Each P xs
each_of P [] h = tt
each_of P (x ∷ xs) h = (h x (inl refl), each_of P xs (λ y i. h y (inr i)))

pub each_more : {A : Type 0} (P Q : A → Type 0) (xs : List A) → ((x : A) → P x → Q x) → Each P xs → Each Q xs
each_more P Q [] sub h = tt
each_more P Q (x ∷ xs) sub h = (sub x h.0, each_more P Q xs sub h.1)

pub each_map : {A B : Type 0} (P : B → Type 0) (f : A → B) (xs : List A) → ((x : A) → P (f x)) → Each P (map f xs)
each_map P f [] h = tt
each_map P f (x ∷ xs) h = (h x, each_map P f xs h)

by_test : {A : Type 0} (R : List A → Type 0) (b : Bool) (xs ys : List A) → (b ≡ true → R xs) → (b ≡ false → R ys) → R (if b then xs else ys)
by_test R true xs ys t f = t refl
by_test R false xs ys t f = f refl

-- of those that pass the test
pub each_chosen : {A B : Type 0} (P : A → Type 0) (Q : B → Type 0) (f : A → B) (test : A → Bool) (xs : List A)
    → ((x : A) → test x ≡ true → P x → Q (f x)) → Each P xs → Each Q (map f (filter test xs))
each_chosen P Q f test [] g h = tt
each_chosen P Q f test (x ∷ xs) g h =
    let rest = each_chosen P Q f test xs g h.1 in
    by_test (λ ys. Each Q (map f ys)) (test x) (x ∷ filter test xs) (filter test xs) (λ t. (g x t h.0, rest)) (λ t. rest)

pub each_left : {A : Type 0} (P : A → Type 0) (test : A → Bool) (xs : List A) → Each P xs → Each P (filter test xs)
each_left P test [] h = tt
each_left P test (x ∷ xs) h = by_test (λ ys. Each P ys) (test x) (x ∷ filter test xs) (filter test xs) (λ t. (h.0, each_left P test xs h.1))
    (λ t. each_left P test xs h.1)

-- of jobs in the order in which they are dispatched
pub each_by_priority : (P : Job → Type 0) (jobs : List Job) → Each P jobs → Each P (by_priority jobs)
each_by_priority P jobs h = by_priority_keeps (Each P) tt (λ xs ys g k. each_append P xs ys g k) (λ test xs g. each_left P test xs g) jobs h
