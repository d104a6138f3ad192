-- What is read is spelled so, and what is spelled so is read.
use Rattle.std.proofs.Common.{◌≡◌, ℕ, Bool, true, false, cond, ltb, eqb, List, [], ◌∷◌, ◌++◌, length, refl, sym, ap, subst, ◌∙◌}
use Rattle.std.proofs.Common.{append_assoc, arith}
use Rattle.std.specs.Prelude.{Option, Some, None, IfSome, ◌||◌}
use Rattle.std.specs.Int.{w64}
use Rattle.std.proofs.lemmas.Bool.{ltb-false, le-ltb, eqb-true, eqb-false, ne_eqb}
use Rattle.group_task.specs.declared.node.TheConstants.{NODES}
use Rattle.lease_message.specs.declared.lease_name.TheConstants.{NAME_CAPACITY}
use Rattle.lease_message.specs.declared.message.LeaseBody.{LeaseBody}
use Rattle.lease_message.specs.declared.message.LeaseBody.TheVariants.{Request, Grant, Refusal, Release}
use Rattle.lease_message.specs.declared.message.LeaseClient.{LeaseClient}
use Rattle.lease_message.specs.declared.message.LeaseMessage.{LeaseMessage}
use Rattle.lease_message.specs.declared.message.Reason.{Reason}
use Rattle.lease_message.specs.Spelling.{number, kind_of, reason_number, client_bytes, content, spelling, IsName, IsBody, IsMessage, Spells}
use Rattle.lease_message.specs.Reading.{◌>>=◌, number_at, below_at, client_at, kind_at, reason_at, request_at, grant_at, refusal_at}
use Rattle.lease_message.specs.Reading.{body_at, name_at, whole_at}
use Rattle.lease_message.proofs.Bytes.{IsBytes}
use Rattle.lease_message.proofs.Fields.{just, some_is, bind_some, went_on, Takes, Takes-then, below_takes, below_again, number_takes}
use Rattle.lease_message.proofs.Fields.{number_again, kind_takes, client_takes, client_again, reason_takes, reason_again}

-- the body that stands at the front of the bytes, and its kind
record TakesBody (kind : ℕ) (bytes : List ℕ) (x : LeaseBody × List ℕ) : Type 0 where
  taken : Takes bytes (content x.0) x.1
  fits : IsBody x.0
  kind-is : kind ≡ kind_of x.0

request_takes : (bytes : List ℕ) (x : LeaseBody × List ℕ) → IsBytes bytes → request_at bytes ≡ Some x → TakesBody 1 bytes x
unfolding request_at
request_takes bytes x fits e =
    let made = λ (n keeps list : ℕ) (rest : List ℕ). just {A = LeaseBody × List ℕ} (Request n keeps list, rest) in
    let a = bind_some (number_at w64 bytes) (λ n. number_at w64 n.1 >>= λ keeps. number_at w64 keeps.1 >>= λ list.
    made n.0 keeps.0 list.0 list.1) x e in
    let b = bind_some (number_at w64 a.0.1) (λ keeps. number_at w64 keeps.1 >>= λ list. made a.0.0 keeps.0 list.0 list.1) x a.2 in
    let c = bind_some (number_at w64 b.0.1) (λ list. made a.0.0 b.0.0 list.0 list.1) x b.2 in
    let t0 = number_takes bytes a.0 fits a.1 in
    let t1 = number_takes a.0.1 b.0 t0.0.rest_fits b.1 in
    let t2 = number_takes b.0.1 c.0 t1.0.rest_fits c.1 in
    let taken = Takes-then bytes (number a.0.0) a.0.1 (number b.0.0
    ++ number c.0.0) c.0.1 t0.0 (Takes-then a.0.1 (number b.0.0) b.0.1 (number c.0.0) c.0.1 t1.0 t2.0) in
    subst (λ (y : LeaseBody × List ℕ). TakesBody 1 bytes y) (some_is (Request a.0.0 b.0.0 c.0.0, c.0.1) x c.2)
    (record { taken = taken; fits = (t0.1, t1.1, t2.1); kind-is = refl })

grant_takes : (bytes : List ℕ) (x : LeaseBody × List ℕ) → IsBytes bytes → grant_at bytes ≡ Some x → TakesBody 2 bytes x
unfolding grant_at
grant_takes bytes x fits e =
    let a = bind_some (number_at w64 bytes) (λ n. just {A = LeaseBody × List ℕ} (Grant n.0, n.1)) x e in
    let t = number_takes bytes a.0 fits a.1 in
    subst (λ (y : LeaseBody × List ℕ). TakesBody 2 bytes y) (some_is (Grant a.0.0, a.0.1) x a.2)
    (record { taken = t.0; fits = t.1; kind-is = refl })

refusal_takes : (bytes : List ℕ) (x : LeaseBody × List ℕ) → IsBytes bytes → refusal_at bytes ≡ Some x → TakesBody 3 bytes x
unfolding refusal_at
refusal_takes bytes x fits e =
    let made = λ (n : ℕ) (why : Reason) (lasts : ℕ) (rest : List ℕ). just {A = LeaseBody × List ℕ} (Refusal n why lasts, rest) in
    let a = bind_some (number_at w64 bytes) (λ n. reason_at n.1 >>= λ why. number_at w64 why.1 >>= λ lasts. made n.0 why.0 lasts.0 lasts.1)
    x e in
    let b = bind_some (reason_at a.0.1) (λ why. number_at w64 why.1 >>= λ lasts. made a.0.0 why.0 lasts.0 lasts.1) x a.2 in
    let c = bind_some (number_at w64 b.0.1) (λ lasts. made a.0.0 b.0.0 lasts.0 lasts.1) x b.2 in
    let t0 = number_takes bytes a.0 fits a.1 in
    let t1 = reason_takes a.0.1 b.0 t0.0.rest_fits b.1 in
    let t2 = number_takes b.0.1 c.0 t1.rest_fits c.1 in
    let taken = Takes-then bytes (number a.0.0) a.0.1 (reason_number b.0.0 ∷ number c.0.0) c.0.1 t0.0
    (Takes-then a.0.1 (reason_number b.0.0 ∷ []) b.0.1 (number c.0.0) c.0.1 t1 t2.0) in
    subst (λ (y : LeaseBody × List ℕ). TakesBody 3 bytes y) (some_is (Refusal a.0.0 b.0.0 c.0.0, c.0.1) x c.2)
    (record { taken = taken; fits = (t0.1, t2.1); kind-is = refl })

-- one test of the kind: it is this one, or the rest of the tests decide
by_kind : (kind k : ℕ) (bytes : List ℕ) (here others : Option (LeaseBody × List ℕ)) (x : LeaseBody × List ℕ)
    → (here ≡ Some x → TakesBody k bytes x) → (others ≡ Some x → TakesBody kind bytes x) → cond (eqb kind k) here others ≡ Some x
    → TakesBody kind bytes x
by_kind kind k bytes here others x f g e = split (eqb kind k) refl e
  where
    split : (b : Bool) → eqb kind k ≡ b → cond b here others ≡ Some x → TakesBody kind bytes x
    split true same h = subst (λ (j : ℕ). TakesBody j bytes x) (sym (eqb-true kind k same)) (f h)
    split false other h = g h

body_takes : (kind : ℕ) (bytes : List ℕ) (x : LeaseBody × List ℕ) → IsBytes bytes → body_at kind bytes ≡ Some x → TakesBody kind bytes x
unfolding body_at
body_takes kind bytes x fits =
    by_kind kind 1 bytes _ _ x (request_takes bytes x fits)
    (by_kind kind 2 bytes _ _ x (grant_takes bytes x fits)
    (by_kind kind 3 bytes _ _ x (refusal_takes bytes x fits)
    (by_kind kind 4 bytes _ _ x (released bytes x fits)
    (λ e. absurd cc))))
  where
    released : (bytes : List ℕ) (x : LeaseBody × List ℕ) → IsBytes bytes → Some (Release, bytes) ≡ Some x → TakesBody 4 bytes x
    released bytes x fits e = subst (λ (y : LeaseBody × List ℕ). TakesBody 4 bytes y) (some_is (Release, bytes) x e)
        (record { taken = record { parts = refl; rest_fits = fits }; fits = tt; kind-is = refl })

body_again : (b : LeaseBody) (rest : List ℕ) → IsBody b → body_at (kind_of b) (content b ++ rest) ≡ Some (b, rest)
unfolding body_at request_at grant_at refusal_at
body_again (Request n keeps list) rest fits =
    let tail = number list ++ rest in
    let regrouped : content (Request n keeps list) ++ rest ≡ number n ++ (number keeps ++ tail) =
    append_assoc (number n) (number keeps ++ number list) rest
    ∙ ap (λ (t : List ℕ). number n ++ t) (append_assoc (number keeps) (number list) rest) in
    ap request_at regrouped ∙ rw (
      number_again n (number keeps ++ tail) fits.0,
      number_again keeps tail fits.1,
      number_again list rest fits.2,
    ) refl
body_again (Grant n) rest fits = rw (number_again n rest fits) refl
body_again (Refusal n why lasts) rest fits =
    let tail = number lasts ++ rest in
    ap refusal_at (append_assoc (number n) (reason_number why ∷ number lasts) rest)
    ∙ rw (number_again n (reason_number why ∷ tail) fits.0, reason_again why tail, number_again lasts rest fits.1) refl
body_again Release rest fits = refl

name_takes : (bytes name : List ℕ) → name_at bytes ≡ Some name → (bytes ≡ name) × IsName name
unfolding name_at
name_takes bytes name e =
    let g = went_on (eqb (length bytes) 0 || ltb NAME_CAPACITY (length bytes)) (Some bytes) name e in
    subst (λ (n : List ℕ). (bytes ≡ n) × IsName n) (some_is bytes name g.1)
    (refl, within (eqb (length bytes) 0) (ltb NAME_CAPACITY (length bytes)) refl refl g.0)
  where
    within : (a b : Bool) → eqb (length bytes) 0 ≡ a → ltb NAME_CAPACITY (length bytes) ≡ b → (a || b) ≡ false → IsName bytes
    within false false p q h = record { some = omega (arith, eqb-false (length bytes) 0 p); fits = ltb-false _ _ q }
    within true b p q h = absurd cc
    within false true p q h = absurd cc

name_again : (name : List ℕ) → IsName name → name_at name ≡ Some name
unfolding name_at
name_again name is = rw (ne_eqb (length name) 0 (λ e. omega (arith, e, is.some)), le-ltb NAME_CAPACITY (length name) is.fits) refl

-- ---- whole messages

pub message_takes : (bytes : List ℕ) (m : LeaseMessage) → IsBytes bytes → whole_at bytes ≡ Some m → Spells m bytes
unfolding whole_at
message_takes bytes m fits e =
    let made = λ (client : LeaseClient) (voter epoch : ℕ) (body : LeaseBody)
    (name : List ℕ). just {A = LeaseMessage} (record { client = client; voter = voter; epoch = epoch; body = body; name = name }) in
    let k = bind_some (kind_at bytes) (λ kind. client_at kind.1 >>= λ client. below_at NODES client.1 >>= λ voter.
    number_at w64 voter.1 >>= λ epoch. body_at kind.0 epoch.1 >>= λ body. name_at body.1 >>= λ name.
    made client.0 voter.0 epoch.0 body.0 name) m e in
    let c = bind_some (client_at k.0.1) (λ client. below_at NODES client.1 >>= λ voter. number_at w64 voter.1 >>= λ epoch.
    body_at k.0.0 epoch.1 >>= λ body. name_at body.1 >>= λ name. made client.0 voter.0 epoch.0 body.0 name) m k.2 in
    let v = bind_some (below_at NODES c.0.1) (λ voter. number_at w64 voter.1 >>= λ epoch. body_at k.0.0 epoch.1 >>= λ body.
    name_at body.1 >>= λ name. made c.0.0 voter.0 epoch.0 body.0 name) m c.2 in
    let x = bind_some (number_at w64 v.0.1) (λ epoch. body_at k.0.0 epoch.1 >>= λ body. name_at body.1 >>= λ name.
    made c.0.0 v.0.0 epoch.0 body.0 name) m v.2 in
    let b = bind_some (body_at k.0.0 x.0.1) (λ body. name_at body.1 >>= λ name. made c.0.0 v.0.0 x.0.0 body.0 name) m x.2 in
    let n = bind_some (name_at b.0.1) (λ name. made c.0.0 v.0.0 x.0.0 b.0.0 name) m b.2 in
    let t0 = kind_takes bytes k.0 fits k.1 in
    let t1 = client_takes k.0.1 c.0 t0.rest_fits c.1 in
    let t2 = below_takes NODES c.0.1 v.0 t1.0.rest_fits v.1 in
    let t3 = number_takes v.0.1 x.0 t2.0.rest_fits x.1 in
    let t4 = body_takes k.0.0 x.0.1 b.0 t3.0.rest_fits b.1 in
    let t5 = name_takes b.0.1 n.0 n.1 in
    let behind : c.0.1 ≡ v.0.0 ∷ number x.0.0 ++ (content b.0.0 ++ n.0) =
    t2.0.parts ∙ ap (λ (r : List ℕ). v.0.0 ∷ r) (t3.0.parts ∙ ap (λ (r : List ℕ). number x.0.0 ++ r) (t4.taken.parts
    ∙ ap (λ (r : List ℕ). content b.0.0 ++ r) t5.0)) in
    let whole : bytes ≡ 1 ∷ kind_of b.0.0 ∷ client_bytes c.0.0 ++ (v.0.0 ∷ number x.0.0 ++ (content b.0.0 ++ n.0)) =
    t0.parts ∙ ap (λ (r : List ℕ). 1 ∷ k.0.0 ∷ r) (t1.0.parts ∙ ap (λ (r : List ℕ). client_bytes c.0.0 ++ r) behind)
    ∙ ap (λ (kind : ℕ). 1 ∷ kind ∷ client_bytes c.0.0 ++ (v.0.0 ∷ number x.0.0 ++ (content b.0.0 ++ n.0))) t4.kind-is in
    subst (λ (y : LeaseMessage). Spells y bytes) (some_is (record {
      client = c.0.0;
      voter = v.0.0;
      epoch = x.0.0;
      body = b.0.0;
      name = n.0;
    }) m n.2)
    (record { message = record { client = t1.1; voter = t2.1; epoch = t3.1; body = t4.fits; name = t5.1 }; spelled = whole })

message_again : (m : LeaseMessage) → IsMessage m → whole_at (spelling m) ≡ Some m
unfolding whole_at kind_at
message_again m fits =
    let last = content m.body ++ m.name in
    let behind = m.voter ∷ number m.epoch ++ last in
    rw (
      client_again m.client behind fits.client,
      below_again NODES m.voter (number m.epoch ++ last) fits.voter,
      number_again m.epoch last fits.epoch,
      body_again m.body m.name fits.body,
      name_again m.name fits.name,
    ) refl

-- what is read is spelled
pub read_spelled : (bytes : List ℕ) (read : Option LeaseMessage) → IsBytes bytes → read ≡ whole_at bytes → IfSome read (λ m. Spells m bytes)
read_spelled bytes None fits e = tt
read_spelled bytes (Some m) fits e = message_takes bytes m fits (sym e)

-- what is spelled is read
pub spelled_reads : (bytes : List ℕ) (m : LeaseMessage) → Spells m bytes → whole_at bytes ≡ Some m
spelled_reads bytes m s = ap whole_at s.spelled ∙ message_again m s.message

pub one_message : (m n : LeaseMessage) (bytes : List ℕ) → Spells m bytes → Spells n bytes → m ≡ n
one_message m n bytes s t = some_is m n (sym (spelled_reads bytes m s) ∙ spelled_reads bytes n t)
