-- A field that is read is the field that was written, and what was written is read again.
use Rattle.std.proofs.Common.{◌≡◌, ℕ, ◌^◌, ◌<◌, ◌≤◌, Bool, true, false, cond, ltb, eqb, List, [], ◌∷◌, ◌++◌, length, take, drop, refl, sym}
use Rattle.std.proofs.Common.{ap, subst, ◌∙◌, append_assoc, arith}
use Rattle.std.specs.Prelude.{Option, Some, None}
use Rattle.std.specs.Int.{Width, w64, byte_len, from_be_bytes, to_be_bytes}
use Rattle.std.proofs.lemmas.Bool.{ltb-false, ltb-true, lt-ltb, le-ltb, eqb-true}
use Rattle.std.proofs.lemmas.List.{take_at, drop_at, take-append-drop, length-append, length-take}
use Rattle.std.proofs.lemmas.Nat.{be_bytes_8, from_be_bytes-to_be_bytes_8}
use Rattle.group_task.specs.declared.node.TheConstants.{NODES}
use Rattle.lease_message.specs.declared.message.LeaseClient.{LeaseClient}
use Rattle.lease_message.specs.declared.message.Reason.{Reason}
use Rattle.lease_message.specs.declared.message.Reason.TheVariants as reason
use Rattle.lease_message.specs.Spelling.{number, client_bytes, reason_number, IsClient}
use Rattle.lease_message.specs.Reading.{◌>>=◌, byte_at, number_at, below_at, client_at, kind_at, reason_at, reason_numbered}
use Rattle.lease_message.proofs.Bytes.{IsBytes, IsBytes-rest, IsBytes-take, IsBytes-drop}

abbrev pub just : {A : Type 0} → A → Option A
just x = Some x

pub some_is : {A : Type 0} (x y : A) → Some x ≡ Some y → x ≡ y
some_is x y e = cc

-- the value of a step that has one
pub bind_some : {A B : Type 0} (o : Option A) (f : A → Option B) (y : B) → (o >>= f) ≡ Some y → (x : A) × (o ≡ Some x) × (f x ≡ Some y)
bind_some (Some x) f y e = (x, refl, e)
bind_some None f y e = absurd cc

-- a test that went on
pub went_on : {A : Type 0} (b : Bool) (o : Option A) (y : A) → cond b None o ≡ Some y → (b ≡ false) × (o ≡ Some y)
went_on true o y e = absurd cc
went_on false o y e = (refl, e)

pub went_in : {A : Type 0} (b : Bool) (o : Option A) (y : A) → cond b o None ≡ Some y → (b ≡ true) × (o ≡ Some y)
went_in true o y e = (refl, e)
went_in false o y e = absurd cc

-- what a reader took from the front
pub record Takes (bytes text rest : List ℕ) : Type 0 where
  pub parts : bytes ≡ text ++ rest
  pub rest_fits : IsBytes rest

pub Takes-then : (a x b y c : List ℕ) → Takes a x b → Takes b y c → Takes a (x ++ y) c
Takes-then a x b y c p q = record {
  parts = p.parts ∙ ap (λ (t : List ℕ). x ++ t) q.parts ∙ sym (append_assoc x y c);
  rest_fits = q.rest_fits;
}

pub byte_takes : (bytes : List ℕ) (x : ℕ × List ℕ) → IsBytes bytes → byte_at bytes ≡ Some x → Takes bytes (x.0 ∷ []) x.1
byte_takes [] x fits e = absurd cc
byte_takes (b ∷ bytes) x fits e =
    subst (λ (y : ℕ × List ℕ). Takes (b ∷ bytes) (y.0 ∷ []) y.1) (some_is (b, bytes) x e)
    (record { parts = refl; rest_fits = IsBytes-rest b bytes fits })

pub below_takes : (limit : ℕ) (bytes : List ℕ) (x : ℕ × List ℕ) → IsBytes bytes → below_at limit bytes ≡ Some x
    → Takes bytes (x.0 ∷ []) x.1 × (x.0 < limit)
unfolding below_at
below_takes limit bytes x fits e =
    let a = bind_some (byte_at bytes) (λ b. cond (ltb b.0 limit) (Some b) None) x e in
    let g = went_in (ltb a.0.0 limit) (Some a.0) x a.2 in
    subst (λ (y : ℕ × List ℕ). Takes bytes (y.0 ∷ []) y.1 × (y.0 < limit)) (some_is a.0 x g.1)
    (byte_takes bytes a.0 fits a.1, ltb-true a.0.0 limit g.0)

pub below_again : (limit b : ℕ) (rest : List ℕ) → b < limit → below_at limit (b ∷ rest) ≡ Some (b, rest)
unfolding below_at
below_again limit b rest lt = rw (lt-ltb b limit lt) refl

record IsWide (w : Width) (limit : ℕ) : Type 0 where
  len : (n : ℕ) → length (to_be_bytes w n) ≡ byte_len w
  back : (bytes : List ℕ) → length bytes ≡ byte_len w → IsBytes bytes → to_be_bytes w (from_be_bytes w bytes) ≡ bytes
  again : (n : ℕ) → n < limit → from_be_bytes w (to_be_bytes w n) ≡ n
  below : (bytes : List ℕ) → IsBytes bytes → from_be_bytes w bytes < limit

wide64 : IsWide w64 (2 ^ 64)
wide64 = record {
  len = λ n. refl;
  back = λ bytes len fits. be_bytes_8 bytes _ len fits refl;
  again = λ n lt. from_be_bytes-to_be_bytes_8 n lt;
  below = λ bytes fits. omega (arith, fits 0, fits 1, fits 2, fits 3, fits 4, fits 5, fits 6, fits 7);
}

wide_takes : (w : Width) (limit : ℕ) (wide : IsWide w limit) (bytes : List ℕ) (x : ℕ × List ℕ) → IsBytes bytes → number_at w bytes ≡ Some x
    → Takes bytes (to_be_bytes w x.0) x.1 × (x.0 < limit)
wide_takes w limit wide bytes x fits e =
    let front = take (byte_len w) bytes in
    let rest = drop (byte_len w) bytes in
    let g = went_on (ltb (length bytes) (byte_len w)) (Some (from_be_bytes w front, rest)) x e in
    let long : byte_len w ≤ length bytes = ltb-false _ _ g.0 in
    let back : to_be_bytes w (from_be_bytes w front) ≡ front =
    wide.back front (omega (arith, length-take (byte_len w) bytes)) (IsBytes-take (byte_len w) bytes fits) in
    let taken : Takes bytes (to_be_bytes w (from_be_bytes w front)) rest =
    record { parts = rw back (sym (take-append-drop (byte_len w) bytes)); rest_fits = IsBytes-drop (byte_len w) bytes fits } in
    subst (λ (y : ℕ × List ℕ). Takes bytes (to_be_bytes w y.0) y.1 × (y.0 < limit)) (some_is (from_be_bytes w front, rest) x g.1)
    (taken, wide.below front (IsBytes-take (byte_len w) bytes fits))

wide_again : (w : Width) (limit : ℕ) (wide : IsWide w limit) (n : ℕ) (rest : List ℕ) → n < limit
    → number_at w (to_be_bytes w n ++ rest) ≡ Some (n, rest)
wide_again w limit wide n rest lt =
    let len = wide.len n in
    let long : ltb (length (to_be_bytes w n ++ rest)) (byte_len w) ≡ false =
    le-ltb _ _ (omega (arith, length-append (to_be_bytes w n) rest)) in
    rw (long, take_at (to_be_bytes w n) rest (byte_len w) len, drop_at (to_be_bytes w n) rest (byte_len w) len, wide.again n lt) refl

pub number_takes : (bytes : List ℕ) (x : ℕ × List ℕ) → IsBytes bytes → number_at w64 bytes ≡ Some x
    → Takes bytes (number x.0) x.1 × (x.0 < 2 ^ 64)
number_takes = wide_takes w64 (2 ^ 64) wide64

pub number_again : (n : ℕ) (rest : List ℕ) → n < 2 ^ 64 → number_at w64 (number n ++ rest) ≡ Some (n, rest)
number_again = wide_again w64 (2 ^ 64) wide64

pub kind_takes : (bytes : List ℕ) (x : ℕ × List ℕ) → IsBytes bytes → kind_at bytes ≡ Some x → Takes bytes (1 ∷ x.0 ∷ []) x.1
unfolding kind_at
kind_takes bytes x fits e =
    let a = bind_some (byte_at bytes) (λ version. cond (eqb version.0 1) (byte_at version.1) None) x e in
    let g = went_in (eqb a.0.0 1) (byte_at a.0.1) x a.2 in
    let t0 = byte_takes bytes a.0 fits a.1 in
    let t1 = byte_takes a.0.1 x t0.rest_fits g.1 in
    subst (λ (n : ℕ). Takes bytes (n ∷ x.0 ∷ []) x.1) (eqb-true a.0.0 1 g.0) (Takes-then bytes (a.0.0 ∷ []) a.0.1 (x.0 ∷ []) x.1 t0 t1)

pub client_takes : (bytes : List ℕ) (x : LeaseClient × List ℕ) → IsBytes bytes → client_at bytes ≡ Some x
    → Takes bytes (client_bytes x.0) x.1 × IsClient x.0
unfolding client_at
client_takes bytes x fits e =
    let made = λ (machine process n : ℕ) (rest : List ℕ). just {A = LeaseClient
    × List ℕ} (record { machine = machine; process = process; number = n }, rest) in
    let a = bind_some (below_at NODES bytes) (λ machine. number_at w64 machine.1 >>= λ process. number_at w64 process.1 >>= λ n.
    made machine.0 process.0 n.0 n.1) x e in
    let b = bind_some (number_at w64 a.0.1) (λ process. number_at w64 process.1 >>= λ n. made a.0.0 process.0 n.0 n.1) x a.2 in
    let c = bind_some (number_at w64 b.0.1) (λ n. made a.0.0 b.0.0 n.0 n.1) x b.2 in
    let t0 = below_takes NODES bytes a.0 fits a.1 in
    let t1 = number_takes a.0.1 b.0 t0.0.rest_fits b.1 in
    let t2 = number_takes b.0.1 c.0 t1.0.rest_fits c.1 in
    let taken = Takes-then bytes (a.0.0 ∷ []) a.0.1 (number b.0.0
    ++ number c.0.0) c.0.1 t0.0 (Takes-then a.0.1 (number b.0.0) b.0.1 (number c.0.0) c.0.1 t1.0 t2.0) in
    subst (λ (y : LeaseClient × List ℕ). Takes bytes (client_bytes y.0) y.1 × IsClient y.0)
    (some_is (record { machine = a.0.0; process = b.0.0; number = c.0.0 }, c.0.1) x c.2)
    (taken, record { machine = t0.1; process = t1.1; number = t2.1 })

pub client_again : (c : LeaseClient) (rest : List ℕ) → IsClient c → client_at (client_bytes c ++ rest) ≡ Some (c, rest)
unfolding client_at
client_again c rest fits =
    let tail = number c.number ++ rest in
    let regrouped : client_bytes c ++ rest ≡ c.machine ∷ (number c.process ++ tail) =
    ap (λ (t : List ℕ). c.machine ∷ t) (append_assoc (number c.process) (number c.number) rest) in
    ap client_at regrouped ∙ rw (
      below_again NODES c.machine (number c.process ++ tail) fits.machine,
      number_again c.process tail fits.process,
      number_again c.number rest fits.number,
    ) refl

numbered_is : (n : ℕ) (why : Reason) → reason_numbered n ≡ Some why → n ≡ reason_number why
numbered_is n why e = grind arith

pub reason_takes : (bytes : List ℕ) (x : Reason × List ℕ) → IsBytes bytes → reason_at bytes ≡ Some x
    → Takes bytes (reason_number x.0 ∷ []) x.1
unfolding reason_at
reason_takes bytes x fits e =
    let a = bind_some (byte_at bytes) (λ n. reason_numbered n.0 >>= λ why. Some (why, n.1)) x e in
    let b = bind_some (reason_numbered a.0.0) (λ why. Some (why, a.0.1)) x a.2 in
    let t = byte_takes bytes a.0 fits a.1 in
    subst (λ (y : Reason × List ℕ). Takes bytes (reason_number y.0 ∷ []) y.1) (some_is (b.0, a.0.1) x b.2)
    (subst (λ (n : ℕ). Takes bytes (n ∷ []) a.0.1) (numbered_is a.0.0 b.0 b.1) t)

pub reason_again : (why : Reason) (rest : List ℕ) → reason_at (reason_number why ∷ rest) ≡ Some (why, rest)
unfolding reason_at
reason_again reason.Waiting rest = refl
reason_again reason.Held rest = refl
reason_again reason.Epoch rest = refl
reason_again reason.Terms rest = refl
reason_again reason.Full rest = refl
