-- Both ways between what a message is sealed to and what that is opened to.
use Rattle.std.proofs.Common.{◌≡◌, ◌++◌, ◌-◌, ◌<◌, ◌≤◌, ◌^◌, ◌∙◌, List, ℕ, Bool, true, false, cond, length, take, drop, refl, sym, ap}
use Rattle.std.proofs.Common.{arith}
use Rattle.std.specs.Prelude.{bytes_eq, Option, Some, None}
use Rattle.std.specs.Int.{w64, from_be_bytes, to_be_bytes}
use Rattle.std.proofs.lemmas.Bool.{ltb-false, le-ltb}
use Rattle.std.proofs.lemmas.Slice.Eq.{bytes_eq-Decides}
use Rattle.std.proofs.lemmas.List.{take-append-drop, length-take, length-drop}
use Rattle.std.proofs.lemmas.List.Elements.{All-take, All-drop}
use Rattle.std.proofs.lemmas.Nat.{be_bytes_8, from_be_bytes-to_be_bytes_8}
use Rattle.sealed_msg.specs.declared.stamp.Stamp.{Stamp}
use Rattle.sealed_msg.specs.Hmac.{hmac_by}
use Rattle.sealed_msg.specs.Stamps.{stamp_bytes}
use Rattle.sealed_msg.specs.Sealing.{sealed, stamped, stamp_in, front, back, opened, AreBytes}
use Rattle.sealed_msg.proofs.Cuts.{front_is, back_is, reads_byte}
use Rattle.sealed_msg.proofs.Tags.{length-tag, length-stamp, length-sealed}

-- ---- two tests

abbrev Answer : Type 0
Answer = Option (List ℕ × Stamp)

passed : (short same : Bool) (x : List ℕ × Stamp) → short ≡ false → same ≡ true → cond short None (cond same (Some x) None) ≡ Some x
passed short same x e f = rw (e, f) refl

has_passed : (short same : Bool) (x y : List ℕ × Stamp) → cond short None (cond same (Some x) None) ≡ Some y
    → (short ≡ false) × (same ≡ true) × (x ≡ y)
has_passed true same x y e = absurd cc
has_passed false true x y e = (refl, refl, cc)
has_passed false false x y e = absurd cc

-- ---- stamps

abbrev the_stamp : ℕ → ℕ → Stamp
the_stamp life number = record { life = life; number = number }

stamp_is : (stamp : Stamp) (life number : ℕ) → life ≡ stamp.life → number ≡ stamp.number → the_stamp life number ≡ stamp
stamp_is stamp life number e f = rw (e, f) refl

stamp_read : (stamp : Stamp) → stamp.life < 2 ^ 64 → stamp.number < 2 ^ 64 → stamp_in (stamp_bytes stamp) ≡ stamp
stamp_read stamp life number = stamp_is stamp _ _ (from_be_bytes-to_be_bytes_8 stamp.life life)
    (from_be_bytes-to_be_bytes_8 stamp.number number)

eight : (bytes : List ℕ) → length bytes ≡ 8 → AreBytes bytes → to_be_bytes w64 (from_be_bytes w64 bytes) ≡ bytes
eight bytes long fit = be_bytes_8 bytes (from_be_bytes w64 bytes) long (reads_byte bytes fit) refl

stamp_written : (bytes : List ℕ) → length bytes ≡ 16 → AreBytes bytes → stamp_bytes (stamp_in bytes) ≡ bytes
stamp_written bytes long fit =
    let life = eight (take 8 bytes) (omega (arith, length-take 8 bytes)) (All-take (λ b. b < 256) 8 bytes fit) in
    let number = eight (drop 8 bytes) (omega (arith, length-drop 8 bytes)) (All-drop (λ b. b < 256) 8 bytes fit) in
    ap (λ (a : List ℕ). a ++ to_be_bytes w64 (from_be_bytes w64 (drop 8 bytes))) life ∙ ap (λ (b : List ℕ). take 8 bytes ++ b) number
    ∙ take-append-drop 8 bytes

-- ---- what was sealed is opened

pub sealed_opens : (key message : List ℕ) (stamp : Stamp) → stamp.life < 2 ^ 64 → stamp.number < 2 ^ 64
    → opened key (sealed key message stamp) ≡ Some (message, stamp)
sealed_opens key message stamp life number =
    let text = stamped message stamp in
    let tag = hmac_by key text in
    let f = front_is text tag 32 (length-tag key text) in
    let b = back_is text tag 32 (length-tag key text) in
    let same : bytes_eq (back 32 (sealed key message stamp)) (hmac_by key (front 32 (sealed key message stamp))) ≡ true =
    (bytes_eq-Decides _ _).1 (b ∙ ap (hmac_by key) (sym f)) in
    let inner : front 16 (front 32 (sealed key message stamp)) ≡ message =
    ap (front 16) f ∙ front_is message (stamp_bytes stamp) 16 (length-stamp stamp) in
    let outer : stamp_in (back 16 (front 32 (sealed key message stamp))) ≡ stamp =
    ap (λ (t : List ℕ). stamp_in (back 16 t)) f ∙ ap stamp_in (back_is message (stamp_bytes stamp) 16 (length-stamp stamp))
    ∙ stamp_read stamp life number in
    let both : pair (front 16 (front 32 (sealed key message stamp))) (stamp_in (back 16 (front 32 (sealed key message stamp))))
    ≡ pair message stamp = rw (inner, outer) refl in
    passed _ _ _ (le-ltb _ 48 (omega (arith, length-sealed key message stamp))) same ∙ ap some both
  where
    pair : List ℕ → Stamp → List ℕ × Stamp
    pair m s = (m, s)

    some : List ℕ × Stamp → Answer
    some x = Some x

-- ---- what is opened was sealed

pub opened_sealed : (key bytes message : List ℕ) (stamp : Stamp) → AreBytes bytes → opened key bytes ≡ Some (message, stamp)
    → bytes ≡ sealed key message stamp
opened_sealed key bytes message stamp fit e =
    let p = has_passed _ _ _ _ e in
    let long : 48 ≤ length bytes = ltb-false (length bytes) 48 p.0 in
    let text = front 32 bytes in
    let tag = (bytes_eq-Decides _ _).0 p.1 in
    let size : length text ≡ length bytes - 32 = omega (arith, length-take (length bytes - 32) bytes) in
    let written = stamp_written (back 16 text) (omega (arith, length-drop (length text - 16) text))
    (All-drop (λ b. b < 256) (length text - 16) text (All-take (λ b. b < 256) (length bytes - 32) bytes fit)) in
    let whole : stamped (front 16 text) (stamp_in (back 16 text)) ≡ text = ap (λ (s : List ℕ). front 16 text ++ s) written
    ∙ take-append-drop (length text - 16) text in
    let it : stamped message stamp ≡ text = ap (λ (x : List ℕ × Stamp). stamped x.0 x.1) (sym p.2) ∙ whole in
    sym (ap (λ (t : List ℕ). t ++ hmac_by key t) it ∙ ap (λ (t : List ℕ). text ++ t) (sym tag) ∙ take-append-drop (length bytes - 32) bytes)
