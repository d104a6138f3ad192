-- Reasons that stand one behind another.
use Rattle.std.proofs.Common.{◌≡◌, ℕ, List, [], ◌∷◌, ◌++◌, length, codes, arith, refl, ap, ◌∙◌, append_assoc}
use Rattle.store_console.specs.Explained.{apart}

pub first_reason : (before : List ℕ) → length before ≡ 0 → before ≡ before ++ apart before
first_reason [] none = refl
first_reason (c ∷ before) none = absurd (omega arith)

pub later_reason : (before after : List ℕ) → (length before ≡ 0 → ⊥) → after ≡ before ++ 10 ∷ codes "invite: "
    → after ≡ before ++ apart before
later_reason [] after some is = absurd (some refl)
later_reason (c ∷ before) after some is = is

-- six texts, each behind the one before it
pub joined : (b a l c k d w x1 x2 x3 x4 x5 x6 : List ℕ) → x1 ≡ b ++ a → x2 ≡ x1 ++ l → x3 ≡ x2 ++ c → x4 ≡ x3 ++ k → x5 ≡ x4 ++ d
    → x6 ≡ x5 ++ w
    → x6 ≡ b ++ (a ++ (l ++ c ++ k ++ d ++ w))
joined b a l c k d w x1 x2 x3 x4 x5 x6 e1 e2 e3 e4 e5 e6 =
    let ends : ((((((b ++ a) ++ l) ++ c) ++ k) ++ d) ++ w) ≡ b ++ (a ++ (l ++ c ++ k ++ d ++ w)) = simp append_assoc in
    e6 ∙ ap (λ x. x ++ w) (e5 ∙ ap (λ x. x ++ d) (e4 ∙ ap (λ x. x ++ k) (e3 ∙ ap (λ x. x ++ c) (e2 ∙ ap (λ x. x ++ l) e1)))) ∙ ends
