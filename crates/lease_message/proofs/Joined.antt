-- What was written piece by piece.
use Rattle.std.proofs.Common.{◌≡◌, ℕ, List, ◌++◌, ap, ◌∙◌, append_assoc}

pub joined3 : (o a b c o1 o2 o3 : List ℕ) → o1 ≡ o ++ a → o2 ≡ o1 ++ b → o3 ≡ o2 ++ c → o3 ≡ o ++ (a ++ (b ++ c))
joined3 o a b c o1 o2 o3 p q r =
    r ∙ ap (λ (x : List ℕ). x ++ c) q ∙ append_assoc o1 b c ∙ ap (λ (x : List ℕ). x ++ (b ++ c)) p ∙ append_assoc o a (b ++ c)

pub joined6 : (o a b c d e f o1 o2 o3 o4 o5 o6 : List ℕ) → o1 ≡ o ++ a → o2 ≡ o1 ++ b → o3 ≡ o2 ++ c → o4 ≡ o3 ++ d → o5 ≡ o4 ++ e
    → o6 ≡ o5 ++ f
    → o6 ≡ o ++ (a ++ (b ++ (c ++ (d ++ (e ++ f)))))
joined6 o a b c d e f o1 o2 o3 o4 o5 o6 p q r s t u =
    joined3 o3 d e f o4 o5 o6 s t u ∙ ap (λ (x : List ℕ). x ++ (d ++ (e ++ f))) (joined3 o a b c o1 o2 o3 p q r)
    ∙ append_assoc o (a ++ (b ++ c)) (d ++ (e ++ f)) ∙ ap (λ (x : List ℕ). o ++ x)
    (append_assoc a (b ++ c) (d ++ (e ++ f)) ∙ ap (λ (x : List ℕ). a ++ x) (append_assoc b c (d ++ (e ++ f))))
