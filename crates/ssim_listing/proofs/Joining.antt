-- Bytes that are added one after another.
use Rattle.std.proofs.Common.{◌≡◌, ◌∙◌, ℕ, List, [], ◌∷◌, ◌++◌, refl, ap, append_assoc, drop, length}
use Rattle.std.proofs.Common.{length-append, take, ap₂, ◌-◌, arith}
use Rattle.std.proofs.Math.Seq.{take-length}

-- x, and then y
pub joined : (a x y : List ℕ) {b c : List ℕ} → b ≡ a ++ x → c ≡ b ++ y → c ≡ a ++ (x ++ y)
joined a x y e f = f ∙ ap (λ (bs : List ℕ). bs ++ y) e ∙ append_assoc a x y

-- x, and then y, z and w together
pub four : (x y z w : List ℕ) → ((x ++ y) ++ z) ++ w ≡ x ++ ((y ++ z) ++ w)
four x y z w = ap (λ (bs : List ℕ). bs ++ w) (append_assoc x y z) ∙ append_assoc x (y ++ z) w

dropped : (x y : List ℕ) → drop (length x) (x ++ y) ≡ y
dropped [] y = refl
dropped (b ∷ x) y = dropped x y

-- what comes after the first of two lists
pub rest_is : (x y all : List ℕ) (n : ℕ) → n ≡ length x → all ≡ x ++ y → take (length all - n) (drop n all) ≡ y
rest_is x y all n count is =
    let left : length all - n ≡ length y = omega (arith, count, ap length is, length-append x y) in
    ap₂ (λ (k : ℕ) (bs : List ℕ). take k bs) left (ap₂ (λ (k : ℕ) (bs : List ℕ). drop k bs) count is ∙ dropped x y) ∙ take-length y
