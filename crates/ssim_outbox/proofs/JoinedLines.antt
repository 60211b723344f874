-- A line that is added part by part is added whole.
use Rattle.std.proofs.Common.{◌≡◌, ◌∙◌, ℕ, ◌-◌, List, [], ◌∷◌, ◌++◌, take, length, append_assoc, sym, ap}
use Rattle.std.proofs.Common.{arith, length-append}
use Rattle.std.proofs.Math.Seq.{take-append_seam}

pub unsaid_joined : (t a b c d : List ℕ)
    → (((t ++ a) ++ (b ++ 32 ∷ c)) ++ d) ++ 10 ∷ []
    ≡ t ++ ((((a ++ b) ++ 32 ∷ c) ++ d) ++ 10 ∷ [])
unsaid_joined [] a b c d = ap (λ (x : List ℕ). (x ++ d) ++ 10 ∷ []) (sym (append_assoc a b (32 ∷ c)))
unsaid_joined (x ∷ t) a b c d = ap (λ (y : List ℕ). x ∷ y) (unsaid_joined t a b c d)

-- a line without its end
pub without_last : (x : List ℕ) (k : ℕ) → k ≡ length (x ++ 10 ∷ []) → take (k - 1) (x ++ 10 ∷ []) ≡ x
without_last x k e =
    ap (λ (n : ℕ). take n (x ++ 10 ∷ [])) (omega (arith, e, length-append x (10 ∷ [])))
    ∙ take-append_seam x (10 ∷ [])
