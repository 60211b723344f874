-- What a file in memory gives, and the bytes that it has left.
use Rattle.std.proofs.Common.{◌≡◌, ◌∙◌, ℕ, zero, suc, ◌+◌, ◌-◌, ◌≤◌, ◌<◌, List, [], ◌∷◌, ◌++◌, length, min, take, drop, refl, sym, ap, length-drop, arith}
use Rattle.std.proofs.Math.Seq.{take-length}
use Rattle.std.proofs.lemmas.List.{drop-drop, drop_at, length-take-le}

-- no more bytes than there are can be dropped
drop_least : (m n : ℕ) (xs : List ℕ) → m ≡ min n (length xs) → drop m xs ≡ drop n xs
drop_least zero zero xs e = refl
drop_least zero (suc n) [] e = refl
drop_least zero (suc n) (x ∷ xs) e = absurd (omega (arith, e))
drop_least (suc m) zero xs e = absurd (omega (arith, e))
drop_least (suc m) (suc n) [] e = refl
drop_least (suc m) (suc n) (x ∷ xs) e = drop_least m n xs (omega (arith, e))

pub gives : (bytes into rest : List ℕ) (given start n : ℕ) → start ≡ min given (length bytes) → n ≤ length into
    → take (length bytes - start) (drop start bytes) ≡ take n into ++ rest → (n ≡ 0 → 0 < length into → rest ≡ [])
    → (drop given bytes ≡ take n into ++ drop (start + n) bytes) × (n ≡ 0 → 0 < length into → drop (start + n) bytes ≡ [])
gives bytes into rest given start n start-is few is end =
    let all : take (length bytes - start) (drop start bytes) ≡ drop start bytes = ap (λ (k : ℕ). take k (drop start bytes)) (sym (length-drop start bytes)) ∙ take-length (drop start bytes) in
    let left : drop start bytes ≡ take n into ++ rest = sym all ∙ is in
    let later : drop (start + n) bytes ≡ rest = sym (drop-drop n start bytes) ∙ ap (drop n) left ∙ drop_at (take n into) rest n (length-take-le n into few) in (
      sym (drop_least start given bytes start-is) ∙ left ∙ ap (λ (t : List ℕ). take n into ++ t) (sym later),
      λ none some. later ∙ end none some,
    )
