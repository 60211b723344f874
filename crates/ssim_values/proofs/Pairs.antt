-- The table of the numbers below 100, two digits each.
use Rattle.std.proofs.Common.{◌≡◌, ℕ, zero, suc, ◌+◌, ◌*◌, ◌/◌, ◌%◌, ◌<◌, List, [], ◌∷◌, get_or, refl, arith}
use Rattle.std.specs.Prelude.{codes}
use Rattle.ssim_values.specs.Characters.{two_digits}

-- m numbers from k on
pairs : ℕ → ℕ → List ℕ
pairs k zero = []
pairs k (suc m) = (48 + k / 10) ∷ (48 + k % 10) ∷ pairs (suc k) m

pair_at : (k m i : ℕ) → i < m → (get_or (pairs k m) (2 * i) 0 ≡ 48 + (k + i) / 10) × (get_or (pairs k m) (2 * i + 1) 0 ≡ 48 + (k + i) % 10)
unfolding pairs
pair_at k zero i h = absurd (omega (arith, h))
pair_at k (suc m) zero h = let e : k + 0 ≡ k = omega arith in rw e (refl, refl)
pair_at k (suc m) (suc i) h =
    let e : 2 * suc i ≡ suc (suc (2 * i)) = omega arith in
    let f : suc (suc (2 * i)) + 1 ≡ suc (suc (2 * i + 1)) = omega arith in
    let s : suc k + i ≡ k + suc i = omega arith in
    rw (e, f, ← s) (pair_at (suc k) m i (omega (arith, h)))

abbrev table : List ℕ
table = codes "00010203040506070809101112131415161718192021222324252627282930313233343536373839404142434445464748495051525354555657585960616263646566676869707172737475767778798081828384858687888990919293949596979899"

table_is : table ≡ pairs 0 100
unfolding pairs
table_is = refl

pub digits_at : (n : ℕ) → n < 100 → get_or table (2 * n) 0 ∷ get_or table (2 * n + 1) 0 ∷ [] ≡ two_digits n
digits_at n h =
    let p = pair_at 0 100 n h in
    let z : 0 + n ≡ n = omega arith in
    rw (table_is, p.0, p.1, z) refl
