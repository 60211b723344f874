-- The days of a week from a day on, read from the bits of its weekdays.
use Prim.Native.Nat.{◌^◌}
use Rattle.std.proofs.Common.{◌≡◌, ℕ, ◌+◌, ◌-◌, ◌<◌, ◌≤◌, Bool, false, nat_eq, List, slice_index_or, ap, sym, ◌∙◌, arith}
use Rattle.std.specs.Int.{bit_at}
use Rattle.std.specs.Prelude.{bit_and}
use Rattle.std.proofs.lemmas.Nat.Bits.{bit_at-zero}
use Rattle.ssim_values.specs.Calendar.{slot}
use Rattle.ssim_periods.proofs.BitLemmas.{bits_below}

-- x has the bits of the seven days from `from` on
pub record AreBits (days : List Bool) (x from : ℕ) : Type 0 where
  pub at : (i : ℕ) → i < 7 → nat_eq (bit_at x i) 1 ≡ slice_index_or days (slot (from + i)) false

day-bit : (days : List Bool) (x from m : ℕ) → AreBits days x from → from ≤ m → m < from + 7 → slice_index_or days (slot m) false ≡ nat_eq (bit_at x (m - from)) 1
day-bit days x from m b l h =
    let back : m ≡ from + (m - from) = omega arith in
    ap (λ n. slice_index_or days (slot n) false) back ∙ sym (b.at (m - from) (omega arith))

-- no bit of the lowest k is set
pub window-none : (days : List Bool) (x from to k : ℕ) → AreBits days x from → to ≤ from + k → k ≤ 7 → bit_and x (2 ^ k - 1) ≡ 0 → (n : ℕ) → from ≤ n → n < to → slice_index_or days (slot n) false ≡ false
window-none days x from to k b e s none n l h =
    let lt : n - from < k = omega arith in
    day-bit days x from n b l (omega arith)
    ∙ ap (λ y. nat_eq y 1) (sym (bits_below x k (n - from) lt) ∙ ap (λ y. bit_at y (n - from)) none ∙ bit_at-zero (n - from))
