use Rattle.std.proofs.Common.{◌≤◌, ◌^◌, arith, lit<, ℕ}
use Rattle.std.proofs.Math.Nat.{pow-le-pow_right}
use Rattle.ssim_columns.proofs.text.number.digits_of.Goals as goal

power : (n i : ℕ) → i ≤ n → 10 ^ i ≤ 10 ^ n
power n i h = pow-le-pow_right (lit< tt) h

pub overflow_mul-number : goal.overflow_mul-number
overflow_mul-number c = let h : 10 ^ c.loop-byte.byte-index ≤ 10 ^ 6 = power 6 c.loop-byte.byte-index (omega arith) in omega (arith, c.loop-byte.invariant.0)

pub overflow_add-number : goal.overflow_add-number
overflow_add-number c = let h : 10 ^ c.loop-byte.byte-index ≤ 10 ^ 6 = power 6 c.loop-byte.byte-index (omega arith) in omega (arith, c.loop-byte.invariant.0, c.type_inv.text c.loop-byte.byte-index)
