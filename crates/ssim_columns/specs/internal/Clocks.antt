-- Four digits as one number of 32 bits.
use Rattle.std.specs.Prelude.{ℕ, ◌≡◌, ◌+◌, ◌*◌, ◌<◌}

-- four digits in four bytes, of which the third is below 6
pub record HasClockDigits (digits : ℕ) : Type 0 where
  pub a : ℕ
  pub b : ℕ
  pub c : ℕ
  pub d : ℕ
  pub is : a * 16777216 + b * 65536 + c * 256 + d ≡ digits
  pub hours : a < 10
  pub units : b < 10
  pub tens : c < 6
  pub minutes : d < 10
