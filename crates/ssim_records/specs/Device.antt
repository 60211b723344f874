-- What contracts know of a source and of a sink.
use Rattle.std.specs.Prelude.{ℕ, List, Option}

-- What a contract knows of a source: the bytes that are left, if the source reports them; the
-- number of bytes that came, if it does not, which wraps at 2^128; and the number of fetches that
-- failed, which wraps at 2^64.
pub record Reader : Type 0 where
  pub left : Option (List ℕ)
  pub came : ℕ
  pub failures : ℕ

-- What a contract knows of a sink: the bytes that it took, if the sink reports them; the number of
-- puts that failed, or that took no byte of some, which wraps at 2^64; and the number of the device
-- that the bytes go to, 0 if it has none. No put changes that number. So a caller that lends its
-- sink to a function over any sink knows that it still writes to the same device afterwards.
pub record Writer : Type 0 where
  pub taken : Option (List ℕ)
  pub failures : ℕ
  pub device : ℕ
