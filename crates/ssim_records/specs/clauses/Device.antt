-- How devices count, and what a buffer holds.
use Rattle.std.specs.Prelude.{ℕ, ◌≡◌, ◌+◌, ◌%◌, ◌^◌, ◌==◌, ◌&&◌, nat_lt, if◌then◌else◌, List}
use Rattle.std.specs.Prelude.{length, Option, Some, None, Result, Ok, Err}
use Rattle.ssim_records.specs.declared.device.DeviceFault.{DeviceFault}
use Rattle.ssim_records.specs.Device.{Reader}

-- If the bytes left are not known, the count of a source changes by the bytes of a fetch.
abbrev pub CountChanges : Option (List ℕ) → Option (List ℕ) → ℕ → ℕ → Result ℕ DeviceFault → Type 0
CountChanges (Some bytes) left old new result = Unit {0}
CountChanges None (Some bytes) old new result = ⊥
CountChanges None None old new (Ok n) = new ≡ (old + n) % 2 ^ 128
CountChanges None None old new (Err e) = new ≡ old

-- A source that reports its bytes counts nothing. A source that does not, and never will, counts
-- the bytes that came, and the count wraps.
abbrev pub CountsBytes : Reader → Reader → Result ℕ DeviceFault → Type 0
CountsBytes old new result = CountChanges old.left new.left old.came new.came result

-- a failure is counted, and the count wraps
abbrev pub CountsFailure : ℕ → ℕ → Result ℕ DeviceFault → Type 0
CountsFailure old new (Ok n) = new ≡ old
CountsFailure old new (Err e) = new ≡ (old + 1) % 2 ^ 64

-- A put that failed, or that took none of at least one byte, is counted as a failure, and the count
-- wraps.
abbrev pub CountsPut : ℕ → ℕ → Result ℕ DeviceFault → List ℕ → Type 0
CountsPut old new (Err e) bytes = new ≡ (old + 1) % 2 ^ 64
CountsPut old new (Ok n) bytes =
    new ≡ (if n == 0 && nat_lt 0 (length bytes) then (old + 1) % 2 ^ 64 else old)

-- a buffer: what it holds, and how often it could not grow
pub record Buffer : Type 0 where
  pub bytes : List ℕ
  pub failures : ℕ
