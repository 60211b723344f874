-- The first and the last date.
use Rattle.std.proofs.Common.{◌≡◌, ◌∙◌, ◌==◌, ℕ, zero, suc, ◌+◌, ◌<◌, ◌≤◌, Bool, true, false, not, if◌then◌else◌, List, length, slice_index_or, refl, ap, arith}
use Rattle.std.specs.Prelude.{◌≢◌, Some, None, nat_lt, position, unwrap_or}
use Rattle.std.specs.List.{position_or_len}
use Rattle.std.proofs.lemmas.List.Sums.{prefix_len-le-length}
use Rattle.std.proofs.lemmas.Bool.Decides.{nat_tests}
use Rattle.std.proofs.lemmas.List.{get_or_default}
use Rattle.ssim_calendar.specs.Picture.{has_letter}
use Rattle.ssim_periods.specs.Cover.{last_where}

-- the first element that passes, or the end
pub first_or_end : {X : Type 0} (p : X → Bool) (xs : List X) → unwrap_or (position p xs) (length xs) ≡ position_or_len p xs
first_or_end p xs = by (nat_lt (position_or_len p xs) (length xs)) refl
  where
    by : (b : Bool) → nat_lt (position_or_len p xs) (length xs) ≡ b → unwrap_or (if b then Some (position_or_len p xs) else None) (length xs) ≡ position_or_len p xs
    by true e = refl
    by false e = let low = prefix_len-le-length (λ x. not (p x)) xs in grind (arith, nat_tests)

-- no number passes
pub last_where-none : (test : ℕ → Bool) (n k : ℕ) → ((m : ℕ) → n ≤ m → m < n + k → test m ≡ false) → last_where test n k ≡ n
last_where-none test n zero h = refl
last_where-none test n (suc k) h =
    ap (λ (b : Bool). if b then n + k else last_where test n k) (h (n + k) (omega arith) (omega arith))
    ∙ last_where-none test n k (λ m a b. h m a (omega arith))

is_other : (x : ℕ) → x ≢ 46 → not (x == 46) ≡ true
is_other x h = grind (arith, nat_tests)

-- a day whose cell is no full stop has a letter
pub letter_at : (cells : List ℕ) (n : ℕ) → n < length cells → slice_index_or cells n 0 ≢ 46 → has_letter cells n ≡ true
letter_at cells n h other = ap (λ (x : ℕ). not (x == 46)) (get_or_default cells n 46 0 h) ∙ is_other (slice_index_or cells n 0) other
