-- Lists of one value per day: they are what their days say.
use Rattle.std.proofs.Common.{◌≡◌, ℕ, zero, suc, ◌+◌, ◌<◌, [], ◌∷◌, map, length, refl, ap, subst, ◌∙◌, arith}
use Rattle.std.specs.List.{range_with_len}
use Rattle.ssim_values.specs.Calendar.{day_limit}
use Rattle.ssim_periods.specs.Calendar.{day_count}
use Rattle.ssim_periods.specs.Days.{each_day}
use Rattle.ssim_base.specs.Timetable.{Legs, Days, on_day}

-- a number below the limit of days is a day of the calendar
pub in_calendar : (number day : ℕ) → number ≡ day → number < day_limit → day < day_count
unfolding day_count
in_calendar number day same within = subst (λ (n : ℕ). n < day_limit) same within

length-range : (g : ℕ → Legs) (low k : ℕ) → length (map g (range_with_len low k)) ≡ k
length-range g low zero = refl
length-range g low (suc k) = ap suc (length-range g (low + 1) k)

at-range : (g : ℕ → Legs) (low k n : ℕ) → n < k → on_day (map g (range_with_len low k)) n ≡ g (low + n)
at-range g low zero n h = absurd (omega arith)
at-range g low (suc k) zero h = let same : low ≡ low + 0 = omega arith in ap g same
at-range g low (suc k) (suc n) h =
    let same : (low + 1) + n ≡ low + suc n = omega arith in
    at-range g (low + 1) k n (omega arith) ∙ ap g same

pub length-each_day : (g : ℕ → Legs) → length (each_day g) ≡ day_count
length-each_day g = length-range g 0 day_count

pub at-each_day : (g : ℕ → Legs) (n : ℕ) → n < day_count → on_day (each_day g) n ≡ g n
at-each_day g n h =
    let same : 0 + n ≡ n = omega arith in
    at-range g 0 day_count n h ∙ ap g same

-- two lists with one value per day are equal if their days are
pub same-days : (xs ys : Days) → length xs ≡ length ys → ((n : ℕ) → n < length xs → on_day xs n ≡ on_day ys n) → xs ≡ ys
same-days [] [] len h = refl
same-days [] (y ∷ ys) len h = absurd (omega arith)
same-days (x ∷ xs) [] len h = absurd (omega arith)
same-days (x ∷ xs) (y ∷ ys) len h =
    ap (λ z. z ∷ xs) (h 0 (omega arith)) ∙ ap (λ zs. y ∷ zs) (same-days xs ys (omega arith) (λ n l. h (suc n) (omega arith)))
