-- A date's month is that of each of its first 28 days: their texts differ in the digits of the day
-- alone, and their numbers follow one another.
use Rattle.std.proofs.Common.{◌≡◌, ℕ, ◌+◌, ◌-◌, ◌/◌, ◌%◌, ◌<◌, ◌≤◌, List, [], ◌∷◌, ◌++◌, length, slice_index_or, refl, sym, ap, ◌∙◌, arith, lit<, lit≤, Some}
use Rattle.std.specs.Prelude.{slice_range}
use Rattle.ssim_values.specs.Calendar.{IsDate, day_number, leap_years, month_length, months_length}
use Rattle.ssim_values.specs.Characters.{two_digits, two_digits_of}
use Rattle.ssim_values.specs.Day.{day_of, month_named}
use Rattle.ssim_columns.specs.internal.LatestMonths.{IsMonth}
use Rattle.ssim_values.proofs.CalendarLemmas.{day_number_bound}
use Rattle.ssim_values.proofs.DayLaws.{HasParts, parts, tested-IsDate}
use Rattle.ssim_values.proofs.SpellingLemmas.{two_digits_of-complete}

four_weeks : (y m : ℕ) → 28 ≤ month_length y m
four_weeks y m = grind arith

-- the dates of one month
other_day : (y m d e : ℕ) → IsDate y m d → 1 ≤ e → e ≤ 28 → IsDate y m e
other_day y m d e h low high =
    let long = four_weeks y m in
    record { year_from = h.year_from; year_to = h.year_to; month_from = h.month_from; month_to = h.month_to; day_from = low; day_to = omega (arith, long, high) }

other_number : (y m d e : ℕ) → 1 ≤ d → day_number y m e ≡ day_number y m d + 1 - d + (e - 1)
unfolding day_number
other_number y m d e low = omega (arith, low)

-- a day's number counts the days of its month before it
day_in_number : (y m d : ℕ) → d - 1 ≤ day_number y m d
unfolding day_number
day_in_number y m d = omega arith

read_digits : (d₁ d₂ d : ℕ) → d < 100 → two_digits d ≡ d₁ ∷ d₂ ∷ [] → two_digits_of d₁ d₂ ≡ Some d
read_digits d₁ d₂ d low e =
    let first : 48 + d / 10 ≡ d₁ = cc in
    let second : 48 + d % 10 ≡ d₂ = cc in
    rw (first, second) at (two_digits_of-complete d low)

-- what is read of a month's date
pub record IsOfMonth (m₁ m₂ m₃ y₁ y₂ d k : ℕ) : Type 0 where
  pub from : 1 ≤ d
  pub to : d ≤ k + 1
  pub month : IsMonth (m₁ ∷ m₂ ∷ m₃ ∷ y₁ ∷ []) y₂ (k + 1 - d)

days_of_month : (m₁ m₂ m₃ y₁ y₂ y m d e k : ℕ) → two_digits_of y₁ y₂ ≡ Some y → month_named (m₁ ∷ m₂ ∷ m₃ ∷ []) ≡ Some m → IsDate (2000 + y) m d → day_number (2000 + y) m d ≡ k → 1 ≤ e → e ≤ 28 → day_of (two_digits e ++ (m₁ ∷ m₂ ∷ m₃ ∷ y₁ ∷ []) ++ y₂ ∷ []) ≡ Some (k + 1 - d + (e - 1))
unfolding day_of
days_of_month m₁ m₂ m₃ y₁ y₂ y m d e k year month is number low high =
    let valid = tested-IsDate (2000 + y) m e (other_day (2000 + y) m d e is low high) in
    let small : e < 100 = omega (arith, high) in
    let counted : day_number (2000 + y) m e ≡ k + 1 - d + (e - 1) = rw number at (other_number (2000 + y) m d e is.day_from) in
    rw (year, month, two_digits_of-complete e small, valid, counted) refl

-- the calendar begins with January 2000
january_number : day_number 2000 1 1 ≡ 0
unfolding day_number leap_years months_length
january_number = refl

pub january : IsMonth (74 ∷ 65 ∷ 78 ∷ 48 ∷ []) 48 0
january =
    let is : IsDate 2000 1 1 = record { year_from = lit≤ tt; year_to = lit≤ tt; month_from = lit≤ tt; month_to = lit≤ tt; day_from = lit≤ tt; day_to = lit≤ tt } in
    record { days = λ d low high. days_of_month 74 65 78 48 48 0 1 1 d 0 refl refl is january_number low high; below = lit< tt }

of_parts : (d₁ d₂ m₁ m₂ m₃ y₁ y₂ d k : ℕ) → two_digits_of d₁ d₂ ≡ Some d → HasParts (two_digits_of y₁ y₂) (month_named (m₁ ∷ m₂ ∷ m₃ ∷ [])) (two_digits_of d₁ d₂) k → IsOfMonth m₁ m₂ m₃ y₁ y₂ d k
of_parts d₁ d₂ m₁ m₂ m₃ y₁ y₂ d k read p =
    let same : p.day ≡ d = (let e = sym p.day_is ∙ read in cc) in
    let is : IsDate (2000 + p.year) p.month d = rw same at p.is_date in
    let number : day_number (2000 + p.year) p.month d ≡ k = rw same at p.number in
    let bound = day_number_bound (2000 + p.year) p.month d is in
    let from = is.day_from in
    let reached = day_in_number (2000 + p.year) p.month d in
    record {
      from = from;
      to = omega (arith, number, reached);
      month = record { days = λ e low high. days_of_month m₁ m₂ m₃ y₁ y₂ p.year p.month d e k p.year_is p.month_is is number low high; below = omega (arith, number, bound, from) };
    }

seven_bytes : (d₁ d₂ m₁ m₂ m₃ y₁ y₂ d k : ℕ) → d < 100 → two_digits d ≡ d₁ ∷ d₂ ∷ [] → day_of (d₁ ∷ d₂ ∷ m₁ ∷ m₂ ∷ m₃ ∷ y₁ ∷ y₂ ∷ []) ≡ Some k → IsOfMonth m₁ m₂ m₃ y₁ y₂ d k
unfolding day_of
seven_bytes d₁ d₂ m₁ m₂ m₃ y₁ y₂ d k low spelled read = of_parts d₁ d₂ m₁ m₂ m₃ y₁ y₂ d k (read_digits d₁ d₂ d low spelled) (parts _ _ _ k read)

pub month_of_day : (t : List ℕ) (d k : ℕ) → d < 100 → two_digits d ≡ slice_index_or t 0 0 ∷ slice_index_or t 1 0 ∷ [] → day_of t ≡ Some k → IsOfMonth (slice_index_or t 2 0) (slice_index_or t 3 0) (slice_index_or t 4 0) (slice_index_or t 5 0) (slice_index_or t 6 0) d k
unfolding day_of
month_of_day (d₁ ∷ d₂ ∷ m₁ ∷ m₂ ∷ m₃ ∷ y₁ ∷ y₂ ∷ []) d k low spelled read = seven_bytes d₁ d₂ m₁ m₂ m₃ y₁ y₂ d k low spelled read
month_of_day [] d k low spelled read = absurd cc
month_of_day (a ∷ []) d k low spelled read = absurd cc
month_of_day (a ∷ b ∷ []) d k low spelled read = absurd cc
month_of_day (a ∷ b ∷ e ∷ []) d k low spelled read = absurd cc
month_of_day (a ∷ b ∷ e ∷ f ∷ []) d k low spelled read = absurd cc
month_of_day (a ∷ b ∷ e ∷ f ∷ g ∷ []) d k low spelled read = absurd cc
month_of_day (a ∷ b ∷ e ∷ f ∷ g ∷ h ∷ []) d k low spelled read = absurd cc
month_of_day (a ∷ b ∷ e ∷ f ∷ g ∷ h ∷ i ∷ j ∷ xs) d k low spelled read = absurd cc

pub day_in_month : (t name : List ℕ) (year first d : ℕ) → length t ≡ 7 → two_digits d ≡ slice_index_or t 0 0 ∷ slice_index_or t 1 0 ∷ [] → slice_range t 2 6 ≡ name → slice_index_or t 6 0 ≡ year → IsMonth name year first → 1 ≤ d → d ≤ 28 → day_of t ≡ Some (first + (d - 1))
day_in_month (d₁ ∷ d₂ ∷ m₁ ∷ m₂ ∷ m₃ ∷ y₁ ∷ y₂ ∷ []) name year first d len spelled named in_year is low high =
    let whole : two_digits d ++ (name ++ year ∷ []) ≡ d₁ ∷ d₂ ∷ m₁ ∷ m₂ ∷ m₃ ∷ y₁ ∷ y₂ ∷ [] =
    ap (λ (x : List ℕ). x ++ (name ++ year ∷ [])) spelled
    ∙ ap (λ (x : List ℕ). d₁ ∷ d₂ ∷ (x ++ year ∷ [])) (sym named)
    ∙ ap (λ (x : ℕ). d₁ ∷ d₂ ∷ m₁ ∷ m₂ ∷ m₃ ∷ y₁ ∷ x ∷ []) (sym in_year) in
    ap day_of (sym whole) ∙ is.days d low high
day_in_month [] name year first d len spelled named in_year is low high = absurd cc
day_in_month (a ∷ []) name year first d len spelled named in_year is low high = absurd cc
day_in_month (a ∷ b ∷ []) name year first d len spelled named in_year is low high = absurd cc
day_in_month (a ∷ b ∷ e ∷ []) name year first d len spelled named in_year is low high = absurd cc
day_in_month (a ∷ b ∷ e ∷ f ∷ []) name year first d len spelled named in_year is low high = absurd cc
day_in_month (a ∷ b ∷ e ∷ f ∷ g ∷ []) name year first d len spelled named in_year is low high = absurd cc
day_in_month (a ∷ b ∷ e ∷ f ∷ g ∷ h ∷ []) name year first d len spelled named in_year is low high = absurd cc
day_in_month (a ∷ b ∷ e ∷ f ∷ g ∷ h ∷ i ∷ j ∷ xs) name year first d len spelled named in_year is low high = absurd (omega (arith, len))
