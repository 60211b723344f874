-- Counting through the years and months finds the date that has a number, which is the date of jiff.
use Rattle.std.proofs.Common.{◌≡◌, ℕ, zero, suc, ◌+◌, ◌-◌, ◌*◌, ◌<◌, ◌≤◌, true, false, nat_lt, if◌then◌else◌, refl, sym, ap, ◌∙◌, arith, pos}
use Rattle.std.proofs.lemmas.Bool.Decides.{nat_tests}
use Rattle.jiff_core.specs.Date.{epoch_day, IsYmd}
use Rattle.jiff_core.specs.declared.civil.date.Date.{Date}
use Rattle.ssim_values.proofs.CalendarLemmas.{IsYmd-epoch_day}
use Rattle.ssim_values.specs.Calendar.{is_leap, month_length, leap_years, months_length, day_number, IsDate, Within, year_from, month_from, year_of, month_of, day_of_month, day_limit}

-- how long the year y is
abbrev year_length : ℕ → ℕ
year_length y = if is_leap y then 366 else 365

-- the days from 2000 up to a year
abbrev before_year : ℕ → ℕ
before_year y = 365 * (y - 2000) + leap_years (y - 2000)

next_year : (y : ℕ) → 2000 ≤ y → before_year (y + 1) ≡ before_year y + year_length y
unfolding leap_years
next_year y low =
    let k : y + 1 - 2000 ≡ suc (y - 2000) = omega arith in
    let at : 2000 + (y - 2000) ≡ y = omega arith in
    rw k (rw at (grind arith))

record IsInYear (y n : ℕ) (w : Within) : Type 0 where
  from : y ≤ w.unit
  to : w.unit ≤ 2099
  over : w.over < year_length w.unit
  count : before_year w.unit + w.over ≡ before_year y + n

in_year : (k y n : ℕ) → 2000 ≤ y → y + k ≡ 2100 → before_year y + n < 36525 → before_year 2100 ≡ 36525 → IsInYear y n (year_from k y n)
in_year zero y n low end h all = absurd (let e : y ≡ 2100 = omega arith in omega (arith, ap before_year e))
in_year (suc k) y n low end h all =
    elim (nat_lt n (year_length y)) as (λ b. nat_lt n (year_length y) ≡ b → IsInYear y n (if b then record { unit = y; over = n } else year_from k (y + 1) (n - year_length y))) [
      | true ↦ λ t. record { from = omega arith; to = omega arith; over = grind (arith, nat_tests); count = refl }
      | false ↦ λ f.
          let long : year_length y ≤ n = grind (arith, nat_tests) in
          let next = next_year y low in
          let r = in_year k (y + 1) (n - year_length y) (omega arith) (omega arith) (omega arith) all in
          record { from = omega (arith, r.from); to = r.to; over = r.over; count = omega (arith, r.count) }
    ] refl

-- the year of a day, and the days of it that are over
year_found : (n : ℕ) → n < day_limit → IsInYear 2000 n (year_from 100 2000 n)
unfolding leap_years
year_found n h = in_year 100 2000 n (omega arith) refl (omega arith) refl

record IsInMonth (y m n : ℕ) (w : Within) : Type 0 where
  from : m ≤ w.unit
  to : w.unit ≤ 12
  over : w.over < month_length y w.unit
  count : months_length y (w.unit - 1) + w.over ≡ months_length y (m - 1) + n

next_month : (y m : ℕ) → 1 ≤ m → months_length y m ≡ months_length y (m - 1) + month_length y m
unfolding months_length
next_month y zero low = absurd (omega arith)
next_month y (suc m) low =
    let e : suc m - 1 ≡ m = omega arith in
    rw e refl

in_month : (k y m n : ℕ) → 1 ≤ m → m + k ≡ 13 → months_length y (m - 1) + n < months_length y 12 → IsInMonth y m n (month_from k y m n)
in_month zero y m n low end h = absurd (let e : m - 1 ≡ 12 = omega arith in omega (arith, ap (months_length y) e))
in_month (suc k) y m n low end h =
    elim (nat_lt n (month_length y m)) as (λ b. nat_lt n (month_length y m) ≡ b → IsInMonth y m n (if b then record { unit = m; over = n } else month_from k y (m + 1) (n - month_length y m))) [
      | true ↦ λ t. record { from = omega arith; to = omega arith; over = grind (arith, nat_tests); count = refl }
      | false ↦ λ f.
          let long : month_length y m ≤ n = grind (arith, nat_tests) in
          let next = next_month y m low in
          let at : m + 1 - 1 ≡ m = omega arith in
          let same : months_length y (m + 1 - 1) ≡ months_length y m = ap (months_length y) at in
          let r = in_month k y (m + 1) (n - month_length y m) (omega arith) (omega arith) (omega arith) in
          record { from = omega (arith, r.from); to = r.to; over = r.over; count = omega (arith, r.count) }
    ] refl

year_is_long : (y : ℕ) → months_length y 12 ≡ year_length y
unfolding months_length
year_is_long y = grind arith

none_over : (y : ℕ) → months_length y (1 - 1) ≡ 0
unfolding months_length
none_over y = refl

none_before : (y n : ℕ) → n < year_length y → months_length y 12 ≡ year_length y → months_length y (1 - 1) + n < months_length y 12
none_before y n h e = omega (arith, none_over y)

nothing_before : before_year 2000 ≡ 0
unfolding leap_years
nothing_before = refl

pub date_of_number : (n : ℕ) → n < day_limit → IsDate (year_of n) (month_of n) (day_of_month n) × (day_number (year_of n) (month_of n) (day_of_month n) ≡ n)
unfolding year_of month_of day_of_month day_number
date_of_number n h =
    let year = year_found n h in
    let long = year_is_long (year_from 100 2000 n).unit in
    let month = in_month 12 (year_from 100 2000 n).unit 1 (year_from 100 2000 n).over (omega arith) refl (none_before _ _ year.over long) in
    let here = month.count in
    let first = none_over (year_from 100 2000 n).unit in (
      record { year_from = year.from; year_to = year.to; month_from = month.from; month_to = month.to; day_from = omega arith; day_to = omega (arith, month.over) },
      omega (arith, year.count, month.count, first, nothing_before),
    )

pub IsYmd-of_number : (date : Date) (n : ℕ) → n < day_limit → epoch_day date ≡ pos (n + 10_957) → IsYmd (pos (year_of n)) (pos (month_of n)) (pos (day_of_month n)) date
IsYmd-of_number date n h e =
    let is = date_of_number n h in
    IsYmd-epoch_day date _ _ _ is.0 (e ∙ ap (λ k. pos (k + 10_957)) (sym is.1))
