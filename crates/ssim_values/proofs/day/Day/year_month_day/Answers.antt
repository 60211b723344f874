-- The parts of the jiff date are those that counting finds.
use Rattle.std.proofs.Common.{◌≡◌, ℕ, ℤ, ◌+◌, ◌<◌, ◌-ℤ◌, arith, pos, to_z, of_z, nat_abs, w8, w16}
use Rattle.std.proofs.lemmas.Int.{ints}
use Rattle.jiff_core.specs.Date.{epoch_day}
use Rattle.jiff_core.specs.declared.civil.date.Date.{Date}
use Rattle.jiff_core.proofs.SignedLemmas.{signed_arith}
use Rattle.ssim_values.specs.Calendar.{IsDate, day_limit, day_number, year_of, month_of, day_of_month}
use Rattle.ssim_values.proofs.CalendarLemmas.{day_bound}
use Rattle.ssim_values.proofs.CalendarCount.{IsYmd-of_number, date_of_number}
use Rattle.ssim_values.proofs.day.Day.year_month_day.Goals as goal

pub overflow_cast-result : goal.overflow_cast-result
overflow_cast-result c =
    let n = c.args.self in
    let is = (date_of_number n c.date-date.ensures.bound).0 in
    let ymd = IsYmd-of_number c.date-date.result n c.date-date.ensures.bound c.date-date.ensures.day in
    omega (arith, signed_arith, ints, ymd.0, c.year.ensures, is.year_from, is.year_to)

-- what the numbers of jiff are as unsigned ones
abbrev year_from_2000 : ℤ → ℕ
year_from_2000 y = nat_abs (to_z w16 (of_z w16 (to_z w16 (of_z w16 y) -ℤ pos 2000)))

abbrev unsigned : ℤ → ℕ
unsigned n = nat_abs (to_z w8 (of_z w8 n))

found : (date : Date) (n : ℕ) (y m d : ℤ) → n < day_limit → epoch_day date ≡ pos (n + 10_957) → y ≡ date.year → m ≡ pos date.month → d ≡ pos date.day → IsDate (2000 + year_from_2000 y) (unsigned m) (unsigned d) × (day_number (2000 + year_from_2000 y) (unsigned m) (unsigned d) ≡ n)
found date n y m d h e y_is m_is d_is =
    let is = date_of_number n h in
    let ymd = IsYmd-of_number date n h e in
    let year : 2000 + year_from_2000 y ≡ year_of n = omega (arith, signed_arith, ints, ymd.0, y_is, is.0.year_from, is.0.year_to) in
    let month : unsigned m ≡ month_of n = omega (arith, signed_arith, ints, ymd.1, m_is, is.0.month_to) in
    let day : unsigned d ≡ day_of_month n = omega (arith, signed_arith, ints, ymd.2, d_is, day_bound _ _ _ is.0) in
    rw (year, month, day) is

pub returns-clause-date : goal.returns-clause-date
returns-clause-date c =
    (found c.date-date.result _ _ _ _ c.date-date.ensures.bound c.date-date.ensures.day c.year.ensures c.month.ensures c.day.ensures).0

pub returns-clause-number : goal.returns-clause-number
returns-clause-number c =
    (found c.date-date.result _ _ _ _ c.date-date.ensures.bound c.date-date.ensures.day c.year.ensures c.month.ensures c.day.ensures).1
