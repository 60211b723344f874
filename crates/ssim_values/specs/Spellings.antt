-- What holds of each spelling as a function: it reads exactly what its relation spells, and reads
-- back each written text.
use Rattle.std.specs.Prelude.{◌≡◌, ◌↔◌, ℕ, ◌<◌, ◌≤◌, Bool, List, Option, Some}
use Rattle.ssim_values.specs.Calendar.{day_limit, IsDayMonth}
use Rattle.ssim_values.specs.Day.{SpellsDay, day_of, day_text}
use Rattle.ssim_values.specs.DayMonth.{MonthDay, SpellsDayMonth, month_day_of, month_day_text}
use Rattle.ssim_values.specs.DayMask.{IsMask, SpellsDays, days_of, places_of, digits_of}
use Rattle.ssim_values.specs.Clock.{SpellsClock, clock_of, clock_text}
use Rattle.ssim_values.specs.Variation.{Offset, SpellsVariation, variation_of, variation_text}

-- a function reads exactly what a relation spells
abbrev pub Reads : {A : Type 0} → (List ℕ → Option A) → (A → List ℕ → Type 0) → Type 0
Reads {A = A} read Spells = (a : A) (text : List ℕ) → (read text ≡ Some a) ↔ Spells a text

-- Reading a date succeeds exactly on the texts that spell one, with that date.
abbrev pub DaysAreRead : Type 0
DaysAreRead = Reads day_of SpellsDay

-- A date's text reads back as the date.
abbrev pub DaysReadBack : Type 0
DaysReadBack = (n : ℕ) → n < day_limit → day_of (day_text n) ≡ Some n

-- Each day has only one text.
abbrev pub DaysHaveOneText : Type 0
DaysHaveOneText = (n : ℕ) (text : List ℕ) → day_of text ≡ Some n → text ≡ day_text n

-- Reading a day and month succeeds exactly on the texts that spell one, with that day and month.
abbrev pub DayMonthsAreRead : Type 0
DayMonthsAreRead = Reads month_day_of SpellsDayMonth

-- The text of a day and month reads back as the same day and month.
abbrev pub DayMonthsReadBack : Type 0
DayMonthsReadBack =
    (x : MonthDay) → IsDayMonth x.month x.day → month_day_of (month_day_text x) ≡ Some x

-- Reading days of operation succeeds exactly on the texts that spell them, with those days.
abbrev pub DayMasksAreRead : Type 0
DayMasksAreRead = Reads days_of SpellsDays

-- Each of the two texts of days of operation reads back as the same days.
abbrev pub DayMasksReadBack : Type 0
DayMasksReadBack =
    (days : List Bool) → IsMask days → (days_of (places_of days) ≡ Some days)
    × (days_of (digits_of days) ≡ Some days)

-- Reading a time succeeds exactly on the texts that spell one, with that time.
abbrev pub ClocksAreRead : Type 0
ClocksAreRead = Reads clock_of SpellsClock

-- A time's text reads back as the time.
abbrev pub ClocksReadBack : Type 0
ClocksReadBack = (n : ℕ) → n ≤ 1440 → clock_of (clock_text n) ≡ Some n

-- Reading a UTC variation succeeds exactly on the texts that spell one, with that variation.
abbrev pub VariationsAreRead : Type 0
VariationsAreRead = Reads variation_of SpellsVariation

-- The text of a UTC variation reads back as the same variation.
abbrev pub VariationsReadBack : Type 0
VariationsReadBack = (v : Offset) → v.minutes ≤ 900 → variation_of (variation_text v) ≡ Some v
