-- The canonical division of a set of days into periods. A set is a test on days that none from day
-- `end` on passes.
use Rattle.std.specs.Prelude.{◌≡◌, ◌≢◌, ◌↔◌, ℕ, zero, suc, ◌+◌, ◌-◌, ◌≤◌, ◌<◌, Bool, true, false, not, if◌then◌else◌, nat_lt, List, [], ◌∷◌, map, slice_index_or}
use Rattle.ssim_values.specs.Period.{DayRange}
use Rattle.ssim_periods.specs.Calendar.{holds}
use Rattle.ssim_values.specs.Calendar.{first_on, slot}

-- the first of the k days from n on that passes; n + k if none does
abbrev pub first_where : (ℕ → Bool) → ℕ → ℕ → ℕ
first_where test n zero = n
first_where test n (suc k) = if test n then n else first_where test (n + 1) k

-- the last of the k days from n on that passes; n if none does
abbrev pub last_where : (ℕ → Bool) → ℕ → ℕ → ℕ
last_where test n zero = n
last_where test n (suc k) = if test (n + k) then n + k else last_where test n k

-- the weekdays, Monday first, of the set's days from a to a + 6
abbrev pub weekdays_of : (ℕ → Bool) → ℕ → List Bool
weekdays_of is_in a =
    map (λ weekday. is_in (first_on weekday a)) (0 ∷ 1 ∷ 2 ∷ 3 ∷ 4 ∷ 5 ∷ 6 ∷ [])

-- whether two tests differ
abbrev pub differ : Bool → Bool → Bool
differ true b = not b
differ false b = b

-- whether the day is in the set although its weekday is not in the mask, or the other way round
abbrev pub breaks : (ℕ → Bool) → List Bool → ℕ → Bool
breaks is_in mask n = differ (is_in n) (slice_index_or mask (slot n) false)

-- the first day from a on that breaks the pattern of the set's first seven days, or `end`: it is in
-- the set although its weekday is not in the pattern, or the other way round
abbrev pub break_after : (ℕ → Bool) → ℕ → ℕ → ℕ
break_after is_in a end = first_where (breaks is_in (weekdays_of is_in a)) a (end - a)

-- the period from a to the last day of the set before day `after`, on the weekdays of the set's
-- first seven days
abbrev pub period_at : (ℕ → Bool) → ℕ → ℕ → DayRange
period_at is_in a after =
    record { first = a; last = last_where is_in a (after - a); days = weekdays_of is_in a }

-- the cover of the set's days from `from` on: the period that begins on the least such day, then
-- the cover of the days after its break; at most `count` periods
abbrev pub cover_from : ℕ → (ℕ → Bool) → ℕ → ℕ → List DayRange
cover_from zero is_in from end = []
cover_from (suc count) is_in from end =
    let a = first_where is_in from (end - from) in
    let after = break_after is_in a end in
    if nat_lt a end then period_at is_in a after ∷ cover_from count is_in after end else []

-- the cover of a set of days before `end`
abbrev pub cover : (ℕ → Bool) → ℕ → List DayRange
cover is_in end = cover_from end is_in 0 end

-- the number of periods that hold a day
abbrev pub holding : List DayRange → ℕ → ℕ
holding [] n = 0
holding (period ∷ later) n = if holds period n then suc (holding later n) else holding later n

-- the law of covers: each day of the set is in exactly one of its periods, and no other day is in
-- any
abbrev pub CoverLaw : Type 0
CoverLaw =
    (is_in : ℕ → Bool) (end : ℕ) → ((n : ℕ) → end ≤ n → is_in n ≡ false) → (n : ℕ)
    → holding (cover is_in end) n ≡ (if is_in n then 1 else 0)

-- The next period of a set from day `from` on, in words. It begins on the least day of the set from
-- there on, on the weekdays of the set's days among the first seven. Day b is the greatest day up
-- to which a day is in the set exactly if its weekday is one of these. The period ends on the last
-- day of the set that is not after b.
pub record IsNextPeriod (is_in : ℕ → Bool) (from : ℕ) (period : DayRange) (b : ℕ) : Type 0 where
  pub begins : (from ≤ period.first) × (is_in period.first ≡ true)
  pub least : (n : ℕ) → from ≤ n → n < period.first → is_in n ≡ false
  pub days : period.days ≡ weekdays_of is_in period.first
  pub reaches : period.first ≤ b
  pub repeats : (n : ℕ) → period.first ≤ n → n ≤ b
      → is_in n ≡ slice_index_or period.days (slot n) false
  pub greatest : is_in (b + 1) ≢ slice_index_or period.days (slot (b + 1)) false
  pub ends : (period.last ≤ b) × (is_in period.last ≡ true)
  pub last : (n : ℕ) → period.last < n → n ≤ b → is_in n ≡ false

-- the periods divide the days of the set from day `from` on: one after another, each the next
abbrev pub AreDivision : ℕ → (ℕ → Bool) → List DayRange → Type 0
AreDivision from is_in [] = (n : ℕ) → from ≤ n → is_in n ≡ false
AreDivision from is_in (period ∷ later) =
    (b : ℕ) × IsNextPeriod is_in from period b × AreDivision (b + 1) is_in later

-- the law of the division: the cover of a set is its one division in these words
abbrev pub DivisionLaw : Type 0
DivisionLaw = (is_in : ℕ → Bool) (end : ℕ) → ((n : ℕ) → end ≤ n → is_in n ≡ false)
    → (periods : List DayRange) → AreDivision 0 is_in periods ↔ (periods ≡ cover is_in end)
