-- Periods with values as a list, of which no two hold a common day.
use Rattle.std.specs.Prelude.{◌≡◌, ◌≢◌, ℕ, ◌+◌, ◌≤◌, ◌&&◌, Bool, false, nat_lt, if◌then◌else◌, List, [], ◌∷◌, ◌++◌, length, map, slice_index_or}
use Rattle.std.specs.List.{All, Contains, list_any}
use Rattle.std.specs.List.Sorted.{IsStrictlyIncreasing}
use Rattle.ssim_values.specs.Period.{DayRange}
use Rattle.ssim_periods.specs.Calendar.{day_count, holds}
use Rattle.ssim_values.specs.Calendar.{first_on}
use Rattle.ssim_periods.specs.Cover.{cover}
use Rattle.ssim_periods.specs.clauses.Days.{Seen, changed_by_each, ends_of}
use Rattle.ssim_periods.specs.Days.{each_day}
use Rattle.ssim_periods.specs.Pieces.{held_on}

-- what contracts see of a list of days that grows at both ends: the days, and for how many more
-- there is room before them and after them
pub record DaysAndRoom : Type 0 where
  pub days : List ℕ
  pub front : ℕ
  pub back : ℕ

-- the empty value on each weekday
abbrev pub empty_week : {V : Type 0} → V → List V
empty_week nothing = nothing ∷ nothing ∷ nothing ∷ nothing ∷ nothing ∷ nothing ∷ nothing ∷ []

-- the value of a day: the value of the last period in the list that holds the day, or `nothing` if
-- no period holds it
abbrev pub value_in : {V : Type 0} → V → List (DayRange × V) → ℕ → V
value_in nothing [] n = nothing
value_in nothing (given ∷ later) n = value_in (if holds given.0 n then given.1 else nothing) later n

-- what contracts see of a list of periods with values
abbrev pub list_seen : {V : Type 0} → V → List (DayRange × V) → List ℕ → Seen V
list_seen nothing periods cuts = record { days = each_day (value_in nothing periods); cuts = cuts }

-- the cuts have the first day of each period and the day after its last
abbrev pub AreDivided : {V : Type 0} → List ℕ → List (DayRange × V) → Type 0
AreDivided cuts periods =
    All (λ given. Contains cuts given.0.first × Contains cuts (given.0.last + 1)) periods

-- no day is held twice, no value is empty, and the cuts rise to at most 36,525 and have the ends of
-- each period
pub record AreApart {V : Type 0} (nothing : V) (periods : List (DayRange × V))
    (cuts : List ℕ) : Type 0 where
  pub once : (n : ℕ) → length (held_on periods n) ≤ 1
  pub given : All (λ (given : DayRange × V). given.1 ≢ nothing) periods
  pub divided : AreDivided cuts periods
  pub rising : IsStrictlyIncreasing cuts
  pub in_calendar : All (λ cut. cut ≤ 36525) cuts

-- the cuts rise to at most 36,525, have the ends of each period, and no other day
pub record AreCutsOf {V : Type 0} (periods : List (DayRange × V)) (cuts : List ℕ) : Type 0 where
  pub divided : AreDivided cuts periods
  pub rising : IsStrictlyIncreasing cuts
  pub in_calendar : All (λ cut. cut ≤ 36525) cuts
  pub only : (others : List ℕ) → AreDivided others periods → (cut : ℕ) → Contains cuts cut
      → Contains others cut

-- The periods with values are those of changes of days that all have the empty value, each with the
-- outcome of its change. None holds a day of another.
pub record AreOutcomes {V C : Type 0} (nothing : V) (after : C → V → V)
    (changes : List (DayRange × C)) (periods : List (DayRange × V)) : Type 0 where
  pub once : (n : ℕ) → length (held_on periods n) ≤ 1
  pub given : All (λ (given : DayRange × V). given.1 ≢ nothing) periods
  pub days : each_day (value_in nothing periods)
      ≡ changed_by_each after changes (each_day (λ _. nothing))
  pub ends : AreDivided (ends_of changes) periods

-- whether a period with the value holds the day
abbrev pub given_on : {V : Type 0} → (V → V → Bool) → List (DayRange × V) → V → ℕ → Bool
given_on alike periods v n = list_any (alike v) (held_on periods n)

-- the cover of the days of a value, each period with the value
abbrev pub given_cover : {V : Type 0} → (V → V → Bool) → List (DayRange × V) → V
    → List (DayRange × V)
given_cover alike periods v =
    map (λ period. (period, v)) (cover (given_on alike periods v) day_count)

-- whether one of the periods holds the day
abbrev pub is_held : List DayRange → ℕ → Bool
is_held periods n = list_any (λ period. holds period n) periods

-- the cover of the days of some periods, each period with a value
abbrev pub held_cover : {V : Type 0} → List DayRange → V → List (DayRange × V)
held_cover periods v = map (λ period. (period, v)) (cover (is_held periods) day_count)

-- 1 on a day of one of the periods, else 0
abbrev pub mark_on : List DayRange → ℕ → ℕ
mark_on periods n = if is_held periods n then 1 else 0

-- each value once, at the last period that has it, from the last of these periods to the first
abbrev pub last_values : {V : Type 0} → (V → V → Bool) → List (DayRange × V) → List V
last_values alike [] = []
last_values alike (given ∷ later) =
    if list_any (λ other. alike given.1 other.1) later then last_values alike later
    else last_values alike later ++ given.1 ∷ []

-- which of the weekdays, Monday first, have one of the seven days from `first` on before `end`
abbrev pub weekdays_within : List Bool → ℕ → ℕ → List Bool
weekdays_within days first end =
    map (λ weekday. nat_lt (first_on weekday first) end
    && slice_index_or days weekday false) (0 ∷ 1 ∷ 2 ∷ 3 ∷ 4 ∷ 5 ∷ 6 ∷ [])
