-- The parts of a list's periods when a change comes for the days of another period.
use Rattle.std.specs.Prelude.{ℕ, ◌+◌, ◌-◌, Bool, true, false, not, ◌&&◌, ◌||◌, if◌then◌else◌, nat_lt, max, min, Option, Some, None, is_some, List, [], ◌∷◌, ◌++◌, map, slice_index_or}
use Rattle.std.specs.List.{list_any}
use Rattle.ssim_values.specs.Period.{DayRange}
use Rattle.ssim_periods.specs.CommonDays.{meet}
use Rattle.ssim_periods.specs.Pieces.{held_on}

-- whether a weekday is set
abbrev pub any_weekday : List Bool → Bool
any_weekday days =
    (((((slice_index_or days 0 false || slice_index_or days 1 false) || slice_index_or days 2 false)
    || slice_index_or days 3 false) || slice_index_or days 4 false) || slice_index_or days 5 false)
    || slice_index_or days 6 false

-- the weekdays of both of two masks
abbrev pub days_of_both : List Bool → List Bool → List Bool
days_of_both days others =
    map (λ w. slice_index_or days w false && slice_index_or others w false)
    (0 ∷ 1 ∷ 2 ∷ 3 ∷ 4 ∷ 5 ∷ 6 ∷ [])

-- the weekdays of the first mask that the other has not
abbrev pub days_of_one : List Bool → List Bool → List Bool
days_of_one days others =
    map (λ w. slice_index_or days w false && not (slice_index_or others w false))
    (0 ∷ 1 ∷ 2 ∷ 3 ∷ 4 ∷ 5 ∷ 6 ∷ [])

-- the period of the days before `end` from `first` on that have one of the weekdays; none if there
-- is no day before `end`, or no weekday is set
abbrev pub part : ℕ → ℕ → List Bool → Option DayRange
part first end days =
    if nat_lt first end && any_weekday days
    then Some (record { first = first; last = end - 1; days = days }) else None

-- the part of a period between the first and the last day of another, on these weekdays
abbrev pub part_within : DayRange → DayRange → List Bool → Option DayRange
part_within own other days =
    part (max own.first other.first) (min own.last other.last + 1) days

-- the days of a period before the first day of another
abbrev pub before_part : DayRange → DayRange → Option DayRange
before_part own other = part own.first (min (own.last + 1) other.first) own.days

-- the days of a period between the first and the last day of another, on other weekdays
abbrev pub beside_part : DayRange → DayRange → Option DayRange
beside_part own other = part_within own other (days_of_one own.days other.days)

-- the days of a period after the last day of another
abbrev pub after_part : DayRange → DayRange → Option DayRange
after_part own other = part (max own.first (other.last + 1)) (own.last + 1) own.days

-- the days of a period that another has too
abbrev pub common_part : DayRange → DayRange → Option DayRange
common_part own other = part_within own other (days_of_both own.days other.days)

-- the first of two that is there
abbrev pub first_of : Option DayRange → Option DayRange → Option DayRange
first_of None other = other
first_of (Some p) other = Some p

-- the first, second and third of the three parts without the days of another period
abbrev pub first_part : DayRange → DayRange → Option DayRange
first_part own other =
    first_of (before_part own other) (first_of (beside_part own other) (after_part own other))

abbrev pub second_part : DayRange → DayRange → Option DayRange
second_part own other = if is_some (before_part own other) then beside_part own other else None

abbrev pub third_part : DayRange → DayRange → Option DayRange
third_part own other =
    if is_some (before_part own other) || is_some (beside_part own other) then after_part own other
    else None

-- a part with a value
abbrev pub with_value : {V : Type 0} → Option DayRange → V → List (DayRange × V)
with_value None v = []
with_value (Some p) v = (p, v) ∷ []

-- the common days with a new value, if that is not empty
abbrev pub with_outcome : {V : Type 0} → (V → V → Bool) → V → Option DayRange → V
    → List (DayRange × V)
with_outcome alike nothing part v = if alike v nothing then [] else with_value part v

-- what stays of an entry in its place
abbrev pub kept_of : {V : Type 0} → DayRange → DayRange × V → List (DayRange × V)
kept_of period entry =
    if meet period entry.0 then with_value (first_part entry.0 period) entry.1 else entry ∷ []

-- what is added for an entry
abbrev pub added_of : {V : Type 0} → (V → V → Bool) → V → (V → V) → DayRange → DayRange × V
    → List (DayRange × V)
added_of alike nothing after period entry =
    if meet period entry.0
    then with_value (second_part entry.0 period) entry.1
    ++ with_value (third_part entry.0 period) entry.1
    ++ with_outcome alike nothing (common_part entry.0 period) (after entry.1)
    else []

-- what stays of the entries
abbrev pub kept_parts : {V : Type 0} → DayRange → List (DayRange × V) → List (DayRange × V)
kept_parts period [] = []
kept_parts period (entry ∷ later) = kept_of period entry ++ kept_parts period later

-- what is added, for the last entry first
abbrev pub added_parts : {V : Type 0} → (V → V → Bool) → V → (V → V) → DayRange
    → List (DayRange × V) → List (DayRange × V)
added_parts alike nothing after period [] = []
added_parts alike nothing after period (entry ∷ later) =
    added_parts alike nothing after period later ++ added_of alike nothing after period entry

-- whether a day is in the set and has a value that passes
abbrev pub finds : {V : Type 0} → (ℕ → Bool) → (V → Bool) → List (DayRange × V) → ℕ → Bool
finds is_in test entries n = is_in n && list_any test (held_on entries n)

-- whether a value is there
abbrev pub any_value : {V : Type 0} → V → Bool
any_value v = true
