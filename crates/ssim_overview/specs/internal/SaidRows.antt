-- What is said on the dates of periods, and rows that grow date by date.
use Rattle.std.specs.Prelude.{◌≡◌, ◌⊎◌, ℕ, ◌+◌, ◌-◌, ◌%◌, ◌++◌, ◌≤◌, ◌<◌, Bool, not, ◌&&◌, ◌||◌, nat_le}
use Rattle.std.specs.Prelude.{nat_lt, fold, filter, length}
use Rattle.std.specs.Prelude.{if◌then◌else◌, List, [], ◌∷◌, map, Option, Some, None, slice_index_or}
use Rattle.std.specs.List.{AllByRecursion, flat_map, range_with_len}
use Rattle.ssim_values.specs.Period.{DayRange}
use Rattle.ssim_values.specs.Variation.{Offset}
use Rattle.ssim_base.specs.Export.{Piece}
use Rattle.ssim_base.specs.Stations.{Row}
use Rattle.ssim_base.specs.Timetable.{LegValue}
use Rattle.ssim_periods.specs.Pieces.{held_on}
use Rattle.ssim_schedule.specs.FlightPieces.{Divided}
use Rattle.ssim_overview.specs.Totals.{station_at}
use Rattle.ssim_overview.specs.SaidRows.{beats, gap, is_about, is_same, leg_says, row_of, said, with_variation}
use Rattle.ssim_overview.specs.declared.sayings.Saying.{Saying}

-- ---- what legs say on the dates of periods

-- what is said on the dates of a period
abbrev pub Dated : Type 0
Dated = DayRange × Saying

-- what is said, on the dates of a period
abbrev pub dated : DayRange → List Saying → List Dated
dated period sayings = map (λ saying. (period, saying)) sayings

abbrev pub leg_says_on : DayRange → LegValue → List Dated
leg_says_on period leg = dated period (leg_says leg)

abbrev pub legs_say : DayRange → List LegValue → List Dated
legs_say period legs = flat_map (leg_says_on period) legs

abbrev pub pieces_say : List Piece → List Dated
pieces_say pieces = flat_map (λ piece. legs_say piece.0 piece.1) pieces

abbrev pub flights_say : List Divided → List Dated
flights_say flights = flat_map (λ flight. pieces_say flight.1) flights

-- ---- the variation that counts

-- the better of a variation and another one, if there is another one
abbrev pub better : List Saying → Offset → Option Offset → Option Offset
better sayings v None = Some v
better sayings v (Some w) = if not (is_same v w) && beats sayings v w then Some v else Some w

-- ---- stations

-- what is said of a station
abbrev pub about : List ℕ → List Dated → List Dated
about station sayings = filter (λ saying. is_about station saying.1) sayings

-- the lists have what is said of each station at its rank
pub record AreByRank (sayings : List Dated) (lists : List (List Dated)) : Type 0 where
  pub len : length lists ≡ 17576
  pub each : (k : ℕ) → k < 17576 → slice_index_or lists k [] ≡ about (station_at k) sayings

-- the lists have some more that is said
pub record AddsSayings (sayings : List Dated) (old new : List (List Dated)) : Type 0 where
  pub len : length new ≡ length old
  pub each : (k : ℕ) → k < 17576
      → slice_index_or new k [] ≡ slice_index_or old k [] ++ about (station_at k) sayings

-- ---- rows

-- whether a row goes on to a date after it
abbrev pub goes_on : Row → ℕ × Offset → Bool
goes_on row date = is_same row.variation date.1 && nat_le date.0 (row.last + gap)

-- rows with a date after them
abbrev pub extended : List ℕ → List Row → ℕ × Offset → List Row
extended station [] date = row_of station date ∷ []
extended station (row ∷ []) date =
    if goes_on row date then record row { last = date.0 } ∷ [] else row ∷ row_of station date ∷ []
extended station (row ∷ next ∷ rows) date = row ∷ extended station (next ∷ rows) date

-- rows with dates after them
abbrev pub grown : List ℕ → List Row → List (ℕ × Offset) → List Row
grown station rows dates = fold (extended station) rows dates

-- the dates among some on which something is said, each with its variation
abbrev pub dates_said : List Dated → ℕ → ℕ → List (ℕ × Offset)
dates_said sayings from count =
    with_variation (λ n. said (held_on sayings n)) (range_with_len from count)

-- the rows of a station by what is said
abbrev pub rows_by : List Dated → List ℕ → List Row
rows_by sayings station = grown station [] (dates_said (about station sayings) 0 36525)

-- the rows of the station of a rank by what is said at the rank
abbrev pub rank_rows : List (List Dated) → ℕ → List Row
rank_rows lists k =
    grown (station_at k) [] (dates_said (slice_index_or lists k []) 0 36525)

-- what is said on a day by the week from a first day on
abbrev pub by_week : List (Option Offset) → ℕ → ℕ → Option Offset
by_week week from n = slice_index_or week ((n - from) % 7) None

-- no period begins or is over after the first of two days and before the second
abbrev pub Unchanged : ℕ → ℕ → List Dated → Type 0
Unchanged from end sayings = AllByRecursion (λ saying.
    (saying.0.first ≤ from ⊎ end ≤ saying.0.first) × (saying.0.last + 1 ≤ from ⊎ end ≤ saying.0.last + 1)) sayings

-- whether a period neither begins nor is over after the first of two days and before the second
abbrev pub is_steady : ℕ → ℕ → DayRange → Bool
is_steady from end period =
    (nat_le period.first from || nat_le end period.first)
    && (nat_le (period.last + 1) from || nat_le end (period.last + 1))

-- whether a period has a day from the first of two days to the one before the second
abbrev pub meets : ℕ → ℕ → DayRange → Bool
meets from end period = nat_lt period.first end && nat_le from period.last
