-- The station table that the legs of a timetable say.
use Rattle.std.specs.Prelude.{ℕ, ◌+◌, ◌++◌, ◌==◌, Bool, not, ◌&&◌, ◌||◌, nat_eq, nat_le, nat_lt}
use Rattle.std.specs.Prelude.{if◌then◌else◌, filter, List, [], ◌∷◌, map, Option, slice_index}
use Rattle.std.specs.List.{count_by, find, flat_map, list_any}
use Rattle.std.specs.Option.{option_or, option_to_list}
use Rattle.std.specs.Str.{bytes_eq}
use Rattle.ssim_values.specs.Variation.{Offset, variation_of}
use Rattle.ssim_records.specs.Leg.{leg_columns}
use Rattle.ssim_base.specs.Export.{all_flights}
use Rattle.ssim_base.specs.Stations.{Row}
use Rattle.ssim_base.specs.Timetable.{LegValue}
use Rattle.ssim_overview.specs.Totals.{LegsOn, all_stations, calendar}
use Rattle.ssim_overview.specs.declared.sayings.Saying.{Saying}

-- ---- what ends of legs say

-- whether a date variation is 0 or blank
abbrev pub is_none : ℕ → Bool
is_none column = column == 48 || column == 32

-- what an end of a leg says: that its station has its UTC variation, and whether the end is on the date
-- of origin; nothing if the variation is blank
abbrev pub end_says : List ℕ → Option Offset → ℕ → List Saying
end_says station variation date_variation =
    map (λ v. record { station = station; variation = v; is_own = is_none date_variation })
    (option_to_list variation)

-- what the departure and the arrival of a leg say
abbrev pub leg_says : LegValue → List Saying
leg_says leg =
    end_says (leg_columns 37 39 leg.columns) (variation_of (leg_columns 48 52 leg.columns))
    (slice_index (leg_columns 193 194 leg.columns) 0)
    ++ end_says (leg_columns 55 57 leg.columns) (variation_of (leg_columns 66 70 leg.columns))
    (slice_index (leg_columns 193 194 leg.columns) 1)

-- whether it is said of a station
abbrev pub is_about : List ℕ → Saying → Bool
is_about station saying = bytes_eq saying.station station

-- what the legs of all flights of a date of origin say of a station
abbrev pub said_about : LegsOn → List ℕ → ℕ → List Saying
said_about legs_on station n =
    filter (is_about station) (flat_map leg_says (flat_map (λ flight. legs_on flight n) all_flights))

-- ---- the variation that counts

-- whether two variations have the same sign and the same minutes
abbrev pub is_same : Offset → Offset → Bool
is_same v w = (if v.negative then w.negative else not w.negative) && nat_eq v.minutes w.minutes

-- whether a variation comes before another one in order of bytes: `+` before `-`, and then by HHMM
abbrev pub comes_before : Offset → Offset → Bool
comes_before v w =
    if v.negative then w.negative && nat_lt v.minutes w.minutes
    else w.negative || nat_lt v.minutes w.minutes

-- how many say a variation
abbrev pub votes : List Saying → Offset → ℕ
votes sayings v = count_by (λ saying. is_same saying.variation v) sayings

-- whether a variation is said more often than another one, or as often and comes before it
abbrev pub beats : List Saying → Offset → Offset → Bool
beats sayings v w =
    nat_lt (votes sayings w) (votes sayings v)
    || (nat_eq (votes sayings v) (votes sayings w) && comes_before v w)

-- whether no variation that is said beats this one
abbrev pub is_unbeaten : List Saying → Offset → Bool
is_unbeaten sayings v = not (list_any (λ saying. beats sayings saying.variation v) sayings)

-- the variation that is said most often, of several the first by bytes
abbrev pub most : List Saying → Option Offset
most sayings = find (is_unbeaten sayings) (map (λ saying. saying.variation) sayings)

-- what counts: the variation that the ends on their date of origin say most often, or if there are
-- none, all ends. A leg that arrives on the next day, after a change of clocks, says what is true on
-- another day.
abbrev pub said : List Saying → Option Offset
said sayings = option_or (most (filter (λ saying. saying.is_own) sayings)) (most sayings)

-- the variation of a station on a date
abbrev pub variation_on : LegsOn → List ℕ → ℕ → Option Offset
variation_on legs_on station n = said (said_about legs_on station n)

-- ---- rows

-- the most days from one date of a row to the next
abbrev pub gap : ℕ
gap = 28

-- a row of one date
abbrev pub row_of : List ℕ → ℕ × Offset → Row
row_of station date = record {
  station = station;
  first = date.0;
  last = date.0;
  variation = date.1;
}

-- whether a date belongs to the row after it: it has the same variation, and is near
abbrev pub joins : ℕ × Offset → Row → Bool
joins date row = is_same date.1 row.variation && nat_le row.first (date.0 + gap)

-- rows with a date before them: it belongs to the first of them, or is a row
abbrev pub with_date : List ℕ → ℕ × Offset → List Row → List Row
with_date station date [] = row_of station date ∷ []
with_date station date (row ∷ rows) =
    if joins date row then record row { first = date.0 } ∷ rows
    else row_of station date ∷ row ∷ rows

-- dates with their variations as rows: cut before a date that says another variation than the date
-- before it, or is more than 28 days after it
abbrev pub cut : List ℕ → List (ℕ × Offset) → List Row
cut station [] = []
cut station (date ∷ dates) = with_date station date (cut station dates)

-- the dates that have a variation, each with it
abbrev pub with_variation : (ℕ → Option Offset) → List ℕ → List (ℕ × Offset)
with_variation variation_on dates =
    flat_map (λ n. map (λ v. (n, v)) (option_to_list (variation_on n))) dates

-- the rows of a station
abbrev pub rows_of : LegsOn → List ℕ → List Row
rows_of legs_on station = cut station (with_variation (variation_on legs_on station) calendar)

-- the rows of all stations, in order of their letters
abbrev pub said_rows : LegsOn → List Row
said_rows legs_on = flat_map (rows_of legs_on) all_stations
