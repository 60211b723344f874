-- The rows and the ends of a data set by station, and the dates that they mark.
use Rattle.std.specs.Prelude.{◌≡◌, ℕ, ◌++◌, ◌<◌, Bool, true, false, not, ◌&&◌, ◌||◌, nat_le, nat_lt}
use Rattle.std.specs.Prelude.{filter}
use Rattle.std.specs.Prelude.{if◌then◌else◌, List, [], ◌∷◌, map, length, Option, Some, None}
use Rattle.std.specs.Prelude.{slice_index_or}
use Rattle.std.specs.List.{flat_map, list_any}
use Rattle.std.specs.Str.{bytes_eq}
use Rattle.ssim_values.specs.Period.{DayRange}
use Rattle.ssim_periods.specs.Calendar.{holds}
use Rattle.ssim_values.specs.Variation.{variation_of}
use Rattle.ssim_records.specs.Leg.{LegFields, leg_columns}
use Rattle.ssim_records.specs.declared.record.Record.{Record}
use Rattle.ssim_records.specs.declared.record.Record.TheVariants.{Leg}
use Rattle.ssim_base.specs.Stations.{Row, variation_at}
use Rattle.ssim_base.specs.Timetable.{period_of}
use Rattle.ssim_overview.specs.StationNotes.{gives_note, leg_end, leg_ends, notes_on}
use Rattle.ssim_overview.specs.Totals.{station_at}
use Rattle.ssim_overview.specs.declared.leg_ends.LegEnd.{LegEnd}
use Rattle.ssim_overview.specs.declared.table_notes.NoteKind.{NoteKind}
use Rattle.ssim_overview.specs.declared.table_notes.NoteKind.TheVariants.{Other}
use Rattle.ssim_overview.specs.declared.table_notes.StationNote.{StationNote}

-- ---- ends with their periods

-- an end, on the dates of a period
abbrev pub DatedEnd : Type 0
DatedEnd = DayRange × LegEnd

-- the ends of a leg record, on the dates of its period
abbrev pub dated_ends : LegFields → List DatedEnd
dated_ends leg = map (λ end. (period_of leg, end)) (leg_ends leg)

-- the ends of a record: none if it is no leg record
abbrev pub record_ends : Record → List DatedEnd
record_ends (Leg leg) = dated_ends leg
record_ends _ = []

-- the ends of records
abbrev pub records_ends : List Record → List DatedEnd
records_ends records = flat_map record_ends records

-- ---- by station

-- the rows of a station
abbrev pub rows_about : List ℕ → List Row → List Row
rows_about station rows = filter (λ row. bytes_eq row.station station) rows

-- the lists have the rows of each station at its rank
pub record AreByStation (rows : List Row) (table : List (List Row)) : Type 0 where
  pub len : length table ≡ 17576
  pub each : (k : ℕ) → k < 17576 → slice_index_or table k [] ≡ rows_about (station_at k) rows

-- whether a row has no day of a period
abbrev pub is_beside : Row → DayRange → Bool
is_beside row period = nat_lt row.last period.first || nat_lt period.last row.first

-- whether a row has each day of a period
abbrev pub is_around : Row → DayRange → Bool
is_around row period = nat_le row.first period.first && nat_le period.last row.last

-- whether the first of these rows with a day of a period has all of them, and an end does not say
-- another variation
abbrev pub is_quiet : List Row → DayRange → LegEnd → Bool
is_quiet [] period end = false
is_quiet (row ∷ rows) period end =
    if is_beside row period then is_quiet rows period end
    else is_around row period && not (gives_note Other (Some row.variation) end)

-- no end with the variation of a text may give a note, by these rows
abbrev pub IsQuietText : List Row → DayRange → List ℕ → Type 0
IsQuietText rows period text =
    (station : List ℕ) (date_variation : ℕ)
    → is_quiet rows period (leg_end station (variation_of text) date_variation) ≡ true

-- neither end of a leg with these columns may give a note, by the lists of rows
pub record AreQuiet (table : List (List Row)) (period : DayRange) (columns : List ℕ) : Type 0 where
  pub departure : (k : ℕ) → k < 17576 → bytes_eq (leg_columns 37 39 columns) (station_at k) ≡ true
      → IsQuietText (slice_index_or table k []) period (leg_columns 48 52 columns)
  pub arrival : (k : ℕ) → k < 17576 → bytes_eq (leg_columns 55 57 columns) (station_at k) ≡ true
      → IsQuietText (slice_index_or table k []) period (leg_columns 66 70 columns)

-- whether an end of a station may give a note on a date of its period
abbrev pub is_kept : List ℕ → List Row → DatedEnd → Bool
is_kept station rows end =
    bytes_eq end.1.station station
    && (nat_le end.0.first end.0.last && not (is_quiet rows end.0 end.1))

-- the lists have those of some ends that may give a note, at the ranks of their stations
pub record AreEnds (table : List (List Row)) (ends : List DatedEnd)
    (lists : List (List DatedEnd)) : Type 0 where
  pub len : length lists ≡ 17576
  pub each : (k : ℕ) → k < 17576
      → slice_index_or lists k []
      ≡ filter (is_kept (station_at k) (slice_index_or table k [])) ends

-- the lists have those of some more ends
pub record AddsEnds (table : List (List Row)) (ends : List DatedEnd)
    (old new : List (List DatedEnd)) : Type 0 where
  pub len : length new ≡ length old
  pub each : (k : ℕ) → k < 17576
      → slice_index_or new k []
      ≡ slice_index_or old k [] ++ filter (is_kept (station_at k) (slice_index_or table k [])) ends

-- ---- the dates of a station

-- whether an end gives a note on a date
abbrev pub is_marked_by : List ℕ → NoteKind → List Row → ℕ → DatedEnd → Bool
is_marked_by station kind rows n end =
    holds end.0 n && gives_note kind (variation_at rows station n) end.1

-- whether one of some ends gives a note on a date
abbrev pub is_marked : List ℕ → NoteKind → List Row → List DatedEnd → ℕ → Bool
is_marked station kind rows ends n = list_any (is_marked_by station kind rows n) ends

-- the dates that pass a test are marked, too
pub record AddsDates (test : ℕ → Bool) (old new : List Bool) : Type 0 where
  pub len : length new ≡ length old
  pub each : (n : ℕ) → n < 36525
      → slice_index_or new n false ≡ (slice_index_or old n false || test n)

-- a first and a last date after one more date, if it is marked
abbrev pub extended : Option (ℕ × ℕ) → Bool → ℕ → Option (ℕ × ℕ)
extended days false n = days
extended None true n = Some (n, n)
extended (Some days) true n = Some (days.0, n)

-- the notes on the station of a rank, by its rows and ends
abbrev pub rank_notes : List (List Row) → List (List DatedEnd) → ℕ → List StationNote
rank_notes table ends k =
    notes_on (station_at k)
    (λ kind. is_marked (station_at k) kind (slice_index_or table k []) (slice_index_or ends k []))
