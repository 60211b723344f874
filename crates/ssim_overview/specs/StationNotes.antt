-- What the legs of a data set say that its station table does not have.
use Rattle.std.specs.Prelude.{ℕ, ◌++◌, Bool, true, false, not, ◌&&◌, if◌then◌else◌, List, [], ◌∷◌}
use Rattle.std.specs.Prelude.{map, Option, Some, None, slice_index}
use Rattle.std.specs.List.{count_by, flat_map, list_any}
use Rattle.std.specs.Option.{option_to_list}
use Rattle.std.specs.Str.{bytes_eq}
use Rattle.ssim_values.specs.Variation.{Offset, variation_of}
use Rattle.ssim_periods.specs.Calendar.{holds}
use Rattle.ssim_records.specs.Leg.{LegFields, leg_columns}
use Rattle.ssim_records.specs.declared.record.Record.{Record}
use Rattle.ssim_records.specs.declared.record.Record.TheVariants.{Leg}
use Rattle.ssim_base.specs.Stations.{Row, variation_at}
use Rattle.ssim_base.specs.Timetable.{period_of}
use Rattle.ssim_overview.specs.SaidRows.{is_none, is_same}
use Rattle.ssim_overview.specs.Totals.{all_stations, calendar, ends_of}
use Rattle.ssim_overview.specs.declared.leg_ends.LegEnd.{LegEnd}
use Rattle.ssim_overview.specs.declared.table_notes.NoteKind.{NoteKind}
use Rattle.ssim_overview.specs.declared.table_notes.NoteKind.TheVariants.{Missing, Other}
use Rattle.ssim_overview.specs.declared.table_notes.StationNote.{StationNote}

-- ---- the ends of leg records

-- an end of a leg record: its station, its UTC variation, none if it is blank, and whether it is on
-- the date of origin
abbrev pub leg_end : List ℕ → Option Offset → ℕ → LegEnd
leg_end station variation date_variation =
    record { station = station; variation = variation; is_own = is_none date_variation }

-- the departure of a leg record
abbrev pub departure_end : LegFields → LegEnd
departure_end leg =
    leg_end (leg_columns 37 39 leg.columns) (variation_of (leg_columns 48 52 leg.columns))
    (slice_index (leg_columns 193 194 leg.columns) 0)

-- the arrival of a leg record
abbrev pub arrival_end : LegFields → LegEnd
arrival_end leg =
    leg_end (leg_columns 55 57 leg.columns) (variation_of (leg_columns 66 70 leg.columns))
    (slice_index (leg_columns 193 194 leg.columns) 1)

-- both ends of a leg record
abbrev pub leg_ends : LegFields → List LegEnd
leg_ends leg = departure_end leg ∷ arrival_end leg ∷ []

-- the ends of the leg records whose period holds a date of origin
abbrev pub ends_on : List Record → ℕ → List LegEnd
ends_on [] n = []
ends_on (Leg leg ∷ later) n =
    if holds (period_of leg) n then leg_ends leg ++ ends_on later n else ends_on later n
ends_on (_ ∷ later) n = ends_on later n

-- ---- what the table does not have

-- whether an end says, on its date of origin, another variation
abbrev pub says_other : Offset → LegEnd → Bool
says_other v end =
    end.is_own && list_any (λ w. not (is_same w v)) (option_to_list end.variation)

-- whether an end gives a note, by the variation that the table has for its station on the date:
-- `missing` if there is none, `other` if there is one and the end says another one on its date of
-- origin
abbrev pub gives_note : NoteKind → Option Offset → LegEnd → Bool
gives_note Missing None end = true
gives_note Missing (Some v) end = false
gives_note Other None end = false
gives_note Other (Some v) end = says_other v end

-- whether an end at a station on a date of origin gives a note
abbrev pub is_noted : List Record → List Row → List ℕ → NoteKind → ℕ → Bool
is_noted records rows station kind n =
    let variation = variation_at rows station n in
    list_any (λ end. bytes_eq end.station station && gives_note kind variation end)
    (ends_on records n)

-- ---- notes

-- the note on the dates of the calendar that pass a test, if there are any: how many they are, the
-- first and the last
abbrev pub note_on : List ℕ → NoteKind → (ℕ → Bool) → List StationNote
note_on station kind test =
    map (λ days. record {
      station = station;
      kind = kind;
      dates = count_by test calendar;
      first = days.0;
      last = days.1;
    }) (option_to_list (ends_of test (list_any test calendar)))

-- the notes on a station by whether a date is noted
abbrev pub notes_on : List ℕ → (NoteKind → ℕ → Bool) → List StationNote
notes_on station test = note_on station Missing (test Missing) ++ note_on station Other (test Other)

-- the notes on all stations, in order of their letters
abbrev pub station_notes : List Record → List Row → List StationNote
station_notes records rows =
    flat_map (λ station. notes_on station (is_noted records rows station)) all_stations
