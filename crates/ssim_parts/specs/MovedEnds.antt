-- The times, the departure and the arrival of a leg in the other time mode, and its columns.
--
-- Days are counted from the day before: 0 is the day before, 1 the same day, 2 the day after.
use Rattle.std.specs.Prelude.{ℕ, ◌+◌, ◌-◌, ◌/◌, ◌%◌, ◌==◌, Bool, not, false, if◌then◌else◌}
use Rattle.std.specs.Prelude.{List, [], ◌∷◌, replicate, slice_index}
use Rattle.std.specs.Prelude.{Option, Some, None, unwrap_or}
use Rattle.std.specs.List.{concat}
use Rattle.ssim_values.specs.Characters.{is_digit}
use Rattle.ssim_values.specs.Clock.{clock_of, clock_text}
use Rattle.ssim_values.specs.Variation.{Offset, variation_text}
use Rattle.ssim_values.specs.declared.time_mode.TimeMode.{TimeMode}
use Rattle.ssim_values.specs.declared.time_mode.TimeMode.TheVariants.{Utc, Local}
use Rattle.ssim_columns.specs.Columns.{passenger_time_of, utc_variation_of}
use Rattle.ssim_columns.specs.Leg.{leg_columns}
use Rattle.ssim_parts.specs.declared.leg_end.LegEnd.{LegEnd}
use Rattle.ssim_parts.specs.declared.moved_time.MovedTime.{MovedTime}
use Rattle.ssim_parts.specs.declared.moved_end.MovedEnd.{MovedEnd}

-- ---- a time

-- the time that is some minutes after 0000 of the day before
abbrev pub time_at : ℕ → MovedTime
time_at minutes = record { day = minutes / 1440; minutes = minutes % 1440 }

-- whether a time becomes a later one: in local time, if the station is ahead of UTC; in UTC, if it
-- is behind
abbrev pub becomes_later : TimeMode → Offset → Bool
becomes_later Local variation = not variation.negative
becomes_later Utc variation = variation.negative

-- A time of the other time mode in the wanted one, at a station with this UTC variation. A variation
-- of 0 moves nothing, so that 2400 stays 2400.
abbrev pub moved_time : TimeMode → Offset → ℕ → MovedTime
moved_time wanted variation minutes =
    if variation.minutes == 0 then record { day = 1; minutes = minutes }
    else (if becomes_later wanted variation then time_at (1440 + minutes + variation.minutes)
    else time_at (1440 + minutes - variation.minutes))

-- ---- an end of a leg: its departure or its arrival

-- the departure of a leg with these columns
abbrev pub departure_of : List ℕ → LegEnd
departure_of columns = record {
  station = leg_columns 37 39 columns;
  passenger = unwrap_or (passenger_time_of (leg_columns 40 43 columns)) None;
  time = unwrap_or (clock_of (leg_columns 44 47 columns)) 0;
  variation = unwrap_or (utc_variation_of (leg_columns 48 52 columns)) None;
  date_variation = slice_index (leg_columns 193 194 columns) 0;
}

-- the arrival
abbrev pub arrival_of : List ℕ → LegEnd
arrival_of columns = record {
  station = leg_columns 55 57 columns;
  passenger = unwrap_or (passenger_time_of (leg_columns 62 65 columns)) None;
  time = unwrap_or (clock_of (leg_columns 58 61 columns)) 0;
  variation = unwrap_or (utc_variation_of (leg_columns 66 70 columns)) None;
  date_variation = slice_index (leg_columns 193 194 columns) 1;
}

-- how many days after the date of origin a date variation is: a digit, or a blank for 0
abbrev pub days_after : ℕ → Option ℕ
days_after byte = if is_digit byte then Some (byte - 48) else (if byte == 32 then Some 0 else None)

-- a UTC variation of 0
abbrev pub no_variation : Offset
no_variation = record { negative = false; minutes = 0 }

-- a passenger time moves on the clock alone; a blank one stays
abbrev pub moved_passenger : TimeMode → Offset → Option ℕ → Option ℕ
moved_passenger wanted variation None = None
moved_passenger wanted variation (Some minutes) =
    Some ((moved_time wanted variation minutes).minutes)

-- An end in the new time mode, if its UTC variation is known. Its day is counted from the day
-- before the old date of origin.
abbrev pub end_moved_by : TimeMode → Offset → LegEnd → MovedEnd
end_moved_by wanted variation end =
    let time = moved_time wanted variation end.time in
    record {
      variation = variation;
      minutes = time.minutes;
      passenger = moved_passenger wanted variation end.passenger;
      day = unwrap_or (days_after end.date_variation) 0 + time.day;
    }

-- ---- the columns of a leg

-- the text of a passenger time, four blanks for none
abbrev pub passenger_text : Option ℕ → List ℕ
passenger_text None = replicate 4 32
passenger_text (Some minutes) = clock_text minutes

-- A leg's columns with these ends, for a date of origin that is `shift` days after the day before
-- the old one. Columns 40 to 52, 58 to 70, 193 and 194 are new. The others stay.
unfoldable pub with_ends : MovedEnd → MovedEnd → ℕ → List ℕ → List ℕ
with_ends departure arrival shift d =
    concat (leg_columns 14 14 d
    ∷ leg_columns 37 39 d
    ∷ passenger_text departure.passenger
    ∷ clock_text departure.minutes
    ∷ variation_text departure.variation
    ∷ leg_columns 53 54 d
    ∷ leg_columns 55 57 d
    ∷ clock_text arrival.minutes
    ∷ passenger_text arrival.passenger
    ∷ variation_text arrival.variation
    ∷ leg_columns 71 127 d
    ∷ leg_columns 129 172 d
    ∷ leg_columns 173 192 d
    ∷ ((48 + (departure.day - shift)) ∷ (48 + (arrival.day - shift)) ∷ [])
    ∷ [])
