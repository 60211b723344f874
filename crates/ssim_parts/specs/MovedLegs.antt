-- The legs of one flight date in the other time mode, and why it has no place there.
use Rattle.std.specs.Prelude.{ℕ, ◌+◌, ◌||◌, nat_lt, if◌then◌else◌, List, [], ◌∷◌, map}
use Rattle.std.specs.Prelude.{Option, Some, None, is_none, unwrap_or}
use Rattle.ssim_values.specs.Variation.{Offset}
use Rattle.ssim_values.specs.declared.time_mode.TimeMode.{TimeMode}
use Rattle.ssim_base.specs.Stations.{Row, variation_at}
use Rattle.ssim_base.specs.Timetable.{LegValue, Legs}
use Rattle.ssim_parts.specs.MovedEnds.{arrival_of, days_after, departure_of, end_moved_by}
use Rattle.ssim_parts.specs.MovedEnds.{moved_time, no_variation, with_ends}
use Rattle.ssim_parts.specs.declared.leg_end.LegEnd.{LegEnd}
use Rattle.ssim_parts.specs.declared.moved_end.MovedEnd.{MovedEnd}
use Rattle.ssim_parts.specs.declared.moved_flight.MovedFlight.{MovedFlight}
use Rattle.ssim_parts.specs.declared.fate.Fate.{Fate}
use Rattle.ssim_parts.specs.declared.fate.Fate.TheVariants.{Absent, Kept, Left}
use Rattle.ssim_parts.specs.declared.fate.LeftReason.{LeftReason}
use Rattle.ssim_parts.specs.declared.fate.LeftReason.TheVariants.{Station, Letter, Calendar, Days}

-- ---- an end of a leg on a date

-- the UTC variation of the columns, or if they are blank the one that a table has
abbrev pub or_of_table : Option Offset → Option Offset → Option Offset
or_of_table None of_table = of_table
or_of_table (Some own) of_table = Some own

-- the UTC variation of an end on a date: its own or, if that is blank, the one that the rows have
-- for the station and the date, as NEW writes it
abbrev pub variation_on : List Row → ℕ → LegEnd → Option Offset
variation_on rows n end = or_of_table end.variation (variation_at rows end.station n)

-- the UTC variation of an end on a date; 0 if none is known, but then the flight date is left
abbrev pub known_variation : List Row → ℕ → LegEnd → Offset
known_variation rows n end = unwrap_or (variation_on rows n end) no_variation

-- an end of a date in the new time mode
abbrev pub moved_end : List Row → TimeMode → ℕ → LegEnd → MovedEnd
moved_end rows wanted n end = end_moved_by wanted (known_variation rows n end) end

-- a leg of a date in the new time mode
abbrev pub moved_leg : List Row → TimeMode → ℕ → ℕ → LegValue → LegValue
moved_leg rows wanted n shift leg = record leg {
  columns = with_ends (moved_end rows wanted n (departure_of leg.columns))
      (moved_end rows wanted n (arrival_of leg.columns)) shift leg.columns;
}

-- ---- the legs

-- To which day the date of origin moves: the day on which the first leg departs.
abbrev pub shift_of : List Row → TimeMode → ℕ → Legs → ℕ
shift_of rows wanted n [] = 1
shift_of rows wanted n (leg ∷ legs) =
    let departure = departure_of leg.columns in
    (moved_time wanted (known_variation rows n departure) departure.time).day

-- the legs of a flight date in the new time mode
abbrev pub moved_legs : List Row → TimeMode → ℕ → Legs → Legs
moved_legs rows wanted n legs =
    map (moved_leg rows wanted n (shift_of rows wanted n legs)) legs

-- ---- why a flight date has no place in a data set of the new time mode

-- the first reason, or else the next one
abbrev pub or_reason : Option LeftReason → Option LeftReason → Option LeftReason
or_reason None next = next
or_reason (Some reason) next = Some reason

-- `station`: the UTC variation is blank, and no row has the station and the date. `letter`: the date
-- variation is neither digit nor blank.
abbrev pub end_unknown : List Row → ℕ → ℕ → LegEnd → Option LeftReason
end_unknown rows n sequence end =
    if is_none (variation_on rows n end) then Some (Station sequence)
    else (if is_none (days_after end.date_variation) then Some (Letter sequence) else None)

-- the first of these reasons, leg by leg and departure first
abbrev pub unknown_in : List Row → ℕ → Legs → Option LeftReason
unknown_in rows n [] = None
unknown_in rows n (leg ∷ legs) =
    or_reason (end_unknown rows n leg.sequence (departure_of leg.columns))
    (or_reason (end_unknown rows n leg.sequence (arrival_of leg.columns)) (unknown_in rows n legs))

-- `calendar`: the new date is before 1 January 2000 or after 31 December 2099
abbrev pub outside : ℕ → ℕ → Option LeftReason
outside n shift =
    if nat_lt (n + shift) 1 || nat_lt 36525 (n + shift) then Some Calendar else None

-- `days`: the new date variation would be below 0 or above 9
abbrev pub end_beyond : ℕ → ℕ → MovedEnd → Option LeftReason
end_beyond sequence shift end =
    if nat_lt end.day shift || nat_lt (shift + 9) end.day then Some (Days sequence) else None

-- the first of these, leg by leg and departure first
abbrev pub beyond_in : List Row → TimeMode → ℕ → ℕ → Legs → Option LeftReason
beyond_in rows wanted n shift [] = None
beyond_in rows wanted n shift (leg ∷ legs) =
    or_reason
    (end_beyond leg.sequence shift (moved_end rows wanted n (departure_of leg.columns)))
    (or_reason (end_beyond leg.sequence shift (moved_end rows wanted n (arrival_of leg.columns)))
    (beyond_in rows wanted n shift legs))

-- the first reason of a flight date that does not lie in other dates
abbrev pub own_reason : List Row → TimeMode → ℕ → Legs → Option LeftReason
own_reason rows wanted n legs =
    let shift = shift_of rows wanted n legs in
    or_reason (unknown_in rows n legs)
    (or_reason (outside n shift) (beyond_in rows wanted n shift legs))

-- left for a reason, or else kept with its shift
abbrev pub left_or_kept : Option LeftReason → ℕ → Fate
left_or_kept None shift = Kept shift
left_or_kept (Some reason) shift = Left reason

-- what becomes of a flight date, other dates left aside
abbrev pub own_fate : List Row → TimeMode → ℕ → Legs → Fate
own_fate rows wanted n [] = Absent
own_fate rows wanted n (leg ∷ legs) =
    left_or_kept (own_reason rows wanted n (leg ∷ legs)) (shift_of rows wanted n (leg ∷ legs))

-- ---- both

-- the legs of a flight date that is kept
abbrev pub legs_if_kept : Fate → Legs → Legs
legs_if_kept Absent legs = []
legs_if_kept (Left reason) legs = []
legs_if_kept (Kept shift) legs = legs

-- what becomes of a flight date, other dates left aside, and its legs in the new time mode, none
-- if it is left
abbrev pub moved_flight : List Row → TimeMode → ℕ → Legs → MovedFlight
moved_flight rows wanted n legs =
    let fate = own_fate rows wanted n legs in
    record { fate = fate; legs = legs_if_kept fate (moved_legs rows wanted n legs) }
