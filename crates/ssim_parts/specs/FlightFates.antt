-- What becomes of the dates of flights in the other time mode, in periods.
use Rattle.std.specs.Prelude.{List, map}
use Rattle.ssim_values.specs.Flight.{FlightNumber}
use Rattle.ssim_values.specs.Period.{DayRange}
use Rattle.ssim_values.specs.declared.time_mode.TimeMode.{TimeMode}
use Rattle.ssim_periods.specs.Days.{each_day}
use Rattle.ssim_periods.specs.Pieces.{pieces_of}
use Rattle.ssim_base.specs.Stations.{Row}
use Rattle.ssim_base.specs.Timetable.{Days}
use Rattle.ssim_schedule.specs.FlightPieces.{divided_flights}
use Rattle.ssim_parts.specs.Converted.{fate_on}
use Rattle.ssim_parts.specs.Fates.{same_fate}
use Rattle.ssim_parts.specs.declared.fate.Fate.{Fate}
use Rattle.ssim_parts.specs.declared.fate.Fate.TheVariants.{Absent}

-- a period whose dates have one fate
abbrev pub FatePiece : Type 0
FatePiece = DayRange × Fate

-- the canonical division of the dates of a flight by what becomes of them
abbrev pub fate_pieces : List Row → TimeMode → Days → List FatePiece
fate_pieces rows wanted days = pieces_of same_fate Absent (each_day (fate_on rows wanted days))

-- a flight, and what becomes of its dates
abbrev pub FlightFate : Type 0
FlightFate = FlightNumber × List FatePiece

-- the flights that fly on some date, by number and suffix, each with what becomes of its dates
abbrev pub fates_of : List Row → TimeMode → (FlightNumber → Days) → List FlightFate
fates_of rows wanted days =
    map (λ flight. (flight.0, fate_pieces rows wanted (days flight.0))) (divided_flights days)
