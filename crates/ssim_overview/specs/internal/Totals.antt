-- The totals of flights by their pieces, and the marks of stations.
use Rattle.std.specs.Prelude.{◌≡◌, ℕ, ◌<◌, Bool, false, ◌||◌, fold, length, max, min, slice_index_or}
use Rattle.std.specs.Prelude.{List, Option, None, Some}
use Rattle.std.specs.List.{count_by, list_any, sum_by}
use Rattle.ssim_values.specs.Period.{DayRange}
use Rattle.ssim_periods.specs.Calendar.{holds}
use Rattle.ssim_base.specs.Export.{Piece}
use Rattle.ssim_schedule.specs.FlightPieces.{Divided}
use Rattle.ssim_overview.specs.Totals.{calendar, serves, station_at}

-- ---- dates

-- the number of dates of pieces
abbrev pub dates_of_pieces : List Piece → ℕ
dates_of_pieces pieces = sum_by (λ piece. count_by (holds piece.0) calendar) pieces

-- the number of dates of the pieces of flights
abbrev pub dates_of_flights : List Divided → ℕ
dates_of_flights flights = sum_by (λ flight. dates_of_pieces flight.1) flights

-- a first and a last day, if there are any, after one more period
abbrev pub widened : Option (ℕ × ℕ) → DayRange → Option (ℕ × ℕ)
widened None period = Some (period.first, period.last)
widened (Some days) period = Some (min days.0 period.first, max days.1 period.last)

-- the first and the last day after these pieces, too
abbrev pub widened_by : Option (ℕ × ℕ) → List Piece → Option (ℕ × ℕ)
widened_by ends pieces = fold (λ so_far piece. widened so_far piece.0) ends pieces

-- the first day of the first piece of flights, and the last day of the last
abbrev pub ends_of_flights : List Divided → Option (ℕ × ℕ)
ends_of_flights flights = fold (λ so_far flight. widened_by so_far flight.1) None flights

-- ---- stations

-- whether a leg of some piece departs from a station or arrives at it
abbrev pub is_in_pieces : List Piece → List ℕ → Bool
is_in_pieces pieces station = list_any (λ piece. serves station piece.1) pieces

-- whether a leg of some flight does
abbrev pub is_in_flights : List Divided → List ℕ → Bool
is_in_flights flights station = list_any (λ flight. is_in_pieces flight.1 station) flights

-- the stations that pass a test are marked, too
pub record AddsMarks (test : List ℕ → Bool) (old new : List Bool) : Type 0 where
  pub len : length new ≡ length old
  pub each : (k : ℕ) → k < 17576
      → slice_index_or new k false ≡ (slice_index_or old k false || test (station_at k))
