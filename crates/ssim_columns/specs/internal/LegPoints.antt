-- The departure and the arrival of a leg: a station and its times.
use Rattle.std.specs.Prelude.{ℕ, Bool, ◌&&◌, List, is_some}
use Rattle.ssim_values.specs.Clock.{clock_of}
use Rattle.ssim_values.specs.Station.{is_station}
use Rattle.ssim_columns.specs.Columns.{columns, passenger_time_of, utc_variation_of}

-- the station, the passenger time, the aircraft time and the UTC variation of the departure are
-- valid
unfoldable pub departure_is_valid : List ℕ → Bool
departure_is_valid bytes =
    is_station (columns 37 39 bytes)
    && (is_some (passenger_time_of (columns 40 43 bytes))
    && (is_some (clock_of (columns 44 47 bytes))
    && is_some (utc_variation_of (columns 48 52 bytes))))

-- the station, the aircraft time, the passenger time and the UTC variation of the arrival are valid
unfoldable pub arrival_is_valid : List ℕ → Bool
arrival_is_valid bytes =
    is_station (columns 55 57 bytes)
    && (is_some (clock_of (columns 58 61 bytes))
    && (is_some (passenger_time_of (columns 62 65 bytes))
    && is_some (utc_variation_of (columns 66 70 bytes))))
