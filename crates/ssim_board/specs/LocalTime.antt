-- Local times of departures and arrivals at their stations.
use Rattle.std.specs.Prelude.{ℕ, ◌+◌, ◌-◌, ◌*◌, ◌/◌, ◌%◌, ◌==◌, if◌then◌else◌, Option, Some, None}
use Rattle.std.specs.Prelude.{not}
use Rattle.ssim_values.specs.Variation.{Offset}
use Rattle.ssim_values.specs.declared.time_mode.TimeMode.{TimeMode}
use Rattle.ssim_values.specs.declared.time_mode.TimeMode.TheVariants.{Utc, Local}

-- A local time: days from 31 December 1999, which is 0, so that the day before the calendar has a
-- number; and minutes from midnight, to 1,440 for 2400.
pub record Moment : Type 0 where
  pub days : ℕ
  pub minutes : ℕ

-- a time of a day
abbrev pub moment_on : ℕ → ℕ → Moment
moment_on days minutes = record { days = days; minutes = minutes }

-- the time a number of minutes after midnight of 31 December 1999, from 0000 to 2359 of its day
abbrev pub moment : ℕ → Moment
moment minutes = moment_on (minutes / 1440) (minutes % 1440)

-- A UTC time as local time: moved by the UTC variation, to the day itself, the day before or the
-- next. A variation of 0 moves nothing, so that 2400 stays 2400.
abbrev pub moved_by : Offset → ℕ → ℕ → Moment
moved_by variation days minutes =
    if variation.minutes == 0 then moment_on days minutes
    else (if variation.negative then moment (days * 1440 + minutes - variation.minutes)
    else moment (days * 1440 + minutes + variation.minutes))

-- The local time of a time in a timetable of this mode. In local mode it is the time itself. In UTC
-- mode it is moved by the UTC variation; without one it is not moved.
abbrev pub local_time : TimeMode → Option Offset → ℕ → ℕ → Moment
local_time Local variation days minutes = moment_on days minutes
local_time Utc None days minutes = moment_on days minutes
local_time Utc (Some variation) days minutes = moved_by variation days minutes

-- the opposite of a UTC variation
abbrev pub opposite : Offset → Offset
opposite variation = record { negative = not variation.negative; minutes = variation.minutes }

-- The UTC time of a time in a timetable of this mode. In UTC mode it is the time itself. In local
-- mode it is moved back by the UTC variation; without one it is not moved.
abbrev pub utc_time : TimeMode → Option Offset → ℕ → ℕ → Moment
utc_time Utc variation days minutes = moment_on days minutes
utc_time Local None days minutes = moment_on days minutes
utc_time Local (Some variation) days minutes = moved_by (opposite variation) days minutes
