-- When a leg of a flight departs and arrives, by its columns.
use Rattle.std.specs.Prelude.{ℕ, ◌+◌, ◌-◌, ◌==◌, Bool, false, not, ◌||◌, if◌then◌else◌, List}
use Rattle.std.specs.Prelude.{slice_index, unwrap_or, is_none, Option, None}
use Rattle.ssim_values.specs.Characters.{is_digit}
use Rattle.ssim_values.specs.Clock.{clock_of}
use Rattle.ssim_values.specs.Variation.{Offset}
use Rattle.ssim_values.specs.declared.time_mode.TimeMode.{TimeMode}
use Rattle.ssim_values.specs.declared.time_mode.TimeMode.TheVariants.{Utc, Local}
use Rattle.ssim_records.specs.Columns.{utc_variation_of}
use Rattle.ssim_records.specs.Leg.{leg_columns}
use Rattle.ssim_board.specs.LocalTime.{Moment, local_time, utc_time}

-- how many days a date variation adds: a digit adds itself, any other byte nothing
abbrev pub days_added : ℕ → ℕ
days_added variation = if is_digit variation then variation - 48 else 0

-- the time of day in these columns of a leg
abbrev pub time_in : ℕ → ℕ → List ℕ → ℕ
time_in first last columns = unwrap_or (clock_of (leg_columns first last columns)) 0

-- the UTC variation in these columns of a leg, none if they are blank
abbrev pub variation_in : ℕ → ℕ → List ℕ → Option Offset
variation_in first last columns = unwrap_or (utc_variation_of (leg_columns first last columns)) None

-- the date variation of departure, column 193, or with 1 the one of arrival, column 194
abbrev pub date_variation : ℕ → List ℕ → ℕ
date_variation place columns = slice_index (leg_columns 193 194 columns) place

-- The local time at which a leg departs: the aircraft time, on the date of origin plus the date
-- variation of departure. Days of local times are numbers of days plus 1.
unfoldable pub departure_time : TimeMode → ℕ → List ℕ → Moment
departure_time mode date columns =
    local_time mode (variation_in 48 52 columns) (date + days_added (date_variation 0 columns) + 1)
    (time_in 44 47 columns)

-- the local time at which a leg arrives
unfoldable pub arrival_time : TimeMode → ℕ → List ℕ → Moment
arrival_time mode date columns =
    local_time mode (variation_in 66 70 columns) (date + days_added (date_variation 1 columns) + 1)
    (time_in 58 61 columns)

-- the UTC time at which a leg departs, and at which it arrives, on days that are counted so
unfoldable pub departure_utc : TimeMode → ℕ → List ℕ → Moment
departure_utc mode date columns =
    utc_time mode (variation_in 48 52 columns) (date + days_added (date_variation 0 columns) + 1)
    (time_in 44 47 columns)

unfoldable pub arrival_utc : TimeMode → ℕ → List ℕ → Moment
arrival_utc mode date columns =
    utc_time mode (variation_in 66 70 columns) (date + days_added (date_variation 1 columns) + 1)
    (time_in 58 61 columns)

-- ---- what makes these times uncertain

-- whether a date variation is neither digit nor blank
abbrev pub is_unknown : ℕ → Bool
is_unknown variation = not (is_digit variation || variation == 32)

-- whether a date variation of a leg is neither digit nor blank
abbrev pub has_unknown : List ℕ → Bool
has_unknown columns = is_unknown (date_variation 0 columns) || is_unknown (date_variation 1 columns)

-- whether a UTC variation that is needed is blank
abbrev pub lacks_variation : TimeMode → List ℕ → Bool
lacks_variation Local columns = false
lacks_variation Utc columns =
    is_none (variation_in 48 52 columns) || is_none (variation_in 66 70 columns)

-- whether a date variation of the leg is neither digit nor blank, or in UTC mode a UTC variation is
-- blank
unfoldable pub is_uncertain : TimeMode → List ℕ → Bool
is_uncertain mode columns = has_unknown columns || lacks_variation mode columns
