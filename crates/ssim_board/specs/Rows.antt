-- The departures and arrivals of a board as rows of CSV.
use Rattle.std.specs.Prelude.{ℕ, ◌+◌, ◌-◌, Bool, nat_lt, if◌then◌else◌}
use Rattle.std.specs.Prelude.{List, [], ◌∷◌, codes}
use Rattle.std.specs.Fmt.{decimal}
use Rattle.std.specs.List.{flat_map}
use Rattle.ssim_values.specs.Characters.{two_digits}
use Rattle.ssim_values.specs.Clock.{clock_text}
use Rattle.ssim_listing.specs.Lines.{flight_name}
use Rattle.ssim_listing.specs.Rows.{iso_date, iso_time, row}
use Rattle.ssim_board.specs.Lines.{kind_text}
use Rattle.ssim_board.specs.declared.movement.Movement.{Movement}

-- the names of the fields
abbrev pub movement_names : List (List ℕ)
movement_names =
    codes "station" ∷ codes "date" ∷ codes "time" ∷ codes "movement" ∷ codes "flight"
    ∷ codes "origin_date" ∷ codes "leg" ∷ codes "aircraft"
    ∷ codes "other_station" ∷ codes "other_time" ∷ codes "other_days" ∷ codes "warning" ∷ []

-- how many days a local date, which is a number of days from 31 December 1999, is from a date:
-- -1 if it is the day before, 0 if it is the same
abbrev pub days_field : ℕ → ℕ → List ℕ
days_field date days =
    if nat_lt days (date + 1) then 45 ∷ decimal (date + 1 - days) else decimal (days - (date + 1))

-- the warning that the times are uncertain, or nothing
abbrev pub warning_field : Bool → List ℕ
warning_field is_uncertain = if is_uncertain then codes "?" else []

-- the fields of a departure or an arrival at a station on a local date
abbrev pub movement_fields : List ℕ → List ℕ → ℕ → Movement → List (List ℕ)
movement_fields airline station date movement =
    station ∷ iso_date date ∷ iso_time (clock_text movement.time.minutes)
    ∷ kind_text movement.kind ∷ flight_name airline movement.flight
    ∷ iso_date movement.date ∷ two_digits movement.sequence ∷ movement.aircraft_type
    ∷ movement.other_station ∷ iso_time (clock_text movement.other_time.minutes)
    ∷ days_field date movement.other_time.days ∷ warning_field movement.is_uncertain ∷ []

-- the row of a departure or an arrival
abbrev pub movement_row : List ℕ → List ℕ → ℕ → Movement → List ℕ
movement_row airline station date movement = row (movement_fields airline station date movement)

-- a row for each departure and arrival at a station on a local date; none if there is none
abbrev pub movement_rows : List ℕ → List ℕ → ℕ → List Movement → List ℕ
movement_rows airline station date movements =
    flat_map (movement_row airline station date) movements
