-- The departures and arrivals of a board as lines.
use Rattle.std.specs.Prelude.{ℕ, ◌+◌, ◌-◌, Bool, nat_lt, if◌then◌else◌, List, [], ◌∷◌, ◌++◌}
use Rattle.std.specs.Prelude.{length, replicate, codes}
use Rattle.std.specs.Fmt.{decimal}
use Rattle.std.specs.List.{flat_map}
use Rattle.ssim_values.specs.Characters.{two_digits}
use Rattle.ssim_values.specs.Clock.{clock_text}
use Rattle.ssim_values.specs.Day.{day_text}
use Rattle.ssim_base.specs.Export.{line}
use Rattle.ssim_listing.specs.LegText.{dotted}
use Rattle.ssim_listing.specs.Lines.{flight_name}
use Rattle.ssim_board.specs.declared.movement.Movement.{Movement}
use Rattle.ssim_board.specs.declared.movement.MovementKind.{MovementKind}
use Rattle.ssim_board.specs.declared.movement.MovementKind.TheVariants.{Departure, Arrival}

-- a departure or an arrival in three letters
abbrev pub kind_text : MovementKind → List ℕ
kind_text Departure = codes "dep"
kind_text Arrival = codes "arr"

-- a text, and blanks up to eight columns
abbrev pub padded : List ℕ → List ℕ
padded text = text ++ replicate (8 - length text) 32

-- how many days a local date, which is a number of days from 31 December 1999, is from a date;
-- nothing if it is the same
abbrev pub shift_text : ℕ → ℕ → List ℕ
shift_text date days =
    if nat_lt (date + 1) days then codes " +" ++ decimal (days - (date + 1))
    else (if nat_lt days (date + 1) then codes " -" ++ decimal (date + 1 - days) else [])

-- the warning that the times are uncertain, or nothing
abbrev pub warning_text : Bool → List ℕ
warning_text is_uncertain = if is_uncertain then codes " ?" else []

-- the time, the kind, the designator and the date of origin
abbrev pub flight_text : List ℕ → Movement → List ℕ
flight_text airline movement =
    clock_text movement.time.minutes ++ 32 ∷ kind_text movement.kind
    ++ 32 ∷ padded (flight_name airline movement.flight) ++ 32 ∷ day_text movement.date

-- the leg sequence, the aircraft type and the other station
abbrev pub leg_text : Movement → List ℕ
leg_text movement =
    32 ∷ two_digits movement.sequence ++ 32 ∷ dotted movement.aircraft_type
    ++ 32 ∷ movement.other_station

-- the local time at the other station, how many days its date is from the board's, and the
-- warning
abbrev pub other_text : ℕ → Movement → List ℕ
other_text date movement =
    32 ∷ clock_text movement.other_time.minutes ++ shift_text date movement.other_time.days
    ++ warning_text movement.is_uncertain

-- the line of a departure or an arrival on a board of this date
abbrev pub movement_line : List ℕ → ℕ → Movement → List ℕ
movement_line airline date movement =
    line (flight_text airline movement ++ leg_text movement ++ other_text date movement)

-- a line for each departure and arrival, or the line `no flight`
abbrev pub board_lines : List ℕ → ℕ → List Movement → List ℕ
board_lines airline date [] = line (codes "no flight")
board_lines airline date (movement ∷ movements) =
    flat_map (movement_line airline date) (movement ∷ movements)
