-- On how many days, from its date of origin on, a flight can be at the station of a board.
use Rattle.std.specs.Prelude.{ℕ, ◌+◌, ◌≤◌, if◌then◌else◌, List, max}
use Rattle.std.specs.List.{AllByRecursion}
use Rattle.std.specs.Str.{bytes_eq}
use Rattle.ssim_base.specs.Export.{Piece}
use Rattle.ssim_base.specs.Timetable.{LegValue}
use Rattle.ssim_board.specs.LegTimes.{date_variation, days_added}
use Rattle.ssim_board.specs.Movements.{station_of}
use Rattle.ssim_board.specs.declared.board.Board.{Board}
use Rattle.ssim_board.specs.declared.movement.MovementKind.{MovementKind}
use Rattle.ssim_board.specs.declared.movement.MovementKind.TheVariants.{Departure, Arrival}

-- how many days after the date of origin an end of a leg is, by its date variation
abbrev pub days_after : List ℕ → MovementKind → ℕ
days_after columns Departure = days_added (date_variation 0 columns)
days_after columns Arrival = days_added (date_variation 1 columns)

-- the days from the date of origin to that of an end at the station, both of them counted; 0 for an
-- end at another station
abbrev pub days_of_end : Board → List ℕ → MovementKind → ℕ
days_of_end board columns kind =
    if bytes_eq (station_of columns kind) board.station then days_after columns kind + 1 else 0

-- the greater number of those of both ends
abbrev pub days_of_leg : Board → List ℕ → ℕ
days_of_leg board columns =
    max (days_of_end board columns Departure) (days_of_end board columns Arrival)

-- a leg is at the station within these days
abbrev pub IsWithin : Board → ℕ → LegValue → Type 0
IsWithin board days leg = days_of_leg board leg.columns ≤ days

-- all legs of pieces are
abbrev pub AreWithin : Board → ℕ → List Piece → Type 0
AreWithin board days pieces =
    AllByRecursion (λ piece. AllByRecursion (IsWithin board days) piece.1) pieces
