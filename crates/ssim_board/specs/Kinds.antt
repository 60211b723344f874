-- The departures or the arrivals of a board alone.
use Rattle.std.specs.Prelude.{◌≡◌, ℕ, ◌+◌, Bool, List, length, Option, Some, None, filter}
use Rattle.ssim_board.specs.InOrder.{is_arrival, is_departure}
use Rattle.ssim_board.specs.declared.movement.Movement.{Movement}
use Rattle.ssim_board.specs.declared.movement.MovementKind.{MovementKind}
use Rattle.ssim_board.specs.declared.movement.MovementKind.TheVariants.{Departure, Arrival}

-- whether a movement is of this kind
abbrev pub is_of_kind : MovementKind → Movement → Bool
is_of_kind Departure movement = is_departure movement.kind
is_of_kind Arrival movement = is_arrival movement.kind

-- all movements if no kind is named, or else those of the kind alone, in their order
abbrev pub of_kind : Option MovementKind → List Movement → List Movement
of_kind None movements = movements
of_kind (Some kind) movements = filter (is_of_kind kind) movements

-- The law of two kinds: of movements that have a property, each is a departure or an arrival, and
-- none is both.
abbrev pub EachIsOfOneKind : Type 0
EachIsOfOneKind = (has : Movement → Bool) (movements : List Movement)
    → length (filter has (of_kind (Some Departure) movements))
    + length (filter has (of_kind (Some Arrival) movements))
    ≡ length (filter has movements)
