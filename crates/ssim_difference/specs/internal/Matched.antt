-- Two lists of flights with their pieces, by number and suffix, gone through together.
use Rattle.std.specs.Prelude.{List, [], ◌∷◌, if◌then◌else◌, Option, Some, None}
use Rattle.std.specs.Cmp.Lexicographic.{slice_cmp}
use Rattle.std.specs.Ordering.{nat_cmp}
use Rattle.std.specs.declared.cmp.Ordering.{Ordering}
use Rattle.std.specs.declared.cmp.Ordering.TheVariants.{Less, Equal, Greater}
use Rattle.ssim_values.specs.Flight.{FlightNumber}
use Rattle.ssim_values.specs.clauses.Flight.{flight_order}
use Rattle.ssim_base.specs.Export.{Piece}
use Rattle.ssim_schedule.specs.FlightPieces.{Divided}
use Rattle.ssim_difference.specs.Differences.{Compared, differs}
use Rattle.ssim_difference.specs.declared.timetable_difference.NextFlight.{NextFlight}

-- the pieces of a flight in two lists, none if a list does not have it, and the flights after it
pub record Matched : Type 0 where
  pub flight : FlightNumber
  pub old : List Piece
  pub new : List Piece
  pub old_left : List Divided
  pub new_left : List Divided

abbrev pub seen : NextFlight → Matched
seen next = record {
  flight = next.flight;
  old = next.old.now;
  new = next.new.now;
  old_left = next.old_left.now;
  new_left = next.new_left.now;
}

abbrev pub only_old : Divided → List Divided → List Divided → Matched
only_old one old_left new_left =
    record { flight = one.0; old = one.1; new = []; old_left = old_left; new_left = new_left }

abbrev pub only_new : Divided → List Divided → List Divided → Matched
only_new other old_left new_left =
    record { flight = other.0; old = []; new = other.1; old_left = old_left; new_left = new_left }

abbrev pub in_both : Divided → Divided → List Divided → List Divided → Matched
in_both one other old_left new_left =
    record { flight = one.0; old = one.1; new = other.1; old_left = old_left; new_left = new_left }

-- the lesser of the first flights of two lists, by how they compare
abbrev pub lesser : Ordering → Divided → List Divided → Divided → List Divided → Matched
lesser Less one old_left other new_left = only_old one old_left (other ∷ new_left)
lesser Equal one old_left other new_left = in_both one other old_left new_left
lesser Greater one old_left other new_left = only_new other (one ∷ old_left) new_left

-- which of two flights comes first
abbrev pub flight_cmp : FlightNumber → FlightNumber → Ordering
flight_cmp a b = slice_cmp nat_cmp (flight_order a) (flight_order b)

-- the next flight of two lists
abbrev pub next : List Divided → List Divided → Option Matched
next [] [] = None
next (one ∷ left) [] = Some (only_old one left [])
next [] (other ∷ left) = Some (only_new other [] left)
next (one ∷ old_left) (other ∷ new_left) =
    Some (lesser (flight_cmp one.0 other.0) one old_left other new_left)

-- a flight in a list of its own if it differs; else an empty list
abbrev pub listed : Compared → List Compared
listed flight = if differs flight then flight ∷ [] else []
