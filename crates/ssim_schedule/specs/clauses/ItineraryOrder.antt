-- An order of itineraries, by which equal ones are found among many. It means nothing to an airline.
use Rattle.std.specs.Prelude.{ℕ, List}
use Rattle.std.specs.Cmp.Lexicographic.{slice_cmp}
use Rattle.std.specs.Ordering.{nat_cmp, ordering_then}
use Rattle.std.specs.declared.cmp.Ordering.{Ordering}
use Rattle.ssim_base.specs.Timetable.{LegValue, Legs}

-- the order of two lists of tails: byte for byte, tail after tail
abbrev pub tails_cmp : List (List ℕ) → List (List ℕ) → Ordering
tails_cmp = slice_cmp (slice_cmp nat_cmp)

-- the order of two legs: by leg sequence, then by columns, then by tails
abbrev pub leg_cmp : LegValue → LegValue → Ordering
leg_cmp l m =
    ordering_then (nat_cmp l.sequence m.sequence)
    (ordering_then (slice_cmp nat_cmp l.columns m.columns) (tails_cmp l.tails m.tails))

-- the order of two itineraries: leg after leg
abbrev pub itinerary_cmp : Legs → Legs → Ordering
itinerary_cmp = slice_cmp leg_cmp
