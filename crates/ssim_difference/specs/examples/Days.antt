-- Small examples of differences, checked by computation.
use Rattle.std.specs.Prelude.{◌≡◌, ℕ, Bool, true, false, nat_eq, nat_lt, if◌then◌else◌}
use Rattle.std.specs.Prelude.{List, [], ◌∷◌, map, refl}
use Rattle.std.specs.List.{range_with_len}
use Rattle.ssim_values.specs.Period.{DayRange}
use Rattle.ssim_periods.specs.Pieces.{held_on, pieces_of}
use Rattle.ssim_base.specs.Export.{Piece}
use Rattle.ssim_base.specs.Timetable.{LegValue, Legs}
use Rattle.ssim_difference.specs.Differences.{difference, no_difference, pair, same_difference}
use Rattle.ssim_difference.specs.declared.difference.Difference.{Difference}
use Rattle.ssim_difference.specs.internal.Between.{held}

-- a leg with one byte of columns and no tails
abbrev leg : ℕ → LegValue
leg column = record { sequence = 1; columns = column ∷ []; tails = [] }

-- an itinerary of one leg
abbrev flown : ℕ → Legs
flown column = leg column ∷ []

-- ---- a date

equal_legs : difference (flown 65) (flown 65) ≡ no_difference
equal_legs = refl

changed : difference (flown 65) (flown 66) ≡ pair (flown 65) (flown 66)
changed = refl

cancelled : difference (flown 65) [] ≡ pair (flown 65) []
cancelled = refl

abbrev tailed : Legs
tailed = record (leg 65) { tails = (66 ∷ []) ∷ [] } ∷ []

another_tail : difference (flown 65) tailed ≡ pair (flown 65) tailed
another_tail = refl

-- ---- fourteen days, of which day 0 is a Saturday

-- the old itinerary is the same each day
abbrev old_on : ℕ → Legs
old_on n = flown 65

-- the new one has another leg from day 1 to day 9, but none on day 4, a Wednesday
abbrev new_on : ℕ → Legs
new_on n =
    if nat_eq n 4 then []
    else (if nat_eq n 0 then flown 65 else (if nat_lt n 10 then flown 66 else flown 65))

abbrev fourteen_days : List Difference
fourteen_days = map (λ n. difference (old_on n) (new_on n)) (range_with_len 0 14)

abbrev found : List (DayRange × Difference)
found = pieces_of same_difference no_difference fourteen_days

abbrev on_days : ℕ → ℕ → List Bool → DayRange
on_days first last days = record { first = first; last = last; days = days }

-- all weekdays but Wednesday
abbrev no_wednesday : List Bool
no_wednesday = true ∷ true ∷ false ∷ true ∷ true ∷ true ∷ true ∷ []

abbrev wednesday : List Bool
wednesday = false ∷ false ∷ true ∷ false ∷ false ∷ false ∷ false ∷ []

-- two periods, each with its two itineraries
two_periods : found
    ≡ (on_days 1 9 no_wednesday, pair (flown 65) (flown 66))
    ∷ (on_days 4 4 wednesday, pair (flown 65) []) ∷ []
two_periods = refl

on_wednesday : held_on found 4 ≡ pair (flown 65) [] ∷ []
on_wednesday = refl

on_an_equal_day : held_on found 12 ≡ []
on_an_equal_day = refl

-- ---- two lists of pieces

abbrev pieces_so_far : List Piece
pieces_so_far = (on_days 1 9 no_wednesday, flown 66) ∷ (on_days 4 4 wednesday, flown 67) ∷ []

what_is_held : (held pieces_so_far 3 ∷ held pieces_so_far 4 ∷ held pieces_so_far 10 ∷ [])
    ≡ flown 66 ∷ flown 67 ∷ [] ∷ []
what_is_held = refl
