-- Whether the legs of two itineraries fly the same route, and at the same times.
use Rattle.std.specs.Prelude.{ℕ, Bool, true, false, ◌&&◌, nat_eq, List, [], ◌∷◌}
use Rattle.std.specs.Str.{bytes_eq}
use Rattle.ssim_columns.specs.Leg.{leg_columns}
use Rattle.ssim_base.specs.Timetable.{LegValue, Legs}

-- whether columns first to last of two legs are the same
abbrev pub same_columns : ℕ → ℕ → List ℕ → List ℕ → Bool
same_columns first last d e = bytes_eq (leg_columns first last d) (leg_columns first last e)

-- whether the times and the date variations of two legs are the same
unfoldable pub same_times : List ℕ → List ℕ → Bool
same_times d e =
    (((same_columns 40 43 d e && same_columns 44 47 d e) && same_columns 58 61 d e)
    && same_columns 62 65 d e)
    && same_columns 193 194 d e

-- whether two legs have the same leg sequence and the same stations
abbrev pub same_stations : LegValue → LegValue → Bool
same_stations old new =
    (nat_eq old.sequence new.sequence && same_columns 37 39 old.columns new.columns)
    && same_columns 55 57 old.columns new.columns

-- whether two itineraries have such legs, one after another
abbrev pub same_route : Legs → Legs → Bool
same_route [] [] = true
same_route [] (new ∷ news) = false
same_route (old ∷ olds) [] = false
same_route (old ∷ olds) (new ∷ news) = same_stations old new && same_route olds news
