-- A list of one value per day as periods with values.
use Rattle.std.specs.Prelude.{◌≡◌, ℕ, ◌<◌, ◌≤◌, Bool, true, ◌||◌, if◌then◌else◌, nat_lt, List, [], ◌∷◌, map, length, slice_get, slice_index_or}
use Rattle.std.specs.List.{All, list_any, flat_map}
use Rattle.std.specs.Option.{option_to_list}
use Rattle.ssim_values.specs.Period.{DayRange}
use Rattle.ssim_periods.specs.Calendar.{holds}
use Rattle.ssim_periods.specs.Cover.{cover}

-- the set of the days that have a value
abbrev pub has_value : {V : Type 0} → (V → V → Bool) → List V → V → ℕ → Bool
has_value alike days v n = list_any (alike v) (option_to_list (slice_get days n))

-- the distinct values of the days, other than the empty one
abbrev pub values_of : {V : Type 0} → (V → V → Bool) → V → List V → List V
values_of alike nothing [] = []
values_of alike nothing (v ∷ days) =
    let others = values_of alike nothing days in
    if alike v nothing || list_any (alike v) others then others else v ∷ others

-- the cover of the days that have a value, each period with the value
abbrev pub pieces_with : {V : Type 0} → (V → V → Bool) → List V → V → List (DayRange × V)
pieces_with alike days v =
    map (λ period. (period, v)) (cover (has_value alike days v) (length days))

-- a piece put among others by its first day
abbrev pub insert_by_first : {V : Type 0} → DayRange × V → List (DayRange × V) → List (DayRange × V)
insert_by_first p [] = p ∷ []
insert_by_first p (q ∷ pieces) =
    if nat_lt p.0.first q.0.first then p ∷ q ∷ pieces else q ∷ insert_by_first p pieces

-- the pieces in order of their first day
abbrev pub sort_by_first : {V : Type 0} → List (DayRange × V) → List (DayRange × V)
sort_by_first [] = []
sort_by_first (p ∷ pieces) = insert_by_first p (sort_by_first pieces)

-- the covers of the distinct values other than the empty one, each period with its value, sorted by
-- first day
abbrev pub pieces_of : {V : Type 0} → (V → V → Bool) → V → List V → List (DayRange × V)
pieces_of alike nothing days =
    sort_by_first (flat_map (pieces_with alike days) (values_of alike nothing days))

-- the values of the pieces that hold a day
abbrev pub held_on : {V : Type 0} → List (DayRange × V) → ℕ → List V
held_on [] n = []
held_on (piece ∷ later) n = if holds piece.0 n then piece.1 ∷ held_on later n else held_on later n

-- a value in a list of its own; an empty list for the empty value
abbrev pub alone : {V : Type 0} → (V → V → Bool) → V → V → List V
alone alike nothing v = if alike v nothing then [] else v ∷ []

-- The law of pieces. On each day exactly one piece holds, the one with the day's value; none does
-- if the value is empty or the day is past the end. Each piece is a period of these days that holds
-- its own first day.
pub record ArePieces {V : Type 0} (alike : V → V → Bool) (nothing : V) (days : List V)
    (pieces : List (DayRange × V)) : Type 0 where
  pub on_each_day : (n : ℕ) → held_on pieces n ≡ alone alike nothing (slice_index_or days n nothing)
  pub each_begins : All (λ piece. (piece.0.first ≤ piece.0.last) × (piece.0.last < length days)
      × (holds piece.0 piece.0.first ≡ true)) pieces
