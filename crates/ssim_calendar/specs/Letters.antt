-- The different values of a list of one value a day, and the letter of each day.
use Rattle.std.specs.Prelude.{◌≡◌, ◌≢◌, ◌↔◌, ◌<◌, false, length, ℕ, ◌+◌, Bool, not, ◌&&◌, nat_lt}
use Rattle.std.specs.Prelude.{if◌then◌else◌, List, [], ◌∷◌, take, slice_get}
use Rattle.std.specs.Prelude.{slice_index_or, Option, Some, None}
use Rattle.std.specs.List.{flat_map, list_any, position_or_len, range_with_len}
use Rattle.ssim_periods.specs.Calendar.{day_count}
use Rattle.ssim_periods.specs.Days.{each_day}

-- whether the value is one of these
abbrev pub has_value : {V : Type 0} → (V → V → Bool) → List V → V → Bool
has_value alike values v = list_any (λ other. alike other v) values

-- whether the value is not the empty one, and none of these
abbrev pub is_new : {V : Type 0} → (V → V → Bool) → V → List V → V → Bool
is_new alike nothing values v = not (alike v nothing) && not (has_value alike values v)

-- a list with the value, if it is new beside these; else an empty list
abbrev pub if_new : {V : Type 0} → (V → V → Bool) → V → List V → Option V → List V
if_new alike nothing values (Some v) = if is_new alike nothing values v then v ∷ [] else []
if_new alike nothing values None = []

-- the value of day n, if it is not empty and no earlier day has it
abbrev pub new_on : {V : Type 0} → (V → V → Bool) → V → List V → ℕ → List V
new_on alike nothing days n = if_new alike nothing (take n days) (slice_get days n)

-- the new values of the first n days
abbrev pub new_values : {V : Type 0} → (V → V → Bool) → V → List V → ℕ → List V
new_values alike nothing days n = flat_map (new_on alike nothing days) (range_with_len 0 n)

-- the different values of the days other than the empty one, by first day
abbrev pub different : {V : Type 0} → (V → V → Bool) → V → List V → List V
different alike nothing days = new_values alike nothing days day_count

-- the letter at a place: A to Z, then a to z, then #
abbrev pub letter_at : ℕ → ℕ
letter_at k = if nat_lt k 26 then 65 + k else (if nat_lt k 52 then 71 + k else 35)

-- the place of a value among these
abbrev pub place_of : {V : Type 0} → (V → V → Bool) → List V → V → ℕ
place_of alike values v = position_or_len (λ other. alike other v) values

-- the letter of a value by its place among these; a full stop for the empty one
abbrev pub cell : {V : Type 0} → (V → V → Bool) → V → List V → V → ℕ
cell alike nothing values v = if alike v nothing then 46 else letter_at (place_of alike values v)

-- the letter of each day
abbrev pub cells : {V : Type 0} → (V → V → Bool) → V → List V → List ℕ
cells alike nothing days =
    let values = different alike nothing days in
    each_day (λ n. cell alike nothing values (slice_index_or days n nothing))

-- ---- what the letters tell

-- Two days with values other than the empty one have the same letter if and only if they have the
-- same value, if the letter is not #.
abbrev pub LettersTellValues : {V : Type 0} → (V → V → Bool) → V → Type 0
LettersTellValues {V} alike nothing =
    (days : List V) (m n : ℕ) → length days ≡ day_count → m < day_count → n < day_count
    → let v = slice_index_or days m nothing in let w = slice_index_or days n nothing in
    alike v nothing ≡ false → alike w nothing ≡ false
    → let letter = cell alike nothing (different alike nothing days) in
    letter v ≢ 35 → (letter v ≡ letter w) ↔ (v ≡ w)
