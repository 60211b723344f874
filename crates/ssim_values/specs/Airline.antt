-- Airlines in three columns.
use Rattle.std.specs.Prelude.{ℕ, Bool, ◌&&◌, ◌||◌, ◌==◌, if◌then◌else◌, List, length, take, slice_index}
use Rattle.ssim_values.specs.Characters.{is_letter, is_digit}
use Rattle.ssim_values.specs.Station.{is_station}

-- two letters or digits, not both digits
abbrev pub is_pair : ℕ → ℕ → Bool
is_pair a b = (is_letter a && (is_letter b || is_digit b)) || (is_digit a && is_letter b)

-- three letters; or two characters and a blank
abbrev pub is_airline : List ℕ → Bool
is_airline t =
    is_station t
    || ((length t == 3) && (is_pair (slice_index t 0) (slice_index t 1) && (slice_index t 2 == 32)))

-- an airline's two or three characters without the blank, as messages have them
abbrev pub airline_text : List ℕ → List ℕ
airline_text columns = if slice_index columns 2 == 32 then take 2 columns else columns
