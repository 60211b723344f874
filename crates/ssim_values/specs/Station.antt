-- Stations: three letters.
use Rattle.std.specs.Prelude.{ℕ, Bool, ◌&&◌, ◌==◌, List, length, slice_index}
use Rattle.ssim_values.specs.Characters.{is_letter}

-- whether a text is a station: three letters
abbrev pub is_station : List ℕ → Bool
is_station t =
    (length t == 3) && (is_letter (slice_index t 0)
    && (is_letter (slice_index t 1) && is_letter (slice_index t 2)))
