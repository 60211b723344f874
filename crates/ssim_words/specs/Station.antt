-- Stations as people type them: three letters.
use Rattle.std.specs.Prelude.{ℕ, if◌then◌else◌, List, Option, Some, None}
use Rattle.ssim_values.specs.Station.{is_station}
use Rattle.ssim_words.specs.Typed.{typed}

-- the station that a word is
abbrev pub typed_station : List ℕ → Option (List ℕ)
typed_station word = if is_station (typed word) then Some (typed word) else None
