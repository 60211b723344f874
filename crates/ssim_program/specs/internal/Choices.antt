-- Choices of flights alone.
use Rattle.std.specs.Prelude.{◌≡◌, length}
use Rattle.ssim_parts.specs.Chosen.{Choosing}

-- the dates are all of the calendar, and no station and no aircraft type is named
abbrev pub HasAllDates : Choosing → Type 0
HasAllDates choice =
    (choice.first ≡ 0) × (choice.last ≡ 36524) × (length choice.stations ≡ 0)
    × (length choice.aircraft ≡ 0)
