-- How many days have a weekday.
use Rattle.std.specs.Prelude.{ℕ, ◌+◌, ◌-◌, ◌/◌, ◌%◌}

-- how many days before x have the weekday with this place, from 0 for Monday
abbrev pub below : ℕ → ℕ → ℕ
below w x = (x + 6 - (w + 2) % 7) / 7
