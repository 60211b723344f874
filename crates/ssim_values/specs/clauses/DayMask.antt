-- Weekdays by number, and whether a day is among the days of operation.
use Rattle.std.specs.Prelude.{ℕ, ◌-◌, Bool, false, ◌&&◌, nat_le, List, slice_index_or}

-- the numbers of weekdays, from 1 for Monday to 7 for Sunday
abbrev pub is_weekday : ℕ → Bool
is_weekday n = nat_le 1 n && nat_le n 7

-- whether the days of operation have this weekday, from 1 to 7
abbrev pub operates : List Bool → ℕ → Bool
operates days weekday = slice_index_or days (weekday - 1) false
