-- Weekdays as bits.
use Rattle.std.specs.Prelude.{ℕ, Bool, nat_eq, List, [], ◌∷◌, map}
use Rattle.std.specs.Int.{bit_at}

-- which of the first seven bits are set
abbrev pub week_of : ℕ → List Bool
week_of bits = map (λ w. nat_eq (bit_at bits w) 1) (0 ∷ 1 ∷ 2 ∷ 3 ∷ 4 ∷ 5 ∷ 6 ∷ [])

-- a set of weekdays: its bits, and whether each weekday is in it, Monday first
pub record Weekdays : Type 0 where
  pub bits : ℕ
  pub days : List Bool
