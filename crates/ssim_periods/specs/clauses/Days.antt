-- What contracts see of lists of one value per day, how these change, and where their values end.
use Rattle.std.specs.Prelude.{◌≡◌, ◌⊎◌, ℕ, ◌+◌, List, [], ◌∷◌}
use Rattle.std.specs.List.{Contains}
use Rattle.ssim_values.specs.Period.{DayRange}
use Rattle.ssim_periods.specs.Calendar.{holds}
use Rattle.ssim_periods.specs.Days.{changed_on}

-- what contracts see of a `Periods`: the value of each day, and the cuts
pub record Seen (V : Type 0) : Type 0 where
  pub days : List V
  pub cuts : List ℕ

-- the values of days once each change is applied to the days of its period, the first change first
abbrev pub changed_by_each : {V C : Type 0} → (C → V → V) → List (DayRange × C) → List V → List V
changed_by_each after [] days = days
changed_by_each after (change ∷ later) days =
    changed_by_each after later (changed_on (holds change.0) (after change.1) 0 days)

-- the first day of each period, and the day after its last
abbrev pub ends_of : {C : Type 0} → List (DayRange × C) → List ℕ
ends_of [] = []
ends_of (change ∷ later) = change.0.first ∷ (change.0.last + 1) ∷ ends_of later

-- each new cut is an old cut, or one of two days
abbrev pub AddsOnly : List ℕ → List ℕ → ℕ → ℕ → Type 0
AddsOnly old new first end =
    (cut : ℕ) → Contains new cut → Contains old cut ⊎ (cut ≡ first) ⊎ (cut ≡ end)
