-- How the effect of an action on the days of a period is computed: by the new legs, which are made
-- once, and part by part where station rows begin or end.
use Rattle.std.specs.Prelude.{◌≡◌, ◌⊎◌, ℕ, ◌+◌, ◌≤◌, ◌<◌, Bool, true, ◌&&◌, nat_lt, IsTrue, List, [], ◌∷◌, Contains, map, slice_index_or, Option, None}
use Rattle.ssim_values.specs.Period.{DayRange}
use Rattle.ssim_periods.specs.Calendar.{holds}
use Rattle.ssim_text.specs.declared.action.Action.{Action}
use Rattle.ssim_text.specs.declared.action.Action.TheVariants.{New, Cnl, Rpl, Eqt, Tim}
use Rattle.ssim_schedule.specs.Effect.{Variations, effect, new_legs}
use Rattle.ssim_schedule.specs.Acts.{class_on, counted_by}
use Rattle.ssim_schedule.specs.clauses.Acts.{is_point_of}
use Rattle.ssim_base.specs.Stations.{Row}
use Rattle.ssim_base.specs.Timetable.{Days, Legs}

-- the counts of the classes 0 to 4 on the days of a set
abbrev pub counts_by : List Row → Action → (ℕ → Bool) → Days → List ℕ
counts_by rows action is_in days =
    map (λ k. counted_by is_in (class_on rows action) k 0 days) (0 ∷ 1 ∷ 2 ∷ 3 ∷ 4 ∷ [])

-- new cuts are old cuts or division points of the action
abbrev pub AddsPoints : List Row → Action → DayRange → List ℕ → List ℕ → Type 0
AddsPoints rows action period old new =
    (cut : ℕ) → Contains new cut → Contains old cut ⊎ IsTrue (is_point_of rows action period cut)

-- no row begins from the day after d up to e, nor ends from d up to the day before e
abbrev pub IsSteady : ℕ → ℕ → Row → Type 0
IsSteady d e row = ((row.first ≤ d) ⊎ (e < row.first)) × ((row.last < d) ⊎ (e ≤ row.last))

-- the action has the same effect on all days of the period
abbrev pub IsUniform : List Row → Action → DayRange → Type 0
IsUniform rows action period =
    (day : ℕ) → holds period day ≡ true → (old : Legs)
    → effect rows action period.first old ≡ effect rows action day old

-- the days of a period before a day
abbrev pub before : DayRange → ℕ → ℕ → Bool
before period at n = holds period n && nat_lt n at

-- two lists of five counts added
abbrev pub sums_of : List ℕ → List ℕ → List ℕ
sums_of a b = map (λ k. slice_index_or a k 0 + slice_index_or b k 0) (0 ∷ 1 ∷ 2 ∷ 3 ∷ 4 ∷ [])

-- the new legs of an action that has them
abbrev pub made_of : Variations → Action → Option Legs
made_of variation (New new) = new_legs variation new
made_of variation Cnl = None
made_of variation (Rpl new) = new_legs variation new
made_of variation (Eqt equipment) = None
made_of variation (Tim lines) = None
