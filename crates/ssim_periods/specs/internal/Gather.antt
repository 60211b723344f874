-- Distinct values in the order in which rows have them, and their numbers.
use Rattle.std.specs.Prelude.{◌≡◌, ℕ, Bool, ◌||◌, if◌then◌else◌, Option, List, [], ◌∷◌, ◌++◌}
use Rattle.std.specs.Prelude.{slice_get}
use Rattle.std.specs.BTreeMap.{BTreeMap, get}
use Rattle.std.specs.List.{list_any}
use Rattle.std.specs.Ordering.{on}
use Rattle.std.specs.declared.cmp.Ordering.{Ordering}
use Rattle.ssim_periods.specs.Distinct.{index_of}

-- the known values, followed by the list's new values: those that are not empty and not yet known
abbrev pub gathered : {V : Type 0} → (V → V → Bool) → V → List V → List V → List V
gathered alike nothing known [] = known
gathered alike nothing known (v ∷ values) =
    gathered alike nothing (if alike v nothing || list_any (alike v) known then known
    else known ++ v ∷ []) values

-- the value with a number: number 0 is the empty value, number n is the n-th of the values
abbrev pub numbered : {V : Type 0} → V → List V → ℕ → Option V
numbered nothing values n = slice_get (nothing ∷ values) n

-- a map has the index of each of the values at its key, and nothing at other keys
abbrev pub ArePlaced : {K V : Type 0} → (V → V → Bool) → (V → V → Ordering) → (K → V) → List V
    → BTreeMap K ℕ → Type 0
ArePlaced alike compared value_at values indices =
    (key : _) → get (on value_at compared) indices key ≡ index_of alike values (value_at key)
