-- Days counted by arithmetic.
use Rattle.ssim_values.specs.Calendar.{slot}
use Rattle.ssim_values.specs.clauses.Weekdays.{below}
use Rattle.ssim_periods.specs.internal.Rows.{value_on}
use Rattle.std.specs.Prelude.{[], ◌∷◌, nat_le, nat_lt, ℕ, zero, suc, ◌+◌, Bool, false, ◌&&◌, nat_eq}
use Rattle.std.specs.Prelude.{List, slice_index_or, if◌then◌else◌}

-- the weekdays of a mask that have a day from `from` to before `to`; w is the index of the first
-- weekday
abbrev pub with_days : ℕ → List Bool → ℕ → ℕ → List Bool
with_days w [] from to = []
with_days w (on ∷ mask) from to =
    (on && nat_lt (below w from) (below w to)) ∷ with_days (w + 1) mask from to

-- how many of k days from n on pass
abbrev pub tally : (ℕ → Bool) → ℕ → ℕ → ℕ
tally test n zero = 0
tally test n (suc k) = (if test n then 1 else 0) + tally test (n + 1) k

-- how many days before x have one of the first w weekdays that pass
abbrev pub weigh : (ℕ → Bool) → ℕ → ℕ → ℕ
weigh t zero x = 0
weigh t (suc w) x = weigh t w x + (if t w then below w x else 0)

-- whether weekday w is in the mask and its value in the row is of class k
abbrev pub is_counted : {V : Type 0} → V → List Bool → (V → ℕ) → List V → ℕ → ℕ → Bool
is_counted nothing mask class row k w =
    slice_index_or mask w false && nat_eq (class (slice_index_or row w nothing)) k

-- whether a day is one of the period from `first` to `last` with these weekdays
abbrev pub is_within : ℕ → ℕ → List Bool → ℕ → Bool
is_within first last mask n =
    (nat_le first n && nat_le n last) && slice_index_or mask (slot n) false

-- whether a day is one of the period, and its value of class k
abbrev pub is_of_class : {V : Type 0} → V → (V → ℕ) → List V → List ℕ → List (List V) → ℕ → ℕ
    → List Bool → ℕ → ℕ → Bool
is_of_class nothing class row cuts rows first last mask k n =
    is_within first last mask n && nat_eq (class (value_on nothing row cuts rows n)) k
