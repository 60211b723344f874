-- Pieces of days, one after another, give each day its value.
use Rattle.std.proofs.Common.{◌≡◌, ◌↔◌, ◌∙◌, ℕ, Bool, true, false, if◌then◌else◌, List, [], ◌∷◌}
use Rattle.std.proofs.Common.{IsTrue, refl, sym, ap}
use Rattle.ssim_values.specs.Period.{DayRange}
use Rattle.ssim_periods.specs.Calendar.{holds}
use Rattle.ssim_periods.specs.Days.{each_day}
use Rattle.ssim_periods.specs.Pieces.{alone, held_on, pieces_of}
use Rattle.ssim_periods.specs.clauses.Days.{changed_by_each}
use Rattle.ssim_periods.proofs.DayLemmas.{changed_on-each_day, each_day-same, index-each_day}
use Rattle.ssim_periods.proofs.PieceLaw.{pieces_law}

-- the value of a day after those that periods give it, one after another
abbrev last_given : {C V : Type 0} → (C → V) → V → List C → V
last_given f before [] = before
last_given f before (c ∷ given) = last_given f (f c) given

given_by : {C V : Type 0} (f : C → V) (runs : List (DayRange × C)) (before : ℕ → V)
    → changed_by_each (λ (c : C) (old : V). f c) runs (each_day before)
    ≡ each_day (λ n. last_given f (before n) (held_on runs n))
given_by f [] before = refl
given_by {C} {V} f (run ∷ later) before =
    ap (changed_by_each (λ (c : C) (old : V). f c) later)
    (changed_on-each_day (holds run.0) (λ (old : V). f run.1) before)
    ∙ given_by f later (λ n. if holds run.0 n then f run.1 else before n)
    ∙ each_day-same
    (λ n. last_given f (if holds run.0 n then f run.1 else before n) (held_on later n))
    (λ n. last_given f (before n) (held_on (run ∷ later) n)) (λ n within. by n (holds run.0 n))
  where
    by : (n : ℕ) (b : Bool)
        → last_given f (if b then f run.1 else before n) (held_on later n)
        ≡ last_given f (before n) (if b then run.1 ∷ held_on later n else held_on later n)
    by n true = refl
    by n false = refl

-- The pieces of days give each day what they make of its value, and of the empty value what was
-- there before.
pub pieces_give : {C V : Type 0} (alike : C → C → Bool) (nothing : C)
    → ((x y : C) → IsTrue (alike x y) ↔ (x ≡ y)) → (f : C → V) (before : V) (days : ℕ → C)
    → f nothing ≡ before
    → changed_by_each (λ (c : C) (old : V). f c) (pieces_of alike nothing (each_day days))
    (each_day (λ n. before))
    ≡ each_day (λ n. f (days n))
pieces_give {C} {V} alike nothing exact f before days none =
    given_by f (pieces_of alike nothing (each_day days)) (λ n. before)
    ∙ each_day-same
    (λ n. last_given f before (held_on (pieces_of alike nothing (each_day days)) n))
    (λ n. f (days n)) (λ n within.
    ap (last_given f before)
    ((pieces_law alike nothing exact (each_day days)).on_each_day n
    ∙ ap (alone alike nothing) (index-each_day days n nothing within))
    ∙ by (days n) (alike (days n) nothing) refl)
  where
    by : (value : C) (b : Bool) → alike value nothing ≡ b
        → last_given f before (if b then [] else value ∷ []) ≡ f value
    by value true e = sym (ap f ((exact value nothing).0 e) ∙ none)
    by value false e = refl
