-- Periods with fates, one after another, give each date its fate.
use Rattle.std.proofs.Common.{◌≡◌, ◌∙◌, ℕ, Bool, true, false, ◌||◌, if◌then◌else◌, List, [], ◌∷◌}
use Rattle.std.proofs.Common.{◌++◌, refl, sym, ap}
use Rattle.ssim_values.specs.Period.{DayRange}
use Rattle.ssim_periods.specs.Calendar.{holds}
use Rattle.ssim_periods.specs.Days.{each_day}
use Rattle.ssim_periods.specs.clauses.Days.{changed_by_each}
use Rattle.ssim_periods.proofs.DayLemmas.{changed_on-each_day}
use Rattle.ssim_parts.specs.FlightFates.{FatePiece}
use Rattle.ssim_parts.specs.declared.fate.Fate.{Fate}
use Rattle.ssim_parts.specs.internal.Placed.{fate_by}

-- one more period
pub fate_by-more : (before : Fate) (runs : List FatePiece) (run : FatePiece) (n : ℕ)
    → fate_by before (runs ++ run ∷ []) n
    ≡ (if holds run.0 n then run.1 else fate_by before runs n)
fate_by-more before [] run n = refl
fate_by-more before (one ∷ runs) run n =
    fate_by-more (if holds one.0 n then one.1 else before) runs run n

-- one period in place of two with one fate
pub fate_by-both : (before : Fate) (runs : List FatePiece) (run : FatePiece) (own both : DayRange)
    (fate : Fate) (n : ℕ) → run.1 ≡ fate → holds both n ≡ (holds run.0 n || holds own n)
    → fate_by before (runs ++ (both, fate) ∷ []) n
    ≡ (if holds own n then fate else fate_by before (runs ++ run ∷ []) n)
fate_by-both before runs run own both fate n same is =
    fate_by-more before runs (both, fate) n
    ∙ ap (λ (b : Bool). if b then fate else fate_by before runs n) is
    ∙ cases (holds run.0 n) (holds own n)
    ∙ ap (λ (f : Fate). if holds own n then fate
    else (if holds run.0 n then f else fate_by before runs n)) (sym same)
    ∙ ap (λ (f : Fate). if holds own n then fate else f) (sym (fate_by-more before runs run n))
  where
    cases : (one other : Bool) → (if one || other then fate else fate_by before runs n)
        ≡ (if other then fate else (if one then fate else fate_by before runs n))
    cases true true = refl
    cases true false = refl
    cases false true = refl
    cases false false = refl

-- the days that changes to fates leave
pub given_by : (runs : List FatePiece) (before : ℕ → Fate)
    → changed_by_each (λ (fate : Fate) (old : Fate). fate) runs (each_day before)
    ≡ each_day (λ n. fate_by (before n) runs n)
given_by [] before = refl
given_by (run ∷ later) before =
    ap (changed_by_each (λ (fate : Fate) (old : Fate). fate) later)
    (changed_on-each_day (holds run.0) (λ (old : Fate). run.1) before)
    ∙ given_by later (λ n. if holds run.0 n then run.1 else before n)
