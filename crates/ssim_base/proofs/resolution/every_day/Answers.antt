-- The seven digits are read as all weekdays.
use Rattle.std.proofs.Common.{◌≡◌, Some, None, List, Bool, ◌∷◌, [], sym, ◌∙◌, refl}
use Rattle.ssim_values.specs.DayMask.{days_of}
use Rattle.ssim_base.specs.Resolve.{every_day}
use Rattle.ssim_base.proofs.resolution.every_day.Goals as goal

all-read : days_of (49 ∷ 50 ∷ 51 ∷ 52 ∷ 53 ∷ 54 ∷ 55 ∷ []) ≡ Some every_day
unfolding days_of
all-read = refl

told : (days : List Bool) → Some days ≡ Some every_day → days ≡ every_day
told days h = cc

pub unreachable-requires : goal.unreachable-requires
unreachable-requires c = let clash : None ≡ Some every_day = sym c.in-Err.ensures.none ∙ all-read in absurd cc

pub returns : goal.returns
returns c = told c.in-Ok.days (sym c.in-Ok.ensures.some ∙ all-read)
