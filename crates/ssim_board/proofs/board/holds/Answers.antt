-- The two tests pass on the same dates.
use Rattle.std.proofs.Common.{◌≡◌, Bool, true, false, refl, sym}
use Rattle.ssim_periods.proofs.DayLemmas.{Holds-holds, holds-Holds}
use Rattle.ssim_board.proofs.board.holds.Goals as goal

alike : (a b : Bool) → (a ≡ true → b ≡ true) → (b ≡ true → a ≡ true) → a ≡ b
alike true b to from = sym (to refl)
alike false true to from = from refl
alike false false to from = refl

pub returns : goal.returns
returns c =
    alike c.holds.result _ (λ yes. Holds-holds c.args.period c.args.date (c.holds.ensures.0 yes)) (λ yes. c.holds.ensures.1 (holds-Holds c.args.period c.args.date yes))
