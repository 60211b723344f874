-- The warning of a leg, by what its columns say.
use Rattle.std.proofs.Common.{◌≡◌, ℕ, Bool, true, false, ◌||◌, List, sym, ap}
use Rattle.ssim_values.specs.declared.time_mode.TimeMode.{TimeMode}
use Rattle.ssim_board.specs.LegTimes.{has_unknown, is_uncertain, lacks_variation}

pub uncertain_yes : (mode : TimeMode) (columns : List ℕ) → has_unknown columns ≡ true → true ≡ is_uncertain mode columns
unfolding is_uncertain
uncertain_yes mode columns e = sym (ap (λ (b : Bool). b || lacks_variation mode columns) e)

pub uncertain_else : (mode : TimeMode) (columns : List ℕ) → has_unknown columns ≡ false → lacks_variation mode columns ≡ is_uncertain mode columns
unfolding is_uncertain
uncertain_else mode columns e = sym (ap (λ (b : Bool). b || lacks_variation mode columns) e)
