-- No row so far has a day of the period.
use Rattle.std.proofs.Common.{◌≡◌, ℕ, List, drop}
use Rattle.ssim_values.specs.Variation.{variation_of}
use Rattle.ssim_overview.specs.StationNotes.{leg_end}
use Rattle.ssim_overview.specs.internal.StationNotes.{is_quiet}
use Rattle.ssim_overview.proofs.leg_ends.is_quiet_text.Given as goal

abbrev pub invariant-loop-row : goal.invariant-loop-row
invariant-loop-row l = (station : List ℕ) (date_variation : ℕ)
    → is_quiet (drop l.row-index l.rows) l.period
    (leg_end station (variation_of l.text) date_variation)
    ≡ is_quiet l.rows l.period (leg_end station (variation_of l.text) date_variation)
