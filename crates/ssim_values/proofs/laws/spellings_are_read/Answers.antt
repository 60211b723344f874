-- Each function reads what its relation spells, both ways.
use Rattle.ssim_values.proofs.ClockLaws.{clock_of-complete, clock_of-sound, variation_of-complete, variation_of-sound}
use Rattle.ssim_values.proofs.DayLaws.{day_of-complete, day_of-sound}
use Rattle.ssim_values.proofs.DayMaskLaws.{days_of-complete, days_of-sound}
use Rattle.ssim_values.proofs.DayMonthLaws.{month_day_of-complete, month_day_of-sound}
use Rattle.ssim_values.proofs.laws.spellings_are_read.Goals as goal

pub returns-clause-days : goal.returns-clause-days
returns-clause-days c = λ n t. (day_of-sound n t, day_of-complete n t)

pub returns-clause-day_months : goal.returns-clause-day_months
returns-clause-day_months c = λ x t. (month_day_of-sound x t, month_day_of-complete x t)

pub returns-clause-day_masks : goal.returns-clause-day_masks
returns-clause-day_masks c = λ days t. (days_of-sound days t, days_of-complete days t)

pub returns-clause-clocks : goal.returns-clause-clocks
returns-clause-clocks c = λ n t. (clock_of-sound n t, clock_of-complete n t)

pub returns-clause-variations : goal.returns-clause-variations
returns-clause-variations c = λ v t. (variation_of-sound v t, variation_of-complete v t)
