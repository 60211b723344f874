-- What is written spells the value, and is therefore read as the value.
use Rattle.ssim_values.proofs.ClockLaws.{clock_of-clock_text, variation_of-variation_text}
use Rattle.ssim_values.proofs.DayLaws.{day_of-day_text, day_of-one_text}
use Rattle.ssim_values.proofs.DayMaskLaws.{days_of-digits_of, days_of-places_of}
use Rattle.ssim_values.proofs.DayMonthLaws.{month_day_of-month_day_text}
use Rattle.ssim_values.proofs.laws.texts_read_back.Goals as goal

pub returns-clause-days : goal.returns-clause-days
returns-clause-days c = day_of-day_text

pub returns-clause-one_text : goal.returns-clause-one_text
returns-clause-one_text c = day_of-one_text

pub returns-clause-day_months : goal.returns-clause-day_months
returns-clause-day_months c = month_day_of-month_day_text

pub returns-clause-day_masks : goal.returns-clause-day_masks
returns-clause-day_masks c = λ days m. (days_of-places_of days m, days_of-digits_of days m)

pub returns-clause-clocks : goal.returns-clause-clocks
returns-clause-clocks c = clock_of-clock_text

pub returns-clause-variations : goal.returns-clause-variations
returns-clause-variations c = variation_of-variation_text
