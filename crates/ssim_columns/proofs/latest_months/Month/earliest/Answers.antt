-- The calendar begins with January 2000.
use Rattle.ssim_columns.proofs.lemmas.Months.{january}
use Rattle.ssim_columns.proofs.latest_months.Month.earliest.Goals as goal

pub invariant_of-result : goal.invariant_of-result
invariant_of-result c = record { is_month = january }
