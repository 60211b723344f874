-- The rows of a flight on a date are its legs.
use Rattle.ssim_sql.proofs.LegsBack.{legs_back}
use Rattle.ssim_sql.proofs.laws.rows_of_legs_are_the_timetable.Goals as goal

pub returns : goal.returns
returns c = legs_back
