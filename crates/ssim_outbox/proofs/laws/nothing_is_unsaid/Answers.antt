-- By the actions on each date: those of the second desk, said again, make its itinerary.
use Rattle.ssim_outbox.proofs.SameBase.{all_is_reached, nothing_is_unsaid}
use Rattle.ssim_outbox.proofs.laws.nothing_is_unsaid.Goals as goal

pub returns-clause-reached : goal.returns-clause-reached
returns-clause-reached c = all_is_reached

pub returns-clause-unsaid : goal.returns-clause-unsaid
returns-clause-unsaid c = nothing_is_unsaid c.equal_timetables_have_no_difference.ensures
