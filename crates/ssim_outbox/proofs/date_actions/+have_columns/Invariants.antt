use Rattle.std.proofs.Common.{length}
use Rattle.ssim_outbox.proofs.date_actions.+have_columns.Given as goal

abbrev pub decreases-have_columns : goal.decreases-have_columns
decreases-have_columns l = length l.legs.now
