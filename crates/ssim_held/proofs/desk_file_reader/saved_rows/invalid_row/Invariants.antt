-- Each line makes the rest shorter.
use Rattle.std.proofs.Common.{length}
use Rattle.ssim_held.proofs.desk_file_reader.saved_rows.invalid_row.Given as goal

abbrev pub decreases-loop-line : goal.decreases-loop-line
decreases-loop-line l = length l.rest
