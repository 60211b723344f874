-- The rows of the flights that differ.
use Rattle.std.proofs.Common.{◌∙◌, List, ap}
use Rattle.ssim_difference.specs.Differences.{Compared}
use Rattle.ssim_difference.specs.Rows.{listed_rows}
use Rattle.ssim_difference.proofs.rows.difference_rows.Goals as goal

pub returns : goal.returns
returns c old new is =
    c.in_ok-rows.ensures ∙ ap (λ (fs : List Compared). listed_rows c.args.airline fs) is
