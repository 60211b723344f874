-- The lines of the flights that differ, and of the number of their dates.
use Rattle.std.proofs.Common.{◌∙◌, List, ℕ, ap₂}
use Rattle.ssim_difference.specs.Differences.{Compared}
use Rattle.ssim_difference.specs.Lines.{listed_lines}
use Rattle.ssim_difference.proofs.lines.difference_lines.Goals as goal

pub returns : goal.returns
returns c old new is =
    c.in_ok-lines.ensures
    ∙ ap₂ (λ (fs : List Compared) (n : ℕ). listed_lines c.args.airline fs n) is
    (c.in_ok-dates.ensures old new is)
