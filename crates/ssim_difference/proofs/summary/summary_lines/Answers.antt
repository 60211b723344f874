-- The lines of the flights that differ, and of the number of their dates.
use Rattle.std.proofs.Common.{◌∙◌, ◌++◌, List, ℕ, ap, ap₂}
use Rattle.ssim_difference.specs.Differences.{Compared, date_count, differences}
use Rattle.ssim_difference.specs.Kinds.{all_kinds}
use Rattle.ssim_difference.specs.Lines.{last_line}
use Rattle.ssim_difference.specs.internal.KindCounts.{counted_lines}
use Rattle.ssim_difference.proofs.KindCounts.{lines_are}
use Rattle.ssim_difference.proofs.summary.summary_lines.Goals as goal

pub returns : goal.returns
returns c old new is =
    c.in_ok-lines.ensures
    ∙ ap₂ (λ (fs : List Compared) (n : ℕ). counted_lines fs n) is (c.in_ok-dates.ensures old new is)
    ∙ ap (λ (bs : List ℕ). bs ++ last_line (differences old new) (date_count old new))
    (lines_are old new all_kinds)
