-- A list of equal elements has none other.
use Rattle.std.proofs.Common.{Bool, List, ap, false, slice_index_or, ◌∙◌}
use Rattle.ssim_overview.proofs.StationMarks.{none_marked}
use Rattle.ssim_overview.proofs.table_notes.no_marks.Goals as goal

pub returns-clause-none : goal.returns-clause-none
returns-clause-none c = λ n. ap (λ (marks : List Bool). slice_index_or marks n false)
    (c.in_ok-marks.ensures.items_if_clones_equal (λ y h. h)) ∙ none_marked 36525 n
