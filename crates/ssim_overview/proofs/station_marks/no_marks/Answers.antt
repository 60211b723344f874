-- A list of equal elements has none other.
use Rattle.std.proofs.Common.{Bool, List, ap, false, slice_index_or, ◌∙◌}
use Rattle.ssim_overview.proofs.StationMarks.{none_marked}
use Rattle.ssim_overview.proofs.station_marks.no_marks.Goals as goal

pub returns-clause-none : goal.returns-clause-none
returns-clause-none c = λ k. ap (λ (marks : List Bool). slice_index_or marks k false)
    (c.in_ok-marks.ensures.items_if_clones_equal (λ y h. h)) ∙ none_marked 17576 k
