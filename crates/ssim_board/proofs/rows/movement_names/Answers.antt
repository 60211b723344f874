-- There was nothing before the names.
use Rattle.std.proofs.Common.{◌∙◌, ◌++◌, List, ℕ, ap}
use Rattle.ssim_listing.specs.Rows.{row}
use Rattle.ssim_board.specs.Rows.{movement_names}
use Rattle.ssim_board.proofs.rows.movement_names.Goals as goal

pub returns : goal.returns
returns c =
    c.in_ok-push.ensures
    ∙ ap (λ (bytes : List ℕ). bytes ++ row movement_names) c.new-rows.ensures
