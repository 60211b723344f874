-- The pieces of the differences of the days.
use Rattle.std.proofs.Common.{◌∙◌, List, ap}
use Rattle.ssim_periods.specs.Pieces.{pieces_of}
use Rattle.ssim_difference.specs.Differences.{DifferencePiece, no_difference, same_difference}
use Rattle.ssim_difference.proofs.flight_difference.FlightDifference.between.Goals as goal

pub returns : goal.returns
returns c before after old_is new_is =
    ap (λ (found : List DifferencePiece). (c.args.flight, found))
    (c.in_ok-pieces.ensures.pieces
    ∙ ap (pieces_of same_difference no_difference) (c.in_ok-days.ensures before after old_is new_is))
