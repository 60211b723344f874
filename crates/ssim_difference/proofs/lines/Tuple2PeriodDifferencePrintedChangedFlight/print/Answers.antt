-- The line of the period, and those of the legs.
use Rattle.std.proofs.Common.{◌++◌, ◌∷◌}
use Rattle.ssim_base.specs.Export.{line}
use Rattle.ssim_listing.specs.Lines.{period_text}
use Rattle.ssim_listing.proofs.Joining.{joined}
use Rattle.ssim_difference.specs.Lines.{difference_legs}
use Rattle.ssim_difference.proofs.lines.Tuple2PeriodDifferencePrintedChangedFlight.print.Goals as goal

pub returns : goal.returns
returns c =
    let piece = c.args.self.now in
    joined c.args.lines.now.items (line (c.args.named.now.name.now ++ 32 ∷ period_text piece.0))
    (difference_legs piece.1)
    c.in_ok-push_period.ensures c.in_ok-push_difference.ensures
