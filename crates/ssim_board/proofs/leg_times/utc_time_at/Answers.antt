-- The days are those of the date, of the date variation, and one.
use Rattle.std.proofs.Common.{◌∙◌, ◌+◌}
use Rattle.ssim_board.specs.LocalTime.{utc_time}
use Rattle.ssim_board.proofs.leg_times.utc_time_at.Goals as goal

pub returns : goal.returns
returns c =
    c.utc_of.ensures
    ∙ (λ i. utc_time c.args.mode c.args.variation
    (c.number.ensures.value i + c.days_added.ensures.value i + 1) c.args.time)
