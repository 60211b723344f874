-- What spells a time is one.
use Rattle.std.proofs.Common.{sym, ◌∙◌}
use Rattle.ssim_columns.proofs.lemmas.Clocks.{some_clock}
use Rattle.ssim_columns.proofs.leg.leg_points.is_time.Goals as goal

pub returns-then-is_clock_to : goal.returns-then-is_clock_to
returns-then-is_clock_to c =
    let spelled = c.is_clock_to.ensures c.if-is_clock_to.true in
    c.if-is_clock_to.true ∙ sym (some_clock c.args.text.now spelled.0 spelled.1 spelled.2)
