-- The period is of all days, from the first to the one before the end.
use Rattle.std.proofs.Common.{◌∙◌, arith}
use Rattle.ssim_parts.proofs.Booleans.{holds_all}
use Rattle.ssim_parts.proofs.chosen.daily_period.Goals as goal

pub returns-in-Ok-clause-some : goal.returns-in-Ok-clause-some
returns-in-Ok-clause-some c = λ n.
    let is = c.in-Ok.ensures.value in
    holds_all c.in-Ok.period c.args.first c.args.end n (omega arith)
    (is.0 ∙ c.in_ok-first.ensures.value) (is.1 ∙ c.in_ok-last.ensures.value)
    (is.2 ∙ c.daily.ensures)
