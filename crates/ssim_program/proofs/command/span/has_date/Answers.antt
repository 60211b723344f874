-- The period has a chosen date, if it has one in common with its chosen part.
use Rattle.std.proofs.Common.{◌≡◌, ◌∙◌, ap, sym}
use Rattle.ssim_periods.specs.CommonDays.{meet}
use Rattle.ssim_program.proofs.SpanParts.{meets_none, meets_part}
use Rattle.ssim_program.proofs.command.span.has_date.Goals as goal

pub returns-in-Some : goal.returns-in-Some
returns-in-Some c =
    c.meets.ensures.value ∙ ap (meet c.args.period.now) c.in-Some.ensures.some
    ∙ meets_part c.args.choice.now c.args.period.now

pub returns-in-None : goal.returns-in-None
returns-in-None c = sym (meets_none c.args.choice.now c.args.period.now c.in-None.ensures.none)
