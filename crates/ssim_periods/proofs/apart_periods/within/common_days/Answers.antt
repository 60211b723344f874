-- The days of the common part are those that both periods hold.
use Rattle.std.proofs.Common.{◌≤◌, subst, sym, ◌∙◌}
use Rattle.ssim_periods.specs.Calendar.{holds}
use Rattle.ssim_periods.proofs.HeldCounts.{common-none, common-some, no-common, tally-fits}
use Rattle.ssim_periods.proofs.PeriodDays.{counted}
use Rattle.ssim_periods.proofs.apart_periods.within.common_days.Goals as goal

pub returns-then-not-meets-clause-value : goal.returns-then-not-meets-clause-value
returns-then-not-meets-clause-value c = no-common c.args.own.now c.args.other.now (c.meets.ensures.none c.if-not-meets.true)

pub returns-in-Some-clause-value : goal.returns-in-Some-clause-value
returns-in-Some-clause-value c = c.number_of_days.ensures ∙ counted (holds c.in-Some.common) ∙ common-some c.args.own.now c.args.other.now c.in-Some.common c.common_part.result c.common_part.ensures c.in-Some.is

pub returns-in-Some-clause-bound : goal.returns-in-Some-clause-bound
returns-in-Some-clause-bound c = subst (λ k. k ≤ 36525) (sym (c.number_of_days.ensures ∙ counted (holds c.in-Some.common))) (tally-fits (holds c.in-Some.common))

pub returns-in-None-clause-value : goal.returns-in-None-clause-value
returns-in-None-clause-value c = common-none c.args.own.now c.args.other.now c.common_part.result c.common_part.ensures c.in-None.is
