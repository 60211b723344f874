-- The days of the period are changed.
use Rattle.std.proofs.Common.{◌≡◌, ℕ, Bool, ◌&&◌, nat_le, if◌then◌else◌, Option, IfSome, ap, subst}
use Rattle.std.specs.Prelude.{nat_lt}
use Rattle.ssim_values.specs.Period.{DayRange}
use Rattle.ssim_periods.specs.Calendar.{holds}
use Rattle.ssim_base.proofs.Results.{on_ok}
use Rattle.ssim_difference.specs.Differences.{no_difference}
use Rattle.ssim_difference.specs.internal.Choosing.{without}
use Rattle.ssim_difference.proofs.Choosing.{changed_days}
use Rattle.ssim_difference.proofs.chosen.leave_out.Goals as goal

pub returns-in-Some : goal.returns-in-Some
returns-in-Some c =
    let first = c.args.first in
    let end = c.args.end in
    let is = subst (λ (found : Option DayRange). IfSome found
    (λ p. (n : ℕ) → holds p n ≡ (nat_le first n && nat_lt n end))) c.in-Some.is
    c.daily_period.ensures.some in
    on_ok c.replace.result
    (changed_days (holds c.in-Some.period) (λ d. no_difference) (without first end)
    c.args.days.now.days c.replace.new.self.days
    (λ n within d. ap (λ (b : Bool). if b then no_difference else d) (is n)))
    c.replace.ensures.days
