-- The days of the period are changed.
use Rattle.std.proofs.Common.{◌≡◌, ℕ, Bool, ◌&&◌, nat_le, if◌then◌else◌, [], Option, IfSome, ap, subst}
use Rattle.std.specs.Prelude.{nat_lt}
use Rattle.ssim_values.specs.Period.{DayRange}
use Rattle.ssim_periods.specs.Calendar.{holds}
use Rattle.ssim_base.proofs.Results.{on_ok}
use Rattle.ssim_parts.specs.internal.Changes.{cancelled}
use Rattle.ssim_parts.proofs.Changing.{changed_flight}
use Rattle.ssim_parts.proofs.chosen.cancel.Goals as goal

pub returns-in-Some : goal.returns-in-Some
returns-in-Some c =
    let first = c.args.first in
    let end = c.args.end in
    let is = subst (λ (found : Option DayRange). IfSome found
    (λ p. (n : ℕ) → holds p n ≡ (nat_le first n && nat_lt n end))) c.in-Some.is
    c.daily_period.ensures.some in
    on_ok c.change.result
    (changed_flight c.args.flight (holds c.in-Some.period) (λ legs. []) (cancelled first end)
    c.args.schedule.now c.change.new.self
    (λ n within legs. ap (λ (b : Bool). if b then [] else legs) (is n)))
    c.change.ensures.days
