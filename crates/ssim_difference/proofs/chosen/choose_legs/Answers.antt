-- Each difference is looked at.
use Rattle.std.proofs.Common.{◌≡◌, ℕ, ◌&&◌, nat_le, Option, IfSome, subst}
use Rattle.std.specs.Prelude.{nat_lt}
use Rattle.ssim_values.specs.Period.{DayRange}
use Rattle.ssim_periods.specs.Calendar.{holds}
use Rattle.ssim_base.proofs.Results.{on_ok}
use Rattle.ssim_difference.specs.internal.Choosing.{with_chosen_legs}
use Rattle.ssim_difference.proofs.Choosing.{all_looked_at, all_stay, changed_days, unchanged}
use Rattle.ssim_difference.proofs.chosen.choose_legs.Goals as goal

pub returns-then-has_all_legs : goal.returns-then-has_all_legs
returns-then-has_all_legs c =
    let choice = c.args.choice.now in
    let none = c.has_all_legs.ensures c.if-has_all_legs.true in
    unchanged (with_chosen_legs choice) c.args.days.now.days (all_stay choice none.0 none.1)

pub returns-in-Some : goal.returns-in-Some
returns-in-Some c =
    let choice = c.args.choice.now in
    let is = subst (λ (found : Option DayRange). IfSome found
    (λ p. (n : ℕ) → holds p n ≡ (nat_le 0 n && nat_lt n 36525))) c.in-Some.is
    c.daily_period.ensures.some in
    let s = holds c.in-Some.calendar in
    on_ok c.replace.result
    (changed_days s (with_chosen_legs choice 0) (with_chosen_legs choice) c.args.days.now.days
    c.replace.new.self.days (all_looked_at choice s is))
    c.replace.ensures.days
