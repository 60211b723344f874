-- Each itinerary is looked at.
use Rattle.std.proofs.Common.{◌≡◌, ℕ, ◌&&◌, nat_le, if◌then◌else◌, [], Option, IfSome, subst}
use Rattle.std.specs.Prelude.{nat_lt}
use Rattle.ssim_values.specs.Period.{DayRange}
use Rattle.ssim_periods.specs.Calendar.{holds}
use Rattle.ssim_base.proofs.Results.{on_ok}
use Rattle.ssim_parts.specs.Chosen.{chooses_legs}
use Rattle.ssim_parts.proofs.Changing.{changed_flight, unchanged}
use Rattle.ssim_parts.proofs.Choosing.{all_looked_at, all_stay, with_legs}
use Rattle.ssim_parts.proofs.chosen.choose_legs.Goals as goal

pub returns-then-has_all_legs : goal.returns-then-has_all_legs
returns-then-has_all_legs c =
    let choice = c.args.choice.now in
    let none = c.has_all_legs.ensures c.if-has_all_legs.true in
    unchanged c.args.flight (with_legs choice) c.args.schedule.now (all_stay choice none.0 none.1)

pub returns-in-Some : goal.returns-in-Some
returns-in-Some c =
    let choice = c.args.choice.now in
    let is = subst (λ (found : Option DayRange). IfSome found
    (λ p. (n : ℕ) → holds p n ≡ (nat_le 0 n && nat_lt n 36525))) c.in-Some.is
    c.daily_period.ensures.some in
    let s = holds c.in-Some.calendar in
    on_ok c.change.result
    (changed_flight c.args.flight s (λ legs. if chooses_legs choice legs then legs else [])
    (with_legs choice) c.args.schedule.now c.change.new.self (all_looked_at choice s is))
    c.change.ensures.days
