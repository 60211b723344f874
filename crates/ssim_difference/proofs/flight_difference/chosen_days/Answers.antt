-- The differences of a flight that is chosen without those of other dates, or none.
use Rattle.std.proofs.Common.{◌≡◌, ◌∙◌, sym}
use Rattle.ssim_base.specs.Timetable.{on_day}
use Rattle.ssim_difference.specs.Differences.{difference, differing_days}
use Rattle.ssim_difference.proofs.Between.{between_lists}
use Rattle.ssim_difference.proofs.Choosing.{chosen_days, none_chosen}
use Rattle.ssim_difference.proofs.HeldPieces.{are_disjoint}
use Rattle.ssim_difference.proofs.flight_difference.chosen_days.Goals as goal

pub returns-then-not-has_flight : goal.returns-then-not-has_flight
returns-then-not-has_flight c before after old_is new_is =
    c.new.ensures.days
    ∙ none_chosen c.args.choice.now c.args.flight before after
    (sym c.has_flight.ensures ∙ c.if-not-has_flight.true)

pub returns : goal.returns
returns c before after old_is new_is =
    let choice = c.args.choice.now in
    let flight = c.args.flight in
    let found : c.in_ok-days.days.days ≡ differing_days (before flight) (after flight) =
    c.in_ok-days.ensures (are_disjoint c.args.old.now (before flight) old_is)
    (are_disjoint c.args.new.now (after flight) new_is)
    ∙ between_lists c.args.old.now c.args.new.now (before flight) (after flight) old_is new_is in
    c.in_ok-choose.ensures flight (sym c.has_flight.ensures ∙ c.if-not-has_flight.false)
    (λ n. difference (on_day (before flight) n) (on_day (after flight) n)) found
    ∙ chosen_days choice flight before after
