-- The legs of a day are those of the flight's schedule.
use Rattle.std.proofs.Common.{◌≡◌, ◌<◌, List, [], ap, subst, ◌∙◌}
use Rattle.std.specs.Prelude.{slice_index_or}
use Rattle.ssim_periods.proofs.DayLemmas.{day_count-is}
use Rattle.ssim_base.proofs.Calendars.{at-each_day}
use Rattle.ssim_base.specs.Timetable.{Legs}
use Rattle.ssim_base.proofs.Results.{if_ok}
use Rattle.ssim_desk.specs.Meaning.{left_by}
use Rattle.ssim_desk.proofs.flights.legs_after.Goals as goal

pub returns : goal.returns
returns c =
    let base = c.args.base.now in
    let messages = c.args.messages.now in
    let g = c.args.flight.now in
    let within : c.args.day < 36525 = subst (λ n. n < 36525) c.number.ensures.value c.number.ensures.bound in
    let legs : c.itinerary.result.now ≡ left_by base messages g c.args.day =
    c.itinerary.ensures.value
    ∙ ap (λ (days : List Legs). slice_index_or days c.args.day []) c.in_ok-schedule.ensures
    ∙ at-each_day (left_by base messages g) c.args.day (rw day_count-is within) in
    if_ok c.copy_legs.result (λ copies same. same ∙ legs) c.copy_legs.ensures
