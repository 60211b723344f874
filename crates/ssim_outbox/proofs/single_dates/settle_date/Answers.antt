-- The date has the new itinerary, or it is made by what is said; or no messages can make it.
use Rattle.std.proofs.Common.{◌≡◌, ◌∙◌, ◌≤◌, ◌<◌, false, true, inl, inr, sym, subst, IfSome}
use Rattle.std.specs.Prelude.{IsTrue}
use Rattle.ssim_values.specs.Flight.{IsFlight, is_suffix}
use Rattle.ssim_periods.specs.Calendar.{day_count}
use Rattle.ssim_periods.proofs.DayLemmas.{day_count-is}
use Rattle.ssim_base.specs.Export.{same_itinerary}
use Rattle.ssim_base.specs.clauses.ItineraryLaws.{exact_itinerary}
use Rattle.ssim_base.specs.Timetable.{Legs, on_day}
use Rattle.ssim_schedule.specs.clauses.Schedule.{days_in}
use Rattle.ssim_outbox.specs.clauses.Acting.{ActEach}
use Rattle.ssim_outbox.specs.Reach.{Leads, Reach}
use Rattle.ssim_outbox.proofs.Settling.{date_acted, itinerary_at, settled_already}
use Rattle.ssim_outbox.proofs.single_dates.settle_date.Goals as goal

pub returns-then-same_legs : goal.returns-then-same_legs
returns-then-same_legs c from to change_is is =
    let change = c.args.change.now in let flight = change.flight in let day = c.args.day in
    let new_is = itinerary_at change.new.days (to flight) day c.at-new.result.now change_is.new_days
    c.at-new.ensures in
    settled_already c.args.rows.now from to c.args.draft.now flight day is
    (inl (sym c.itinerary.ensures.value
    ∙ (exact_itinerary c.itinerary.result.now c.legs.result.now).0
    (sym c.same_legs.ensures ∙ c.if-same_legs.true)
    ∙ c.legs.ensures ∙ new_is))

-- nothing is said, so no messages make the new itinerary
pub returns-in_default : goal.returns-in_default
returns-in_default c from to change_is is =
    let change = c.args.change.now in let flight = change.flight in let day = c.args.day in
    let old_is = itinerary_at change.old.days (from flight) day c.at.result.now change_is.old_days
    c.at.ensures in
    let new_is = itinerary_at change.new.days (to flight) day c.at-new.result.now change_is.new_days
    c.at-new.ensures in
    settled_already c.args.rows.now from to c.args.draft.now flight day is
    (inr (λ (reach : Reach c.args.rows.now day (on_day (from flight) day) (on_day (to flight) day)).
    let some = c.in_ok-actions.ensures.finds
    (subst (λ (legs : Legs). Reach c.args.rows.now day legs c.at-new.result.now) (sym old_is)
    (subst (Reach c.args.rows.now day (on_day (from flight) day)) (sym new_is) reach)) in
    let never : false ≡ true = rw c.in_default.is at some in absurd cc))

pub returns-in_ok-act : goal.returns-in_ok-act
returns-in_ok-act c from to change_is is =
    let rows = c.args.rows.now in let day = c.args.day in
    let change = c.args.change.now in let flight = change.flight in
    let old_is = itinerary_at change.old.days (from flight) day c.at.result.now change_is.old_days
    c.at.ensures in
    let new_is = itinerary_at change.new.days (to flight) day c.at-new.result.now change_is.new_days
    c.at-new.ensures in
    let exists : IsFlight flight = record {
      number_to = subst (λ n. n ≤ 9999) c.number.ensures.value c.number.ensures.bound;
      suffixed = subst (λ s. IsTrue (is_suffix s)) c.suffix.ensures.value c.suffix.ensures.suffix;
    } in
    let within : day < day_count = rw (← day_count-is)
    at (subst (λ n. n < 36525) c.number-2.ensures.value c.number-2.ensures.bound) in
    let other : same_itinerary (on_day (days_in c.args.draft.now.schedule flight) day)
    (on_day (to flight) day) ≡ false =
    (λ i. same_itinerary (sym c.itinerary.ensures.value i) (sym (c.legs.ensures ∙ new_is) i))
    ∙ sym c.same_legs.ensures ∙ c.if-same_legs.false in
    let old = c.at.result.now in let new = c.at-new.result.now in
    let actions = c.in-Some.actions.items in
    let leads : Leads rows day actions old new =
    subst (λ said. IfSome said (λ actions. Leads rows day actions.items old new))
    c.in-Some.is c.in_ok-actions.ensures.said in
    let each : ActEach rows day actions old =
    subst (λ said. IfSome said (λ actions. ActEach rows day actions.items old))
    c.in-Some.is c.in_ok-actions.ensures.acting in
    date_acted rows from to c.args.draft.now c.act.new.self actions flight
    c.period_of.result day exists within is c.period_of.ensures other
    (subst (λ (legs : Legs). Leads rows day actions (on_day (from flight) day) legs) new_is
    (subst (λ (legs : Legs). Leads rows day actions legs new) old_is leads))
    (subst (ActEach rows day actions) old_is each)
    c.in_ok-act.ensures.subs c.in_ok-act.ensures.acts c.in_ok-act.ensures.as_long
