-- The last loop settles each date on which the timetable before it differs from the new one. Sorted,
-- the sub-messages leave the same.
use Rattle.std.proofs.Common.{◌∙◌, ap, subst, sym, List}
use Rattle.std.specs.List.{AllByRecursion}
use Rattle.ssim_schedule.specs.FlightPieces.{divided_flights}
use Rattle.ssim_schedule.specs.clauses.Schedule.{Flown, days_in}
use Rattle.ssim_difference.specs.Differences.{Compared, differences}
use Rattle.ssim_values.specs.Flight.{IsFlight}
use Rattle.ssim_base.specs.Timetable.{on_day}
use Rattle.ssim_outbox.specs.Published.{NamesDifferences}
use Rattle.ssim_outbox.specs.Reach.{IsSaid}
use Rattle.ssim_outbox.specs.declared.planned_sub.PlannedSub.{PlannedSub}
use Rattle.ssim_outbox.specs.internal.Drafts.{Settles, dates_of_flights}
use Rattle.ssim_outbox.proofs.Settling.{nothing_yet, published_after}
use Rattle.ssim_outbox.proofs.Sorted.{IsRanked, act_sorted, all_ranked, come_in_order, every_sorted}
use Rattle.ssim_outbox.proofs.Sorted.{legs_sorted, period_sorted}
use Rattle.ssim_outbox.proofs.plan.make_plan.Goals as goal
use Rattle.ssim_outbox.proofs.plan.make_plan.Goals.{After-drop-wanted-2}

-- the draft before the last loop, and after it
settled : (c : After-drop-wanted-2) → Settles c.args.rows.now (days_in c.args.from.now)
    (days_in c.args.to.now)
    (dates_of_flights (differences (days_in c.add_flights.new.draft.schedule) (days_in c.args.to.now)))
    c.add_flights.new.draft c.settle_flights.new.draft
settled c =
    let rows = c.args.rows.now in
    let old = days_in c.args.from.now in let new = days_in c.args.to.now in
    let first = c.add_flights.new.draft in let last = c.settle_flights.new.draft in
    let begun = c.in_ok-add_flights.ensures (nothing_yet rows old new c.in_ok-draft.draft
    c.in_ok-draft.ensures.subs (ap days_in c.in_ok-draft.ensures.schedule)) in
    let wanted = c.deref-3.ensures.value ∙ c.in_ok-wanted.ensures
    ∙ ap (λ (to : Flown). divided_flights (days_in to)) c.in_ok-copy.ensures in
    let left = c.deref-4.ensures.value ∙ c.in_ok-left.ensures new wanted in
    subst (λ (flights : List Compared). Settles rows old new (dates_of_flights flights) first last) left
    (c.in_ok-settle_flights.ensures begun)

pub returns-clause-leave : goal.returns-clause-leave
returns-clause-leave c =
    let s = settled c in let draft = s.draft in
    λ flight day exists within.
    draft.leave flight day exists within
    ∙ sym (legs_sorted c.args.rows.now c.settle_flights.new.draft.subs.items c.in_ok-subs.subs.items
    flight day (on_day (days_in c.args.from.now flight) day) c.in_ok-subs.ensures
    (draft.apart flight day exists within))

pub returns-clause-published : goal.returns-clause-published
returns-clause-published c =
    published_after c.args.rows.now (days_in c.args.from.now) (days_in c.args.to.now)
    c.add_flights.new.draft c.settle_flights.new.draft (settled c)

pub returns-clause-said : goal.returns-clause-said
returns-clause-said c =
    let s = settled c in let draft = s.draft in
    every_sorted (λ (sub : PlannedSub). IsSaid sub.action) c.settle_flights.new.draft.subs.items
    c.in_ok-subs.subs.items c.in_ok-subs.ensures.permutation draft.said

pub returns-clause-differing : goal.returns-clause-differing
returns-clause-differing c =
    let s = settled c in let draft = s.draft in
    every_sorted (NamesDifferences (days_in c.args.from.now) (days_in c.args.to.now))
    c.settle_flights.new.draft.subs.items
    c.in_ok-subs.subs.items c.in_ok-subs.ensures.permutation draft.differing

pub returns-clause-acting : goal.returns-clause-acting
returns-clause-acting c =
    let s = settled c in let draft = s.draft in
    λ flight day exists within.
    act_sorted c.args.rows.now c.settle_flights.new.draft.subs.items c.in_ok-subs.subs.items
    flight day (on_day (days_in c.args.from.now flight) day) c.in_ok-subs.ensures
    (draft.apart flight day exists within) (draft.acting flight day exists within)

pub returns-clause-ordered : goal.returns-clause-ordered
returns-clause-ordered c =
    let s = settled c in let draft = s.draft in
    let exist =
    subst (AllByRecursion (λ (sub : PlannedSub). IsFlight sub.flight)) c.deref-6.ensures.value
    c.flights_exist.ensures in
    come_in_order c.in_ok-subs.subs.items
    (every_sorted IsRanked c.settle_flights.new.draft.subs.items c.in_ok-subs.subs.items
    c.in_ok-subs.ensures.permutation
    (all_ranked (days_in c.args.from.now) (days_in c.args.to.now) c.settle_flights.new.draft.subs.items
    exist draft.differing))
    c.in_ok-subs.ensures.rising

pub returns-clause-apart : goal.returns-clause-apart
returns-clause-apart c =
    let s = settled c in let draft = s.draft in
    λ flight day exists within.
    period_sorted c.settle_flights.new.draft.subs.items c.in_ok-subs.subs.items flight day
    c.in_ok-subs.ensures (draft.apart flight day exists within)

pub returns-clause-exist : goal.returns-clause-exist
returns-clause-exist c =
    every_sorted (λ (sub : PlannedSub). IsFlight sub.flight) c.settle_flights.new.draft.subs.items
    c.in_ok-subs.subs.items c.in_ok-subs.ensures.permutation
    (subst (AllByRecursion (λ (sub : PlannedSub). IsFlight sub.flight)) c.deref-6.ensures.value
    c.flights_exist.ensures)
