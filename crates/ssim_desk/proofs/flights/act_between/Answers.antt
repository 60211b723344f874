-- A message that reaches into the dates acts; another one leaves them as they are.
use Rattle.std.proofs.Common.{◌∙◌, sym, subst}
use Rattle.ssim_schedule.specs.clauses.Schedule.{Flown}
use Rattle.ssim_desk.specs.Meaning.{after_entry}
use Rattle.ssim_desk.specs.internal.Changes.{Shows}
use Rattle.ssim_desk.proofs.SomeDates.{acted_more, left_more}
use Rattle.ssim_desk.proofs.flights.act_between.Goals as goal
use Rattle.ssim_desk.proofs.flights.act_between.Goals.{then-reaches_one+in_ok-act, else-reaches_one}

pub loop-held-preserved : goal.loop-held-preserved
loop-held-preserved c = λ before shows.
    let rows = c.args.rows.now in
    let messages = c.args.messages.now in
    let first = c.args.first in
    let last = c.args.last in
    let k = c.loop-held.held-index in
    let e = c.held-item.result in
    let so_far = c.loop-held.invariant before shows in
    elim c.if-reaches_one.branch [
      | then-reaches_one+in_ok-act w ↦ (
        after_entry rows e so_far.0,
        subst (λ (s : Flown). Shows s (after_entry rows e so_far.0)) (sym w.schedule-is) (w.in_ok-act.ensures.shows so_far.0 so_far.1),
        λ g day low high. acted_more rows first last g day low high messages k e c.loop-held-test.true c.held-item.is before so_far.0 (so_far.2 g day low high),
      )
      | else-reaches_one w ↦ (
        so_far.0,
        subst (λ (s : Flown). Shows s so_far.0) (sym w.schedule-is) so_far.1,
        λ g day low high. left_more rows first last g day low high messages k e c.loop-held-test.true c.held-item.is before so_far.0 (so_far.2 g day low high)
            (sym c.reaches_one.ensures ∙ w.if-reaches_one.false),
      )
    ]
