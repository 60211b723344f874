-- A message that names one of the flights acts; another one leaves them as they are.
use Rattle.std.proofs.Common.{◌∙◌, sym, subst}
use Rattle.ssim_schedule.specs.clauses.Schedule.{Flown}
use Rattle.ssim_desk.specs.Meaning.{after_entry}
use Rattle.ssim_desk.proofs.SomeFlights.{named_more, names_none, other_more}
use Rattle.ssim_program.specs.internal.SomeFlights.{Shows}
use Rattle.ssim_program.proofs.some_flights.act_on.Goals as goal
use Rattle.ssim_program.proofs.some_flights.act_on.Goals.{then-names_one+in_ok-act, else-names_one}

pub loop-held-preserved : goal.loop-held-preserved
loop-held-preserved c = λ before shows.
    let rows = c.args.rows.now in
    let messages = c.args.messages.now in
    let flights = c.args.flights.now in
    let k = c.loop-held.held-index in
    let e = c.held-item.result in
    let so_far = c.loop-held.invariant before shows in
    elim c.if-names_one.branch [
      | then-names_one+in_ok-act w ↦ (
        after_entry rows e so_far.0,
        subst (λ (s : Flown). Shows s (after_entry rows e so_far.0)) (sym w.schedule-is)
            (w.in_ok-act.ensures so_far.0 so_far.1),
        λ g is. named_more rows messages k e c.loop-held-test.true c.held-item.is before so_far.0 g
            (so_far.2 g is),
      )
      | else-names_one w ↦ (
        so_far.0,
        subst (λ (s : Flown). Shows s so_far.0) (sym w.schedule-is) so_far.1,
        λ g is. other_more rows messages k e c.loop-held-test.true c.held-item.is before so_far.0 g
            (so_far.2 g is)
            (names_none flights e.dates g is (sym c.names_one.ensures ∙ w.if-names_one.false)),
      )
    ]
