-- One saying more, if its period holds the day.
use Rattle.std.proofs.Common.{◌∙◌, ap, sym, true, false}
use Rattle.ssim_overview.proofs.SaidSteps.{held_step}
use Rattle.ssim_overview.proofs.station_rows.held_on.Goals as goal
use Rattle.ssim_overview.proofs.station_rows.held_on.Goals.{then-holds+in_ok-push, else-holds}

pub loop-saying-preserved : goal.loop-saying-preserved
loop-saying-preserved c =
    let all = c.args.sayings.now in let i = c.loop-saying.saying-index in let x = c.saying-item.result in
    let step = held_step all i x c.args.day c.loop-saying.held.items c.if-holds.held.items c.loop-saying-test.true
    c.saying-item.is c.loop-saying.invariant in
    elim c.if-holds.branch [
      | then-holds+in_ok-push w ↦ step true (sym w.if-holds.true ∙ c.holds.ensures)
          (ap (λ held. held.items) w.held-is ∙ w.in_ok-push.ensures.items)
      | else-holds w ↦ step false (sym w.if-holds.false ∙ c.holds.ensures) (ap (λ held. held.items) w.held-is)
    ]
