-- One saying more, if its period has such a day.
use Rattle.std.proofs.Common.{◌∙◌, ap, sym, true, false}
use Rattle.ssim_overview.specs.internal.SaidRows.{Dated, meets}
use Rattle.ssim_overview.proofs.SaidSteps.{filter_step}
use Rattle.ssim_overview.proofs.station_rows.between.Goals as goal
use Rattle.ssim_overview.proofs.station_rows.between.Goals.{then-meets+in_ok-push, else-meets}

pub loop-saying-preserved : goal.loop-saying-preserved
loop-saying-preserved c =
    let all = c.args.sayings.now in let i = c.loop-saying.saying-index in let x = c.saying-item.result in
    let step = filter_step (λ (s : Dated). meets c.args.from c.args.end s.0) all i x c.loop-saying.found.items
    c.if-meets.found.items c.loop-saying-test.true c.saying-item.is c.loop-saying.invariant in
    elim c.if-meets.branch [
      | then-meets+in_ok-push w ↦ step true (sym w.if-meets.true ∙ c.meets.ensures)
          (ap (λ found. found.items) w.found-is ∙ w.in_ok-push.ensures.items)
      | else-meets w ↦ step false (sym w.if-meets.false ∙ c.meets.ensures)
          (ap (λ found. found.items) w.found-is)
    ]
