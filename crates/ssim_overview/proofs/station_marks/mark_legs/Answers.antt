-- One leg more.
use Rattle.std.proofs.Common.{◌∙◌, ◌+◌, ◌||◌, take, ap, sym}
use Rattle.std.proofs.lemmas.List.Folds.{list_any_more}
use Rattle.ssim_base.specs.Timetable.{LegValue}
use Rattle.ssim_overview.specs.Totals.{calls_at, serves}
use Rattle.ssim_overview.proofs.StationMarks.{more_marks}
use Rattle.ssim_overview.proofs.station_marks.mark_legs.Goals as goal

pub loop-leg-preserved : goal.loop-leg-preserved
loop-leg-preserved c =
    let legs = c.args.legs.now in let i = c.loop-leg.leg-index in let leg = c.leg-item.result in
    more_marks (λ station. serves station (take i legs)) (λ station. calls_at station leg)
    (λ station. serves station (take (i + 1) legs)) _ c.loop-leg.marks c.mark_leg.new.marks
    (λ station. list_any_more (calls_at station) legs i leg c.loop-leg-test.true
    ∙ ap (λ (l : LegValue). serves station (take i legs) || calls_at station l) (sym c.leg-item.is))
    c.loop-leg.invariant c.mark_leg.ensures
