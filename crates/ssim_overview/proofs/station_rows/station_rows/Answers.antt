-- The dates of the calendar are those of the span.
use Rattle.std.proofs.Common.{◌∙◌, ℕ, ◌-◌, List, [], ap, sym}
use Rattle.ssim_values.specs.Variation.{Offset}
use Rattle.ssim_base.specs.Stations.{Row}
use Rattle.ssim_overview.specs.internal.SaidRows.{dates_said, grown}
use Rattle.ssim_overview.proofs.SaidSpan.{no_span, span_dates}
use Rattle.ssim_overview.proofs.station_rows.station_rows.Goals as goal
use Rattle.ssim_overview.proofs.station_rows.station_rows.Goals.{then-from-end+in_ok-push_days, else-from-end}

pub returns : goal.returns
returns c =
    let sayings = c.args.sayings.now in
    let from = c.span-from.result.0 in
    let end = c.span-from.result.1 in
    let within = c.span-from.ensures in
    elim c.if-from-end.branch [
      | then-from-end+in_ok-push_days w ↦ ap (λ rows. rows.items) w.rows-is
          ∙ w.in_ok-push_days.ensures
          ∙ ap (λ (rows : List Row). grown c.args.station rows (dates_said sayings from (end - from)))
          c.new-rows.ensures.items
          ∙ ap (λ (dates : List (ℕ × Offset)). grown c.args.station [] dates)
          (span_dates sayings from end w.if-from-end.true within.within within.others)
      | else-from-end w ↦ ap (λ rows. rows.items) w.rows-is ∙ c.new-rows.ensures.items
          ∙ sym (ap (λ (dates : List (ℕ × Offset)). grown c.args.station [] dates)
          (no_span sayings from end w.if-from-end.false within.others))
    ]
