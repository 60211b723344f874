-- One day more.
use Rattle.std.proofs.Common.{◌∙◌, ◌≡◌, ◌-◌, ℕ, Option, ap, arith, length, map}
use Rattle.std.specs.List.{range_with_len}
use Rattle.std.specs.Option.{option_to_list}
use Rattle.ssim_values.specs.Variation.{Offset}
use Rattle.ssim_overview.specs.SaidRows.{with_variation}
use Rattle.ssim_overview.specs.internal.HeldEnds.{before_ends}
use Rattle.ssim_overview.specs.internal.SaidRows.{grown}
use Rattle.ssim_overview.proofs.SaidSteps.{rows_more}
use Rattle.ssim_overview.proofs.station_rows.push_held.Goals as goal

pub loop-day-preserved : goal.loop-day-preserved
loop-day-preserved c =
    let day = c.loop-day.day in
    rows_more c.args.station (before_ends c.args.ends.now c.args.from c.args.variation)
    c.args.from day c.args.rows.now.items c.loop-day.rows.items c.push_said.new.rows.items
    c.loop-day.auto.day c.loop-day.invariant
    (c.in_ok-push_said.ensures
    ∙ ap (λ (v : Option Offset).
    grown c.args.station c.loop-day.rows.items (map (λ w. (day, w)) (option_to_list v)))
    c.said_before-said.ensures)

pub returns : goal.returns
returns c =
    let over = c.loop-day-test.false in let to = c.loop-day.auto.day-end in
    let done : c.loop-day.day - c.args.from ≡ length c.args.ends.now = omega arith in
    c.loop-day.invariant
    ∙ ap (λ (n : ℕ). grown c.args.station c.args.rows.now.items
    (with_variation (before_ends c.args.ends.now c.args.from c.args.variation)
    (range_with_len c.args.from n))) done
