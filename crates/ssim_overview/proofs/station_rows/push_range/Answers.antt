-- The first week says what is said on all days of the range.
use Rattle.std.proofs.Common.{◌∙◌, ◌-◌, List, Option, ap, length, min}
use Rattle.std.proofs.lemmas.List.FromFn.{length-map-range_with_len}
use Rattle.std.proofs.lemmas.Result.{on_ok_weaker}
use Rattle.ssim_values.specs.Variation.{Offset}
use Rattle.ssim_periods.specs.Pieces.{held_on}
use Rattle.ssim_overview.specs.SaidRows.{said}
use Rattle.ssim_overview.specs.internal.SaidRows.{grown}
use Rattle.ssim_overview.proofs.SaidDays.{week_dates}
use Rattle.ssim_overview.proofs.station_rows.push_range.Goals as goal

pub push_dates-requires-clause-week : goal.push_dates-requires-clause-week
push_dates-requires-clause-week c =
    ap (λ (week : List (Option Offset)). length week) (c.deref.ensures.value ∙ c.in_ok-week.ensures)
    ∙ length-map-range_with_len (λ n. said (held_on c.args.sayings.now n)) c.args.from (min 7 (c.args.end - c.args.from))

pub returns : goal.returns
returns c =
    on_ok_weaker c.push_dates.result (λ are. are ∙ ap (grown c.args.station c.args.rows.now.items)
    (week_dates c.args.sayings.now c.deref.result.now c.args.from c.args.end c.requires.ordered
    (c.deref.ensures.value ∙ c.in_ok-week.ensures) c.requires.same)) c.push_dates.ensures
