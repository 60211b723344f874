-- The last day that has a letter, or the first day.
use Rattle.std.proofs.Common.{◌<◌, ◌≤◌, ◌-◌, length, sym, arith}
use Rattle.ssim_periods.proofs.CoverLemmas.{last_where-at}
use Rattle.ssim_calendar.specs.Picture.{has_letter}
use Rattle.ssim_calendar.proofs.Dates.{last_where-none, letter_at}
use Rattle.ssim_calendar.proofs.picture.last_date.Goals as goal

pub returns-then-cells-day-ne46-clause-value : goal.returns-then-cells-day-ne46-clause-value
returns-then-cells-day-ne46-clause-value c =
    let cells = c.args.cells.now in let day = c.loop-day.day in
    let test = c.loop-day-test.true in let within : day ≤ length cells = c.loop-day.invariant.within in
    let before : day - 1 < length cells = omega arith in
    sym (last_where-at (has_letter cells) 0 (length cells) (day - 1) (omega arith) (omega arith) (letter_at cells (day - 1) before c.if-cells-day-ne46.true) (λ m a b. c.loop-day.invariant.none m (omega arith) (omega arith)))

pub returns-clause-value : goal.returns-clause-value
returns-clause-value c =
    let cells = c.args.cells.now in let test = c.loop-day-test.false in
    sym (last_where-none (has_letter cells) 0 (length cells) (λ m a b. c.loop-day.invariant.none m (omega arith) (omega arith)))
