-- There is a letter for each day.
use Rattle.std.proofs.Common.{◌≡◌, ◌≤◌, ◌∙◌, [], ℕ, length, slice_index_or, sym, ap, subst, arith}
use Rattle.ssim_base.specs.Export.{same_itinerary}
use Rattle.ssim_periods.proofs.DayLemmas.{length-each_day}
use Rattle.ssim_calendar.specs.Letters.{cell, different}
use Rattle.ssim_program.proofs.command.calendar.lines_of.Goals as goal

pub drawn_or_none-requires : goal.drawn_or_none-requires
drawn_or_none-requires c =
    let days = c.args.days.now.days in
    let all : length c.deref-2.result.now ≡ 36525 = ap length (c.deref-2.ensures.value ∙ c.in_ok-calendar.ensures.cells)
    ∙ length-each_day (λ (n : ℕ). cell same_itinerary [] (different same_itinerary [] days) (slice_index_or days n [])) in
    let within : 36525 ≤ 36525 = omega arith in
    subst (λ (n : ℕ). n ≤ 36525) (sym all) within
