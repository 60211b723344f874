-- The joined period takes the place of one of the list.
use Rattle.std.proofs.Common.{◌||◌, List, length, slice_index_or, ap, ◌∙◌, arith}
use Rattle.ssim_values.specs.Period.{DayRange}
use Rattle.ssim_periods.specs.Calendar.{holds}
use Rattle.ssim_periods.proofs.JoinLemmas.{held-set}
use Rattle.ssim_periods.proofs.cover.union.join.Goals as goal

pub returns-in-Some : goal.returns-in-Some
returns-in-Some c n =
    let periods = c.args.periods.now.items in let place = c.in-Some.found.0 in let both = c.in-Some.found.1 in
    let size = ap length c.deref.ensures.value in let found = c.in-Some.ensures.place in
    held-set periods place _ c.args.period.now both n (omega arith)
    (c.in-Some.ensures.days n ∙ ap (λ (ps : List DayRange). holds (slice_index_or ps place both) n || holds c.args.period.now n) c.deref.ensures.value)
