-- The days are those of the one weekday in the mask.
use Rattle.std.proofs.Common.{◌+◌, ◌&&◌, List, [], ◌∷◌, Bool, true, false, nat_le, nat_lt, slice_index_or, slice_set, ap, ◌∙◌}
use Rattle.ssim_values.specs.Calendar.{slot}
use Rattle.ssim_periods.proofs.NumberPeriods.{le-lt, one-on}
use Rattle.ssim_periods.proofs.range_rows.number_periods.one_weekday.Goals as goal

pub returns : goal.returns
returns c n =
    let first = c.args.first in let last = c.args.last in let e = c.period_of.ensures in let made = c.period_of.result in let on = λ (days : List Bool). slice_index_or days (slot n) false in
    ap (λ x. (nat_le x n && nat_le n made.last) && on made.days) e.first
    ∙ ap (λ x. (nat_le first n && nat_le n x) && on made.days) e.last
    ∙ ap (λ days. (nat_le first n && nat_le n last) && on days) e.days
    ∙ ap (λ x. (nat_le first n && x) && on (slice_set (false ∷ false ∷ false ∷ false ∷ false ∷ false ∷ false ∷ []) c.args.weekday true)) (le-lt n last)
    ∙ ap (λ x. (nat_le first n && nat_lt n (last + 1)) && x) (one-on c.args.weekday (slot n) c.requires.weekday)
