-- The first line, the first day, the later ones, and the end.
use Rattle.std.proofs.Common.{◌∙◌, ◌++◌, ◌+◌, ◌-◌, codes}
use Rattle.std.specs.List.{flat_map, range_with_len}
use Rattle.ssim_sql.specs.DayRows.{day_row, day_statement, later_row}
use Rattle.ssim_sql.specs.declared.constant.heads.TheConstants.{DAY_HEAD}
use Rattle.ssim_sql.proofs.Joining.{four_joined}
use Rattle.ssim_sql.proofs.days.push_days.Goals as goal

pub returns : goal.returns
unfolding day_statement
returns c =
    let old = c.args.script.now.items in
    let f = c.number-first.result in let l = c.number.result in
    let first = c.number-first.ensures.value in let last = c.number.ensures.value in
    four_joined old DAY_HEAD.now (day_row f)
    (flat_map later_row (range_with_len (f + 1) (l + 12 - (f + 1))))
    (codes "\nON CONFLICT DO NOTHING;\n")
    c.in_ok-extend_from_slice.ensures.items c.in_ok-push_day.ensures c.in_ok-push_range.ensures
    c.in_ok-extend_from_slice-2.ensures.items
    ∙ (λ i. old ++ (DAY_HEAD.now ++ day_row (first i)
    ++ flat_map later_row (range_with_len (first i + 1) (last i + 12 - (first i + 1)))
    ++ codes "\nON CONFLICT DO NOTHING;\n"))
