-- Each value is a copy of one that is equal to the row's.
use Rattle.std.proofs.Common.{◌∙◌}
use Rattle.ssim_periods.proofs.SplitLemmas.{row-of_seven}
use Rattle.ssim_periods.proofs.range_rows.row_copies.shared_row.Goals as goal

pub returns : goal.returns
returns g c =
    row-of_seven c.args.row.now _ _ _ _ _ _ _ _ _ _ _ _ _ _ c.type_inv.row (c.in_ok-monday.ensures ∙ c.source.ensures) (c.in_ok-tuesday.ensures ∙ c.source-2.ensures) (c.in_ok-wednesday.ensures ∙ c.source-3.ensures)
    (c.in_ok-thursday.ensures ∙ c.source-4.ensures) (c.in_ok-friday.ensures ∙ c.source-5.ensures) (c.in_ok-saturday.ensures ∙ c.source-6.ensures) (c.in_ok-sunday.ensures ∙ c.source-7.ensures)
