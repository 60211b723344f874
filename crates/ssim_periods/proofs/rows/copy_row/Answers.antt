use Rattle.ssim_periods.proofs.SplitLemmas.{row-of_seven}
use Rattle.ssim_periods.proofs.rows.copy_row.Goals as goal

pub returns : goal.returns
returns g c =
    row-of_seven c.args.row.now _ _ _ _ _ _ _ _ _ _ _ _ _ _ c.type_inv.row c.in_ok-monday.ensures c.in_ok-tuesday.ensures c.in_ok-wednesday.ensures
    c.in_ok-thursday.ensures c.in_ok-friday.ensures c.in_ok-saturday.ensures c.in_ok-sunday.ensures
