use Rattle.std.proofs.Common.{ℕ, false, slice_index_or, ◌∙◌, rules}
use Rattle.ssim_periods.proofs.BitLemmas.{week_of-made, seven-are}
use Rattle.ssim_periods.proofs.weekday_bits.WeekdayBits.of.Goals as goal

pub returns : goal.returns
returns c =
    let at = λ (i : ℕ). slice_index_or c.args.days i false in
    week_of-made (at 0) (at 1) (at 2) (at 3) (at 4) (at 5) (at 6) ∙ seven-are c.args.days (search rules)
