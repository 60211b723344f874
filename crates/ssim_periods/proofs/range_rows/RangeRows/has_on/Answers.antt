use Rattle.std.proofs.Common.{length, sym, arith, inl, inr}
use Rattle.ssim_values.specs.Calendar.{first_on}
use Rattle.ssim_periods.proofs.CountLemmas.{le_or_lt}
use Rattle.ssim_periods.proofs.PieceLaw.{has_value-past}
use Rattle.ssim_periods.proofs.range_rows.RangeRows.has_on.Goals as goal

pub returns-in-None : goal.returns-in-None
returns-in-None g c =
    let day = first_on c.args.weekday c.args.first in
    let len = c.requires.all_days in
    let s = c.in-None.ensures.some in
    elim (le_or_lt (length c.args.self.now.days) day) [
      | inl past ↦ sym (has_value-past g.V.Value.alike c.args.self.now.days c.args.value.now day past)
      | inr within ↦ let bad = s.1 (omega arith) in cc
    ]
