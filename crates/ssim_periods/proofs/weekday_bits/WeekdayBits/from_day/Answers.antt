use Rattle.std.proofs.Common.{◌+◌, List, Bool, false, slice_index_or, ap, ◌∙◌}
use Rattle.ssim_values.specs.Calendar.{slot}
use Rattle.ssim_periods.proofs.BitLemmas.{week_of-ahead}
use Rattle.ssim_periods.proofs.weekday_bits.WeekdayBits.from_day.Goals as goal

pub returns : goal.returns
returns c = record {
  bits = λ i l.
      week_of-ahead c.self.inside.bits c.weekday_of.result c.args.day i c.self.invariant c.weekday_of.ensures.value l
      ∙ ap (λ (d : List Bool). slice_index_or d (slot (c.args.day + i)) false) (ap (λ s. s.days) c.self.view_is);
}
