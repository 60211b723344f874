use Rattle.std.proofs.Common.{◌||◌, List, Bool, false, slice_index_or, ap, ◌∙◌}
use Rattle.std.proofs.lemmas.Nat.{or_lt}
use Rattle.ssim_periods.specs.internal.Bits.{week_of}
use Rattle.ssim_periods.proofs.BitLemmas.{week_of-or}
use Rattle.ssim_periods.proofs.weekday_bits.WeekdayBits.either.Goals as goal

pub invariant_of-result : goal.invariant_of-result
invariant_of-result c = or_lt 7 c.self.inside.bits c.other.inside.bits c.self.invariant c.other.invariant

pub returns : goal.returns
returns c = λ w.
    week_of-or c.self.inside.bits c.other.inside.bits w
    ∙ ap (λ (d : List Bool). slice_index_or d w false || slice_index_or (week_of c.other.inside.bits) w false) (ap (λ s. s.days) c.self.view_is)
    ∙ ap (λ (d : List Bool). slice_index_or c.args.self.days w false || slice_index_or d w false) (ap (λ s. s.days) c.other.view_is)
