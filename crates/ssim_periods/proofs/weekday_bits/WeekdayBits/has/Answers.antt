use Rattle.std.proofs.Common.{ℕ, nat_eq, List, Bool, false, slice_index_or, ap, sym, ◌∙◌}
use Rattle.std.proofs.lemmas.Nat.Bits.{shr_and_one}
use Rattle.ssim_periods.proofs.BitLemmas.{week_of-at}
use Rattle.ssim_periods.proofs.weekday_bits.WeekdayBits.has.Goals as goal

pub returns : goal.returns
returns c =
    let w = c.args.weekday in
    ap (λ (x : ℕ). nat_eq x 1) (shr_and_one c.self.inside.bits w) ∙ sym (week_of-at c.self.inside.bits w c.requires)
    ∙ ap (λ (d : List Bool). slice_index_or d w false) (ap (λ s. s.days) c.self.view_is)
