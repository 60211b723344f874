-- No period holds a day before or after all of them.
use Rattle.std.proofs.Common.{refl}
use Rattle.ssim_periods.proofs.ApartLemmas.{outside-none}
use Rattle.ssim_periods.proofs.apart_periods.is_free.Goals as goal

pub returns-then-lies_outside : goal.returns-then-lies_outside
returns-then-lies_outside g c met n h =
    outside-none c.args.entries.now c.args.cuts.now c.args.period.now c.args.period.now.first c.args.period.now.last n c.requires.divided refl refl (c.lies_outside.ensures met) h
