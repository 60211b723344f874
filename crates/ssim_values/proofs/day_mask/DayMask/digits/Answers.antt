-- The digits of the days, without blanks, spell the days.
use Rattle.ssim_values.proofs.DayMaskLaws.{SpellsDays-digits_of}
use Rattle.ssim_values.proofs.DaysLemmas.{SpellsDays-unique}
use Rattle.ssim_values.proofs.day_mask.DayMask.digits.Goals as goal

pub returns-clause-spells : goal.returns-clause-spells
returns-clause-spells c = rw (c.digits.ensures, ← c.self.view_is) (SpellsDays-digits_of c.self.inside.days c.self.invariant)

pub returns-clause-reads_back : goal.returns-clause-reads_back
returns-clause-reads_back c = λ days p.
    SpellsDays-unique days c.args.self _ p (rw (c.digits.ensures, ← c.self.view_is) (SpellsDays-digits_of c.self.inside.days c.self.invariant))
