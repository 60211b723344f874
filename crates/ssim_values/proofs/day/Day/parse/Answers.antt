-- What is spelled is read, and what spells no value is read as none.
use Rattle.ssim_values.proofs.SpellingLemmas.{none_where}
use Rattle.ssim_values.proofs.DayLaws.{day_of-complete, day_of-sound}
use Rattle.ssim_values.proofs.day.Day.parse.Goals as goal

pub returns-in-Some-clause-some : goal.returns-in-Some-clause-some
returns-in-Some-clause-some c = day_of-complete _ _ c.in-Some.ensures.some

pub returns-in-None-clause-none : goal.returns-in-None-clause-none
returns-in-None-clause-none c = none_where _ (λ v e. c.in-None.ensures.none v (day_of-sound v _ e))

pub returns-in-None-clause-accepts : goal.returns-in-None-clause-accepts
returns-in-None-clause-accepts c = (λ e. absurd (cc), λ w. absurd (c.in-None.ensures.none w.0 w.1))
