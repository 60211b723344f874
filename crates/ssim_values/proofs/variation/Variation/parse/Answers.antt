-- What is spelled is read, and what spells no value is read as none.
use Rattle.ssim_values.proofs.SpellingLemmas.{none_where}
use Rattle.ssim_values.proofs.ClockLaws.{variation_of-complete, variation_of-sound}
use Rattle.ssim_values.proofs.variation.Variation.parse.Goals as goal

pub returns-in-Some-clause-some : goal.returns-in-Some-clause-some
returns-in-Some-clause-some c = variation_of-complete _ _ c.in-Some.ensures.some

pub returns-in-None-clause-none : goal.returns-in-None-clause-none
returns-in-None-clause-none c = none_where _ (λ v e. c.in-None.ensures.none v (variation_of-sound v _ e))
