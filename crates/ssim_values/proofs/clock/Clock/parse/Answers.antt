-- What is spelled is read, and what spells no time is read as none.
use Rattle.ssim_values.proofs.SpellingLemmas.{none_where}
use Rattle.ssim_values.proofs.ClockLaws.{clock_of-complete, clock_of-sound}
use Rattle.ssim_values.proofs.clock.Clock.parse.Goals as goal

pub returns-in-Some-clause-some : goal.returns-in-Some-clause-some
returns-in-Some-clause-some c =
    clock_of-complete _ _ (record { to = c.in-Some.ensures.some.0; spelled = c.in-Some.ensures.some.1 })

pub returns-in-None-clause-none : goal.returns-in-None-clause-none
returns-in-None-clause-none c =
    none_where _ (λ n e. let p = clock_of-sound n _ e in c.in-None.ensures.none n p.to p.spelled)
