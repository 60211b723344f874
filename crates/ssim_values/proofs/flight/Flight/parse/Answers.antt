-- The digits and the suffix that were split off make up the text.
use Rattle.std.proofs.Common.{refl}
use Rattle.ssim_values.proofs.flight.Flight.parse.Goals as goal

pub returns-in-Some-clause-accepts : goal.returns-in-Some-clause-accepts
returns-in-Some-clause-accepts c =
    (λ _. (record { number = c.in-Some.number; suffix = c.split_suffix-suffix.result.1 }, record { digits = _; is_number = c.in-Some.ensures.some.1; suffixed = c.split_suffix-suffix.ensures.suffix; spelled = c.split_suffix-suffix.ensures.whole }), λ _. refl)
