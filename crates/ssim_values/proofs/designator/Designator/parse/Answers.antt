-- What was split off is the only airline and rest that make up the text.
use Rattle.std.proofs.Common.{refl}
use Rattle.ssim_values.proofs.DesignatorLemmas.{parts_of}
use Rattle.ssim_values.proofs.designator.Designator.parse.Goals as goal

pub returns-in_default-parse-clause-accepts : goal.returns-in_default-parse-clause-accepts
returns-in_default-parse-clause-accepts c =
    (λ e. absurd (cc), λ w. let is = parts_of w.0 _ _ _ w.1 c.in-Some.ensures.only in c.in_default-parse.ensures.accepts.1 is.1)

pub returns-in-Ok-parse-clause-accepts : goal.returns-in-Ok-parse-clause-accepts
returns-in-Ok-parse-clause-accepts c =
    (λ _. (record { airline = c.in-Ok.airline; flight = c.in-Ok-parse.flight }, record { is_code = rw c.in-Ok.ensures.value (c.in-Ok.ensures.accepts.0 refl); rest = c.in-Some.rest.now; flight = c.in-Ok-parse.ensures.value; spelled = rw c.in-Ok.ensures.value c.in-Some.ensures.whole }), λ _. refl)

pub returns-in-Err-clause-accepts : goal.returns-in-Err-clause-accepts
returns-in-Err-clause-accepts c =
    (λ e. absurd (cc), λ w. let is = parts_of w.0 _ _ _ w.1 c.in-Some.ensures.only in c.in-Err.ensures.accepts.1 (w.0.flight, is.2))
