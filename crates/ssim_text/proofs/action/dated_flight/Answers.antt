-- What is no designator begins no flight with a date.
use Rattle.std.proofs.Common.{subst, sym}
use Rattle.std.specs.Prelude.{ℕ, List}
use Rattle.ssim_values.specs.Designator.{SpellsDesignator}
use Rattle.ssim_text.proofs.action.dated_flight.Goals as goal

pub returns-in_err-designator-clause-none : goal.returns-in_err-designator-clause-none
returns-in_err-designator-clause-none c =
    rw c.from_residual.ensures (λ d date h. c.in_err-designator.ensures.none d (subst (λ (t : List ℕ). SpellsDesignator d t) (sym c.cut.ensures.before) h.designator_spelled))
