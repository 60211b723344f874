-- The cuts of the rows are among those of the list.
use Rattle.std.proofs.Common.{◌≡◌, ap, subst, sym, ◌∙◌}
use Rattle.std.specs.List.{Contains}
use Rattle.ssim_periods.specs.internal.Forms.{seen}
use Rattle.ssim_periods.proofs.periods.Periods.settle.Goals.{in-Apart-1, in-Rows-1}
use Rattle.ssim_periods.proofs.periods.Periods.settle.Goals as goal

pub returns-in_ok-to_rows-clause-cuts : goal.returns-in_ok-to_rows-clause-cuts
returns-in_ok-to_rows-clause-cuts g c cut has =
    let is : c.match-self-2.self ≡ c.in_ok-to_rows.field-0 = elim c.match-self-2.branch [ in-Apart-1 w ↦ w.self-is | in-Rows-1 w ↦ w.self-is ] in
    subst (λ s. Contains s.cuts cut) (ap seen (sym c.in-Apart.is) ∙ c.self.view_is) (c.in_ok-to_rows.ensures.cuts cut (subst (λ s. Contains s.cuts cut) is has))
