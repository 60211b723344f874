-- What is seen of the values is what is seen of their form.
use Rattle.std.proofs.Common.{◌≡◌, ◌+◌, OnOk, ap, subst, sym, ◌∙◌}
use Rattle.ssim_periods.specs.clauses.Days.{AddsOnly}
use Rattle.ssim_periods.specs.internal.Forms.{seen}
use Rattle.ssim_periods.proofs.periods.Periods.extend.Goals.{in-Apart+else-is_outside, in_default}
use Rattle.ssim_periods.proofs.periods.Periods.extend.Goals as goal

pub returns-then-is_outside-clause-cuts : goal.returns-then-is_outside-clause-cuts
returns-then-is_outside-clause-cuts g c =
    let p = c.args.period.now in
    subst (λ s. OnOk c.replace.result (AddsOnly s.cuts c.replace.new.self.cuts p.first (p.last + 1))) (ap seen (sym c.in-Apart.is) ∙ c.self.view_is) c.replace.ensures.cuts

pub returns-clause-cuts : goal.returns-clause-cuts
returns-clause-cuts g c =
    let p = c.args.period.now in
    let same : seen c.match-self.self-inside.form ≡ c.args.self.now = elim c.match-self.branch [
      | in-Apart+else-is_outside w ↦ ap (λ i. seen i.form) w.self-inside-is ∙ ap seen (sym w.in-Apart.is) ∙ c.self.view_is
      | in_default w ↦ ap (λ i. seen i.form) w.self-inside-is ∙ c.self.view_is
    ] in
    subst (λ s. OnOk c.replace-2.result (AddsOnly s.cuts c.replace-2.new.self.cuts p.first (p.last + 1))) same c.replace-2.ensures.cuts
