-- A sign, and then hours and minutes.
use Rattle.std.proofs.Common.{true, false, sym, ◌∙◌}
use Rattle.std.proofs.lemmas.Bool.Decides.{Decides-eqb}
use Rattle.ssim_columns.proofs.lemmas.Clocks.{signed_variation}
use Rattle.ssim_columns.proofs.leg.leg_points.is_signed_clock.Goals as goal
use Rattle.ssim_columns.proofs.leg.leg_points.is_signed_clock.Goals.{then-text-eq43, else-text-eq43}

pub returns-then-text-eq45 : goal.returns-then-text-eq45
returns-then-text-eq45 c =
    λ h.
    let spelled = c.is_clock_to.ensures h in
    elim c.if-text-eq43.branch [
      | then-text-eq43 w ↦ signed_variation false c.args.text.now spelled.0 spelled.1 c.requires w.if-text-eq43.true spelled.2
      | else-text-eq43 w ↦ signed_variation true c.args.text.now spelled.0 spelled.1 c.requires ((Decides-eqb _ _).0 (sym w.value-is ∙ c.if-text-eq45.true)) spelled.2
    ]
