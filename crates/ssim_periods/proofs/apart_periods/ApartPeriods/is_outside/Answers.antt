-- No period of the list holds a day before or after all of them, so these days have the empty value.
use Rattle.std.proofs.Common.{◌⊎◌, ◌<◌, ◌≤◌, ℕ, List, ap, refl, subst}
use Rattle.std.specs.List.{All}
use Rattle.ssim_periods.proofs.ApartLemmas.{days-free, outside-none}
use Rattle.ssim_periods.proofs.apart_periods.ApartPeriods.is_outside.Goals as goal

pub returns : goal.returns
returns g c met =
    let p = c.args.period.now in
    let out = subst (λ (cuts : List ℕ). All (λ cut. p.last < cut) cuts ⊎ All (λ cut. cut ≤ p.first) cuts) c.days.ensures (c.lies_outside.ensures met) in
    days-free g.V.Value.nothing c.self.inside.entries.items p c.args.self.now.days (ap (λ s. s.days) c.self.view_is)
    (λ n h. outside-none c.self.inside.entries.items c.self.inside.cuts.days p p.first p.last n c.self.invariant.1.divided refl refl out h)
