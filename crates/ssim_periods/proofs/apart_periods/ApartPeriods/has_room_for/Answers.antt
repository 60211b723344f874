-- If no period of the list holds a day of the new one, these days have the empty value.
use Rattle.std.proofs.Common.{ap, sym, subst, ◌∙◌}
use Rattle.ssim_periods.specs.internal.Apart.{AreDivided}
use Rattle.ssim_periods.specs.Pieces.{held_on}
use Rattle.ssim_periods.proofs.ApartLemmas.{days-free}
use Rattle.ssim_periods.proofs.apart_periods.ApartPeriods.has_room_for.Goals as goal

pub is_free-requires-clause-divided : goal.is_free-requires-clause-divided
is_free-requires-clause-divided g c =
    subst (λ cs. AreDivided cs c.deref.result.now) (sym c.days.ensures)
    (subst (λ es. AreDivided c.self.inside.cuts.days es) (sym c.deref.ensures.value) c.self.invariant.1.divided)

pub returns-then-len-lt-MOST : goal.returns-then-len-lt-MOST
returns-then-len-lt-MOST g c met =
    days-free g.V.Value.nothing c.self.inside.entries.items c.args.period.now c.args.self.now.days (ap (λ s. s.days) c.self.view_is)
    (λ n h. ap (λ es. held_on es n) (sym c.deref.ensures.value) ∙ c.is_free.ensures met n h)
