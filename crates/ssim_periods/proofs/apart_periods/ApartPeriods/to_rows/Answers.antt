-- Each cut of the rows divides a period of the list.
use Rattle.std.proofs.Common.{◌≤◌, length, ap, subst, sym, ◌∙◌, rules}
use Rattle.std.proofs.lemmas.Result.{IfOk-weaker}
use Rattle.std.specs.List.{Contains}
use Rattle.ssim_periods.specs.internal.Apart.{AreDivided}
use Rattle.ssim_periods.specs.Pieces.{held_on}
use Rattle.ssim_periods.proofs.apart_periods.ApartPeriods.to_rows.Goals as goal

pub rows_of-requires : goal.rows_of-requires
rows_of-requires g c = (search rules, λ n. subst (λ xs. length (held_on xs n) ≤ 1) (sym c.deref.ensures.value) (c.self.invariant.1.once n))

pub returns-clause-cuts : goal.returns-clause-cuts
returns-clause-cuts g c =
    let cuts = c.self.inside.cuts.days in
    IfOk-weaker c.rows_of.result _ _ (λ rows h cut k.
    subst (λ cs. Contains cs cut) (ap (λ s. s.cuts) (c.self.view_is ∙ c.sort.ensures)) (h cuts (subst (AreDivided cuts) (sym c.deref.ensures.value) c.self.invariant.1.divided) cut k)) c.rows_of.ensures.cuts
