-- Each form adds only cuts of the period; those of the rows made from a list are cuts of the list.
use Rattle.std.proofs.Common.{◌≡◌, ℕ, List, Option, ◌+◌, OnOk, OnSome, IfNone, ap, subst, sym, ◌∙◌, inl, inr}
use Rattle.std.specs.List.{Contains}
use Rattle.ssim_periods.specs.clauses.Days.{AddsOnly}
use Rattle.ssim_periods.specs.internal.Forms.{seen}
use Rattle.ssim_periods.proofs.periods.Periods.apply.Goals as goal

pub returns-then-has_room_for-clause-cuts : goal.returns-then-has_room_for-clause-cuts
returns-then-has_room_for-clause-cuts g c =
    let p = c.args.period.now in
    subst (λ s. OnOk c.apply.result (AddsOnly s.cuts c.apply.new.self.cuts p.first (p.last + 1))) (ap seen (sym c.in-Apart.is) ∙ c.self.view_is) c.apply.ensures.cuts

pub returns-in_ok-counts-in-Apart-clause-cuts : goal.returns-in_ok-counts-in-Apart-clause-cuts
returns-in_ok-counts-in-Apart-clause-cuts g c cut h =
    let unchanged : c.apply_within.new.self ≡ c.in-Apart.periods = subst (λ (o : Option (List ℕ)). IfNone o (c.apply_within.new.self ≡ c.in-Apart.periods)) c.in_default.is c.in_ok-counted-in-Apart.ensures.none in
    elim (c.in_ok-counts-in-Apart.ensures.cuts cut h) [
      | inl k ↦ inl (subst (λ s. Contains s.cuts cut) (ap seen (sym c.in-Apart.is) ∙ c.self.view_is) (subst (λ (cuts : List ℕ). Contains cuts cut) (ap (λ s. s.cuts) unchanged) (c.in_ok-rows-in-Apart.ensures.cuts cut k)))
      | inr e ↦ inr e
    ]

pub returns-in-Some-clause-cuts : goal.returns-in-Some-clause-cuts
returns-in-Some-clause-cuts g c =
    let p = c.args.period.now in
    let adds = subst (λ (o : Option (List ℕ)). OnSome o (AddsOnly c.in-Apart.periods.cuts c.apply_within.new.self.cuts p.first (p.last + 1))) c.in-Some.is c.in_ok-counted-in-Apart.ensures.cuts in
    subst (λ s. AddsOnly s.cuts c.apply_within.new.self.cuts p.first (p.last + 1)) (ap seen (sym c.in-Apart.is) ∙ c.self.view_is) adds

pub returns-in-Rows-clause-cuts : goal.returns-in-Rows-clause-cuts
returns-in-Rows-clause-cuts g c =
    let p = c.args.period.now in
    subst (λ s. OnOk c.apply-in-Rows.result (AddsOnly s.cuts c.apply-in-Rows.new.self.cuts p.first (p.last + 1))) (ap seen (sym c.in-Rows.is) ∙ c.self.view_is) c.apply-in-Rows.ensures.cuts
