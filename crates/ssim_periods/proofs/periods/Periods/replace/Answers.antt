-- Each form has the clauses; what is seen of the rows made from a list is that of the list, and their cuts are cuts of the list.
use Rattle.std.proofs.Common.{◌≡◌, ℕ, List, Option, ◌+◌, OnErr, OnOk, OnSome, IfNone, ap, subst, sym, ◌∙◌, inl, inr}
use Rattle.std.specs.List.{Contains}
use Rattle.ssim_periods.specs.Calendar.{holds}
use Rattle.ssim_periods.specs.clauses.Days.{AddsOnly}
use Rattle.ssim_periods.specs.Days.{changed_on}
use Rattle.ssim_periods.specs.internal.Forms.{seen}
use Rattle.ssim_periods.proofs.periods.Periods.replace.Goals as goal

pub returns-then-has_room_for-clause-cuts : goal.returns-then-has_room_for-clause-cuts
returns-then-has_room_for-clause-cuts g c =
    let p = c.args.period.now in
    subst (λ s. OnOk c.replace.result (AddsOnly s.cuts c.replace.new.self.cuts p.first (p.last + 1))) (ap seen (sym c.in-Apart.is) ∙ c.self.view_is) c.replace.ensures.cuts

pub returns-in_ok-replace-in-Apart-clause-cuts : goal.returns-in_ok-replace-in-Apart-clause-cuts
returns-in_ok-replace-in-Apart-clause-cuts g c cut h =
    let unchanged : c.apply_within.new.self ≡ c.in-Apart.periods = subst (λ (o : Option (List ℕ)). IfNone o (c.apply_within.new.self ≡ c.in-Apart.periods)) c.in_default.is c.in_ok-apply_within-in-Apart.ensures.none in
    elim (c.in_ok-replace-in-Apart.ensures.cuts cut h) [
      | inl k ↦ inl (subst (λ s. Contains s.cuts cut) (ap seen (sym c.in-Apart.is) ∙ c.self.view_is) (subst (λ (cuts : List ℕ). Contains cuts cut) (ap (λ s. s.cuts) unchanged) (c.in_ok-rows-in-Apart.ensures.cuts cut k)))
      | inr e ↦ inr e
    ]

pub returns-in-Some-clause-cuts : goal.returns-in-Some-clause-cuts
returns-in-Some-clause-cuts g c =
    let p = c.args.period.now in
    let adds = subst (λ (o : Option (List ℕ)). OnSome o (AddsOnly c.in-Apart.periods.cuts c.apply_within.new.self.cuts p.first (p.last + 1))) c.in-Some.is c.in_ok-apply_within-in-Apart.ensures.cuts in
    subst (λ s. AddsOnly s.cuts c.apply_within.new.self.cuts p.first (p.last + 1)) (ap seen (sym c.in-Apart.is) ∙ c.self.view_is) adds

pub returns-in-Rows-clause-cuts : goal.returns-in-Rows-clause-cuts
returns-in-Rows-clause-cuts g c =
    let p = c.args.period.now in
    subst (λ s. OnOk c.replace-in-Rows.result (AddsOnly s.cuts c.replace-in-Rows.new.self.cuts p.first (p.last + 1))) (ap seen (sym c.in-Rows.is) ∙ c.self.view_is) c.replace-in-Rows.ensures.cuts

pub returns-then-has_room_for-clause-days : goal.returns-then-has_room_for-clause-days
returns-then-has_room_for-clause-days g c =
    let is_in = holds c.args.period.now in let after = g.C.Change.outcome c.args.change.now in
    subst (λ s. OnOk c.replace.result (c.replace.new.self.days ≡ changed_on is_in after 0 s.days)) (ap seen (sym c.in-Apart.is) ∙ c.self.view_is) c.replace.ensures.days

pub returns-then-has_room_for-clause-err : goal.returns-then-has_room_for-clause-err
returns-then-has_room_for-clause-err g c =
    subst (λ s. OnErr c.replace.result (c.replace.new.self ≡ s)) (ap seen (sym c.in-Apart.is) ∙ c.self.view_is) c.replace.ensures.err

pub returns-in_ok-replace-in-Apart-clause-days : goal.returns-in_ok-replace-in-Apart-clause-days
returns-in_ok-replace-in-Apart-clause-days g c =
    let is_in = holds c.args.period.now in let after = g.C.Change.outcome c.args.change.now in
    let unchanged : c.apply_within.new.self ≡ c.in-Apart.periods = subst (λ (o : Option (List ℕ)). IfNone o (c.apply_within.new.self ≡ c.in-Apart.periods)) c.in_default.is c.in_ok-apply_within-in-Apart.ensures.none in
    c.in_ok-replace-in-Apart.ensures.days
    ∙ ap (changed_on is_in after 0) (c.in_ok-rows-in-Apart.ensures.days ∙ ap (λ s. s.days) (unchanged ∙ ap seen (sym c.in-Apart.is) ∙ c.self.view_is))

pub returns-in-Some-clause-days : goal.returns-in-Some-clause-days
returns-in-Some-clause-days g c =
    let is_in = holds c.args.period.now in let after = g.C.Change.outcome c.args.change.now in
    let changed = subst (λ (o : Option (List ℕ)). OnSome o (c.apply_within.new.self.days ≡ changed_on is_in after 0 c.in-Apart.periods.days)) c.in-Some.is c.in_ok-apply_within-in-Apart.ensures.days in
    subst (λ s. c.apply_within.new.self.days ≡ changed_on is_in after 0 s.days) (ap seen (sym c.in-Apart.is) ∙ c.self.view_is) changed

pub returns-in-Rows-clause-days : goal.returns-in-Rows-clause-days
returns-in-Rows-clause-days g c =
    let is_in = holds c.args.period.now in let after = g.C.Change.outcome c.args.change.now in
    subst (λ s. OnOk c.replace-in-Rows.result (c.replace-in-Rows.new.self.days ≡ changed_on is_in after 0 s.days)) (ap seen (sym c.in-Rows.is) ∙ c.self.view_is) c.replace-in-Rows.ensures.days

pub returns-in-Rows-clause-err : goal.returns-in-Rows-clause-err
returns-in-Rows-clause-err g c =
    subst (λ s. OnErr c.replace-in-Rows.result (c.replace-in-Rows.new.self ≡ s)) (ap seen (sym c.in-Rows.is) ∙ c.self.view_is) c.replace-in-Rows.ensures.err
