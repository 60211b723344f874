-- A day that is there is not added, and another one is put at its place.
use Rattle.std.proofs.Common.{drop, ap, sym, ◌∙◌}
use Rattle.std.specs.List.{insert}
use Rattle.ssim_periods.specs.internal.Rows.{place}
use Rattle.ssim_periods.specs.internal.Splits.{has_cut, with_cut}
use Rattle.ssim_periods.proofs.CutLemmas.{with_cut-has, with_cut-insert}
use Rattle.ssim_periods.proofs.SpacedLemmas.{drop-insert}
use Rattle.ssim_periods.proofs.apart_periods.spaced_days.SpacedDays.add.Goals as goal

pub returns-then-is_last-clause-days : goal.returns-then-is_last-clause-days
returns-then-is_last-clause-days c =
    let day = c.args.day in
    sym (with_cut-has c.args.self.now.days day (ap (λ cs. has_cut cs day) (sym c.days-2.ensures) ∙ sym c.is_last.ensures ∙ c.if-is_last.true))

pub returns-then-place-count-clause-days : goal.returns-then-place-count-clause-days
returns-then-place-count-clause-days c =
    let days = drop c.self.inside.front c.self.inside.items.items in let day = c.args.day in
    let is = ap (λ s. s.days) c.self.view_is in
    c.put_at.ensures.days
    ∙ ap (λ p. insert days p day) (c.place_of-place.ensures.place ∙ ap (λ cs. place cs day) (c.days.ensures ∙ sym is))
    ∙ with_cut-insert days day (ap (λ cs. has_cut cs day) (is ∙ sym c.days-2.ensures) ∙ sym c.is_last.ensures ∙ c.if-is_last.false)
    ∙ ap (λ cs. with_cut cs day) is

pub returns-clause-days : goal.returns-clause-days
returns-clause-days c =
    let front = c.self.inside.front in let items = c.self.inside.items.items in let days = drop front items in let day = c.args.day in
    let is = ap (λ s. s.days) c.self.view_is in
    ap (drop front) c.in_default.ensures.items ∙ drop-insert items front c.place_of-place.result day c.self.invariant
    ∙ ap (λ p. insert days p day) (c.place_of-place.ensures.place ∙ ap (λ cs. place cs day) (c.days.ensures ∙ sym is))
    ∙ with_cut-insert days day (ap (λ cs. has_cut cs day) (is ∙ sym c.days-2.ensures) ∙ sym c.is_last.ensures ∙ c.if-is_last.false)
    ∙ ap (λ cs. with_cut cs day) is
