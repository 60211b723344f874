-- The list with one more period, whose days no other one holds.
use Rattle.std.proofs.Common.{◌≡◌, ◌+◌, ap, subst, sym, ◌∙◌}
use Rattle.std.specs.List.Sorted.{IsStrictlyIncreasing}
use Rattle.ssim_periods.specs.clauses.Days.{AddsOnly}
use Rattle.ssim_periods.specs.internal.Splits.{with_cut}
use Rattle.ssim_periods.proofs.ApartLemmas.{put-days, put-apart}
use Rattle.ssim_periods.proofs.ApplyLemmas.{adds_only}
use Rattle.ssim_periods.proofs.CutLemmas.{rising-with_cut}
use Rattle.ssim_periods.proofs.apart_periods.ApartPeriods.put.Goals as goal

pub add-requires-clause-rising : goal.add-requires-clause-rising
add-requires-clause-rising g c = subst IsStrictlyIncreasing (sym c.in_ok-make_room.ensures.days) c.self.invariant.1.rising

pub add-requires-2-clause-rising : goal.add-requires-2-clause-rising
add-requires-2-clause-rising g c =
    let first = c.number-first.result in
    subst IsStrictlyIncreasing (sym (c.add.ensures.days ∙ ap (λ cs. with_cut cs first) c.make_room.ensures.days)) (rising-with_cut c.self.inside.cuts.days first c.self.invariant.1.rising)

pub invariant_of-self-2 : goal.invariant_of-self-2
invariant_of-self-2 g c =
    let p = c.args.period.now in let first = c.number-first.result in let last = c.number.result in
    let l = c.number.ensures.value in let l' = c.last.ensures.value in
    let cuts = c.self.inside.cuts.days in
    let end : last + 1 ≡ p.last + 1 = ap (λ d. d + 1) (l ∙ l') in (
      c.self.invariant.0,
      put-apart g.V.Value.nothing c.self.inside.entries.items c.push.new.self.items cuts c.add-2.new.self.days p c.args.value c.args.self.now.days first (last + 1)
          c.self.invariant.1 (ap (λ s. s.days) c.self.view_is) c.requires.free c.requires.given (c.number-first.ensures.value ∙ c.first.ensures.value) end c.first.ensures.period.ordered c.first.ensures.period.in_calendar
          c.in_ok-push.ensures.items
          (c.add-2.ensures.days ∙ ap (λ cs. with_cut cs (last + 1)) (c.add.ensures.days ∙ ap (λ cs. with_cut cs first) c.make_room.ensures.days)),
    )

pub returns-clause-days : goal.returns-clause-days
returns-clause-days g c =
    put-days g.V.Value.nothing c.self.inside.entries.items c.push.new.self.items c.args.period.now c.args.value c.args.self.now.days (ap (λ s. s.days) c.self.view_is) c.in_ok-push.ensures.items

pub returns-clause-cuts : goal.returns-clause-cuts
returns-clause-cuts g c =
    let p = c.args.period.now in let first = c.number-first.result in let last = c.number.result in
    let l = c.number.ensures.value in let l' = c.last.ensures.value in
    let cuts = c.self.inside.cuts.days in let new = c.add-2.new.self.days in
    let end : last + 1 ≡ p.last + 1 = ap (λ d. d + 1) (l ∙ l') in
    let is : new ≡ with_cut (with_cut cuts first) (last + 1) = c.add-2.ensures.days ∙ ap (λ cs. with_cut cs (last + 1)) (c.add.ensures.days ∙ ap (λ cs. with_cut cs first) c.make_room.ensures.days) in
    subst (λ a. AddsOnly c.args.self.now.cuts new a (p.last + 1)) (c.number-first.ensures.value ∙ c.first.ensures.value)
    (subst (λ b. AddsOnly c.args.self.now.cuts new first b) end
    (subst (λ cs. AddsOnly cs new first (last + 1)) (ap (λ s. s.cuts) c.self.view_is)
    (subst (λ cs. AddsOnly cuts cs first (last + 1)) (sym is) (adds_only cuts first (last + 1)))))
