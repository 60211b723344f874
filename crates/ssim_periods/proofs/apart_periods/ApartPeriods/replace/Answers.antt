-- All days of the period have the empty value, so the change makes one new value.
use Rattle.std.proofs.Common.{◌≡◌, ◌+◌, ap, subst, sym, ◌∙◌, arith}
use Rattle.ssim_periods.specs.Calendar.{holds}
use Rattle.ssim_periods.specs.clauses.Days.{AddsOnly}
use Rattle.ssim_periods.specs.Days.{changed_on}
use Rattle.ssim_periods.proofs.ApartLemmas.{free-changed, free-kept, index-week}
use Rattle.ssim_periods.proofs.apart_periods.ApartPeriods.replace.Goals as goal

pub returns-then-is_empty-clause-days : goal.returns-then-is_empty-clause-days
returns-then-is_empty-clause-days g c =
    let e = g.V.Value.nothing in let after = g.C.Change.outcome c.args.change.now in
    let made : c.in_ok-value.value ≡ after e = c.in_ok-value.ensures ∙ ap after (index-week e c.index-self-0.result c.self.inside.empty 0 c.self.invariant.0 (omega arith)) in
    sym (free-kept (holds c.args.period.now) after e c.args.self.now.days c.requires (sym made ∙ c.is_empty.ensures.0 c.if-is_empty.true))

pub returns-clause-days : goal.returns-clause-days
returns-clause-days g c =
    let e = g.V.Value.nothing in let s = holds c.args.period.now in let days = c.args.self.now.days in
    let after = g.C.Change.outcome c.args.change.now in let value = c.in_ok-value.value in
    let made : value ≡ after e = c.in_ok-value.ensures ∙ ap after (index-week e c.index-self-0.result c.self.inside.empty 0 c.self.invariant.0 (omega arith)) in
    c.in_ok-put.ensures.days
    ∙ ap (λ t. changed_on s (λ _. value) 0 t.days) c.in_ok-make_first_room.ensures
    ∙ free-changed s (λ _. value) after e days c.requires made

pub returns-clause-cuts : goal.returns-clause-cuts
returns-clause-cuts g c =
    let p = c.args.period.now in
    subst (λ t. AddsOnly t.cuts c.put.new.self.cuts p.first (p.last + 1)) c.in_ok-make_first_room.ensures c.in_ok-put.ensures.cuts
