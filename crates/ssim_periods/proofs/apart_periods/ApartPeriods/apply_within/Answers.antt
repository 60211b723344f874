-- What stays of the entries and what is added have the new values, and each day at most once.
use Rattle.std.proofs.Common.{◌≡◌, ℕ, ◌+◌, ◌++◌, [], true, ap, subst, sym, refl, ◌∙◌}
use Rattle.ssim_periods.specs.Calendar.{holds}
use Rattle.ssim_periods.specs.Days.{counts_on, each_day}
use Rattle.ssim_periods.specs.clauses.Days.{AddsOnly}
use Rattle.ssim_periods.specs.Pieces.{held_on}
use Rattle.ssim_periods.specs.internal.Apart.{value_in}
use Rattle.ssim_periods.specs.internal.Parts.{added_parts, kept_parts}
use Rattle.ssim_periods.proofs.ApplyLemmas.{adds_only}
use Rattle.ssim_periods.proofs.PartsLemmas.{keeps-empty, parts-apart, parts-days}
use Rattle.ssim_periods.proofs.apart_periods.ApartPeriods.apply_within.Goals as goal

pub divide-requires : goal.divide-requires
divide-requires g c = c.self.invariant.1.rising

pub invariant_of-self-2 : goal.invariant_of-self-2
invariant_of-self-2 g c =
    let q = c.args.period.now in
    let alike = g.V.Value.alike in let e = g.V.Value.nothing in let f = g.C.Change.outcome c.args.change.now in
    let xs = c.self.inside.entries.items in let cuts = c.self.inside.cuts.days in
    let is : c.divide.new.entries.items ≡ kept_parts q xs ++ added_parts alike e f q xs =
    c.in_ok-divide.ensures.entries ∙ ap (λ ys. kept_parts q xs ++ ys) (c.in_ok-added.ensures ∙ ap (added_parts alike e f q) c.deref-2.ensures.value) in (
      c.self.invariant.0,
      parts-apart alike e f g.met.V.Value.exact q xs c.divide.new.entries.items cuts c.divide.new.cuts.days q.first (q.last + 1)
          c.self.invariant.1 c.divide.ensures.period.ordered c.divide.ensures.period.in_calendar refl refl is c.in_ok-divide.ensures.cuts,
    )

pub returns-clause-days : goal.returns-clause-days
returns-clause-days g c =
    let q = c.args.period.now in
    let alike = g.V.Value.alike in let e = g.V.Value.nothing in let f = g.C.Change.outcome c.args.change.now in
    let xs = c.self.inside.entries.items in
    let is : c.divide.new.entries.items ≡ kept_parts q xs ++ added_parts alike e f q xs =
    c.in_ok-divide.ensures.entries ∙ ap (λ ys. kept_parts q xs ++ ys) (c.in_ok-added.ensures ∙ ap (added_parts alike e f q) c.deref-2.ensures.value) in
    let free : (n : ℕ) → holds q n ≡ true → held_on xs n ≡ [] → f e ≡ e =
    keeps-empty e f q c.deref.result.now xs c.counts_within-free.result.1 c.divide.ensures.period.in_calendar c.deref.ensures.value c.counts_within-free.ensures.free (c.in_ok-keeps_empty.ensures c.if-not-branch.false) in
    parts-days alike e f g.met.V.Value.exact q xs c.divide.new.entries.items c.args.self.now.days c.divide.ensures.period.ordered c.divide.ensures.period.in_calendar c.self.invariant.1.once free (ap (λ s. s.days) c.self.view_is) is

pub returns-clause-counts : goal.returns-clause-counts
returns-clause-counts g c =
    let s = holds c.args.period.now in let class = g.C.Change.class_of c.args.change.now in
    c.counts_within-free.ensures.counts ∙ ap (λ xs. counts_on s class (each_day (value_in g.V.Value.nothing xs))) c.deref.ensures.value
    ∙ ap (counts_on s class) (ap (λ a. a.days) c.self.view_is)

pub returns-clause-cuts : goal.returns-clause-cuts
returns-clause-cuts g c =
    let p = c.args.period.now in let cuts = c.self.inside.cuts.days in let new = c.divide.new.cuts.days in
    subst (λ cs. AddsOnly cs new p.first (p.last + 1)) (ap (λ s. s.cuts) c.self.view_is)
    (subst (λ cs. AddsOnly cuts cs p.first (p.last + 1)) (sym c.in_ok-divide.ensures.cuts) (adds_only cuts p.first (p.last + 1)))
