-- The days are counted before the first value is replaced.
use Rattle.std.proofs.Common.{◌+◌, ◌-◌, ap, sym, subst, ◌∙◌, rules}
use Rattle.ssim_periods.specs.Days.{counts_on}
use Rattle.ssim_periods.specs.internal.Count.{tally, is_of_class}
use Rattle.ssim_periods.specs.internal.Rows.{AreRows}
use Rattle.ssim_periods.proofs.ApplyLemmas.{in-order, within-holds}
use Rattle.ssim_periods.proofs.CountLemmas.{counts-of}
use Rattle.ssim_periods.proofs.range_rows.RangeRows.apply.Goals as goal

pub class_counts-counts-requires : goal.class_counts-counts-requires
class_counts-counts-requires g c =
    let before = c.self.inside.before in let cuts = c.self.inside.cuts.items in let q = c.args.period.now in
    let f = c.number-first.ensures.value ∙ c.first.ensures.value in let l = c.number-last.ensures.value ∙ c.last.ensures.value in (
      search rules,
      (
        subst (λ cs. AreRows before cs c.deref-2.result.now) (sym c.deref.ensures.value) (subst (λ rs. AreRows before cuts rs) (sym c.deref-2.ensures.value) c.self.invariant),
        (in-order c.number-first.result c.number-last.result q.first q.last f l c.first.ensures.period.ordered, c.number-last.ensures.bound),
      ),
    )

pub returns-clause-counts : goal.returns-clause-counts
returns-clause-counts g c =
    let first = c.number-first.result in let last = c.number-last.result in let mask = c.days-mask.result in
    let f = c.number-first.ensures.value in let f' = c.first.ensures.value in let l = c.number-last.ensures.value in let l' = c.last.ensures.value in let o = c.first.ensures.period.ordered in
    let class = g.C.Change.class_of c.args.change.now in let e = g.V.Value.nothing in
    let before = c.self.inside.before in let cuts = c.self.inside.cuts.items in let rows = c.self.inside.rows.items in
    counts-of e class before cuts rows first last mask c.class_counts-counts.result c.args.self.now.days (in-order first last c.args.period.now.first c.args.period.now.last (f ∙ f') (l ∙ l') o) c.number-last.ensures.bound c.class_counts-counts.ensures.len
    (λ k h. c.class_counts-counts.ensures.counts k h
    ∙ ap (λ cs. tally (is_of_class e class before cs c.deref-2.result.now first last mask k) first (last + 1 - first)) c.deref.ensures.value
    ∙ ap (λ rs. tally (is_of_class e class before cuts rs first last mask k) first (last + 1 - first)) c.deref-2.ensures.value)
    (ap (λ s. s.days) c.self.view_is)
    ∙ within-holds (λ s. counts_on s class c.args.self.now.days) c.args.period.now first last mask (f ∙ f') (l ∙ l') (c.days-mask.ensures.value ∙ c.mask.ensures.value)
