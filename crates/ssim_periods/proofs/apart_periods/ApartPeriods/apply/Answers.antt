-- All days of the period had the empty value, so they are counted under its class.
use Rattle.std.proofs.Common.{ℕ, ap, ◌∙◌, arith}
use Rattle.ssim_periods.specs.internal.Apart.{value_in}
use Rattle.ssim_periods.specs.Calendar.{holds}
use Rattle.ssim_periods.specs.Days.{counts_on, each_day}
use Rattle.ssim_periods.proofs.ApartLemmas.{index-week}
use Rattle.ssim_periods.proofs.HeldCounts.{counts-alike}
use Rattle.ssim_periods.proofs.apart_periods.ApartPeriods.apply.Goals as goal

pub returns-clause-counts : goal.returns-clause-counts
returns-clause-counts g c =
    let e = g.V.Value.nothing in let class = g.C.Change.class_of c.args.change.now in
    c.counts_of-counts.ensures
    ∙ ap (λ v. counts_on {V = ℕ} (holds c.args.period.now) (λ _. class v) (each_day (λ _. 0))) (index-week e c.index-self-0.result c.self.inside.empty 0 c.self.invariant.0 (omega arith))
    ∙ counts-alike (holds c.args.period.now) class e (value_in e c.self.inside.entries.items) c.args.self.now.days (ap (λ s. s.days) c.self.view_is) c.requires
