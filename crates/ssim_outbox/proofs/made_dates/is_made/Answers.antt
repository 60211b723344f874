-- A day before the next cut is one of those so far, or the like day of the week from the cut is made.
use Rattle.std.proofs.Common.{◌∙◌, ◌⊎◌, ◌<◌, ◌≤◌, inl, inr, ℕ, refl, sym, ap, subst}
use Rattle.ssim_periods.specs.Calendar.{holds}
use Rattle.ssim_periods.proofs.CountLemmas.{le_or_lt}
use Rattle.ssim_periods.proofs.DayLemmas.{day_count-is}
use Rattle.ssim_schedule.specs.clauses.Schedule.{days_in}
use Rattle.ssim_outbox.specs.internal.Drafts.{IsMadeOn}
use Rattle.ssim_outbox.proofs.Weeks.{made_weeks}
use Rattle.ssim_outbox.proofs.made_dates.is_made.Goals as goal

pub loop-first-preserved-then-holds_number : goal.loop-first-preserved-then-holds_number
loop-first-preserved-then-holds_number c n before within held =
    by (le_or_lt c.loop-first.first n)
  where
    by : (c.loop-first.first ≤ n) ⊎ (n < c.loop-first.first)
        → IsMadeOn (days_in c.args.made.now c.args.change.now.flight)
        (days_in c.args.before.now c.args.change.now.flight) c.args.change.now.new.days n
    by (inl from) = made_weeks (days_in c.args.made.now c.args.change.now.flight)
        (days_in c.args.before.now c.args.change.now.flight) c.args.change.now.new.days c.args.period
        c.loop-first.first c.next_cut-next.result c.next_cut-next.ensures.made
        c.next_cut-next.ensures.before
        c.next_cut-next.ensures.new (c.if-not-is_made_between.ensures refl)
        (sym c.holds_number-in-loop-first.ensures ∙ c.if-holds_number.true) n from before within held
    by (inr less) = c.loop-first.invariant n less within held

pub returns-clause-first : goal.returns-clause-first
returns-clause-first c _ =
    let is = c.number-first.ensures.value ∙ c.first.ensures.value in (
      rw (← day_count-is) at (subst (λ (n : ℕ). n < 36525) is c.number-first.ensures.bound),
      ap (holds c.args.period) (sym is) ∙ sym c.if-not-holds_number.ensures,
    )
