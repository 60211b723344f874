-- The clauses of the latest schedule, stated of the desk.
use Rattle.std.proofs.Common.{◌≡◌, ◌<◌, ◌≤◌, ◌∙◌, ap, sym, subst, arith}
use Rattle.std.specs.Prelude.{ℕ, IsTrue}
use Rattle.ssim_schedule.specs.clauses.Schedule.{cuts_in, days_in}
use Rattle.ssim_base.specs.Timetable.{on_day}
use Rattle.ssim_values.specs.Flight.{IsFlight, is_suffix}
use Rattle.ssim_desk.specs.clauses.Desk.{AreDeskPoints, ScheduledDesk}
use Rattle.ssim_desk.specs.Desk.{timetable_of}
use Rattle.ssim_desk.proofs.Meant.{legs_after}
use Rattle.ssim_desk.proofs.Points.{none_unnamed, within_bound}
use Rattle.ssim_desk.proofs.desk.Desk.cuts.Goals as goal

exists : (c : goal.After-cuts) → IsFlight c.args.flight.now
exists c = record {
  number_to = subst (λ n. n ≤ 9999) c.number.ensures.value c.number.ensures.bound;
  suffixed = subst (λ s. IsTrue (is_suffix s)) c.suffix.ensures.value c.suffix.ensures.suffix;
}

points : (c : goal.After-cuts) → AreDeskPoints c.args.self.now.seen.base c.args.self.now.seen.held c.args.flight.now c.cuts.result.now
points c =
    subst (λ (t : ScheduledDesk). AreDeskPoints t.seen.base t.seen.held c.args.flight.now c.cuts.result.now) c.self.view_is
    (subst (AreDeskPoints c.self.inside.holdings.base c.self.inside.holdings.held c.args.flight.now) (sym c.cuts.ensures.cuts) (c.self.invariant.latest_is.cuts c.args.flight.now (exists c)))

pub returns-clause-points : goal.returns-clause-points
returns-clause-points c = points c

pub returns-clause-value : goal.returns-clause-value
returns-clause-value c = c.cuts.ensures.cuts ∙ ap (λ (t : ScheduledDesk). cuts_in t.schedule c.args.flight.now) c.self.view_is

pub returns-clause-unnamed : goal.returns-clause-unnamed
returns-clause-unnamed c = none_unnamed c.args.self.now.seen.base c.args.self.now.seen.held c.args.flight.now c.cuts.result.now (points c)

pub returns-clause-bound : goal.returns-clause-bound
returns-clause-bound c = within_bound c.args.self.now.seen.base c.args.self.now.seen.held c.args.flight.now c.cuts.result.now c.cuts.ensures.rising (points c)

legs : (c : goal.After-cuts) (day : ℕ) → day < 36525 → on_day (days_in c.self.inside.schedules.latest c.args.flight.now) day ≡ timetable_of c.args.self.now.seen c.args.flight.now day
legs c day within =
    legs_after c.self.inside.holdings.base c.self.inside.holdings.held c.self.inside.schedules.latest c.self.invariant.latest_is c.args.flight.now (exists c) day within
    ∙ ap (λ (t : ScheduledDesk). timetable_of t.seen c.args.flight.now day) c.self.view_is

pub returns-clause-weekly : goal.returns-clause-weekly
returns-clause-weekly c m n order within same none =
    let early : m < 36525 = omega (arith, order, within) in
    sym (legs c m early) ∙ c.cuts.ensures.weekly m n order within same none ∙ legs c n within
