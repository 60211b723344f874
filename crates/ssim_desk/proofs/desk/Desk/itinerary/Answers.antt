use Rattle.std.proofs.Common.{◌≡◌, ◌≤◌, ◌<◌, ◌∙◌, ap, subst}
use Rattle.std.specs.Prelude.{IsTrue}
use Rattle.ssim_values.specs.Flight.{IsFlight, is_suffix}
use Rattle.ssim_held.specs.Entries.{AreEntries}
use Rattle.ssim_desk.specs.clauses.Desk.{ScheduledDesk}
use Rattle.ssim_desk.specs.Desk.{timetable_of}
use Rattle.ssim_desk.specs.Meaning.{Timetable}
use Rattle.ssim_desk.proofs.Meant.{has_meaning, legs_after, only_meaning}
use Rattle.ssim_desk.proofs.desk.Desk.itinerary.Goals as goal

exists : (c : goal.After-itinerary) → IsFlight c.args.flight.now
exists c = record {
  number_to = subst (λ n. n ≤ 9999) c.number.ensures.value c.number.ensures.bound;
  suffixed = subst (λ s. IsTrue (is_suffix s)) c.suffix.ensures.value c.suffix.ensures.suffix;
}

entries : (c : goal.After-itinerary) → AreEntries c.args.self.now.seen.base.records c.args.self.now.seen.held
entries c = subst (λ (t : ScheduledDesk). AreEntries t.seen.base.records t.seen.held) c.self.view_is c.held.ensures.kept

legs : (c : goal.After-itinerary) → c.itinerary.result.now ≡ timetable_of c.args.self.now.seen c.args.flight.now c.args.day
legs c =
    c.itinerary.ensures.value
    ∙ legs_after c.self.inside.holdings.base c.self.inside.holdings.held c.self.inside.schedules.latest c.self.invariant.latest_is c.args.flight.now (exists c) c.args.day (subst (λ n. n < 36525) c.number-2.ensures.value c.number-2.ensures.bound)
    ∙ ap (λ (t : ScheduledDesk). timetable_of t.seen c.args.flight.now c.args.day) c.self.view_is

pub returns-clause-value : goal.returns-clause-value
returns-clause-value c = legs c

pub returns-clause-means : goal.returns-clause-means
returns-clause-means c = has_meaning c.args.self.now.seen (entries c)

pub returns-clause-only : goal.returns-clause-only
returns-clause-only c timetable means = legs c ∙ ap (λ (t : Timetable). t c.args.flight.now c.args.day) (only_meaning c.args.self.now.seen (entries c) timetable means)
