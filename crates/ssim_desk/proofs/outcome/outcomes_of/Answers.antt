-- The flights are those that one of the lists names.
use Rattle.std.proofs.Common.{◌≡◌, ◌∙◌, ◌++◌, List, ap, ap₂, subst}
use Rattle.ssim_values.specs.Flight.{FlightNumber}
use Rattle.ssim_desk.specs.Desk.{entry_lines}
use Rattle.ssim_desk.specs.internal.Changes.{flights_of}
use Rattle.ssim_desk.specs.internal.Outcomes.{IsOutcome, days_among}
use Rattle.ssim_desk.proofs.NamedFlights.{differ_among, finds_among, named_after, named_before}
use Rattle.ssim_desk.proofs.outcome.outcomes_of.Goals as goal

pub returns : goal.returns
returns c =
    let base = c.args.base.now in
    let before = c.args.before.now in
    let after = c.args.after.now in
    let named = flights_of before ++ flights_of after in
    let flights : c.extend_from_slice.new.self.items ≡ named =
    c.in_ok-extend_from_slice.ensures.items
    ∙ ap₂ (λ (fs gs : List FlightNumber). fs ++ gs) c.in_ok-flights.ensures
    (c.deref.ensures.value ∙ c.in_ok-others.ensures) in
    let old : IsOutcome base named before c.in_ok-before.before =
    subst (λ (fs : List FlightNumber). IsOutcome base fs before c.in_ok-before.before)
    (c.deref-2.ensures.value ∙ flights) c.in_ok-before.ensures in
    let new : IsOutcome base named after c.in_ok-after.after =
    subst (λ (fs : List FlightNumber). IsOutcome base fs after c.in_ok-after.after)
    (c.deref-3.ensures.value ∙ flights) c.in_ok-after.ensures in
    let all_before = named_before before after in
    let all_after = named_after before after in
    record {
      old_lines = old.lines_are ∙ ap (entry_lines before) (finds_among base named before all_before);
      new_lines = new.lines_are ∙ ap (entry_lines after) (finds_among base named after all_after);
      old = days_among base named before;
      new = days_among base named after;
      old_flights = old.flights_are;
      new_flights = new.flights_are;
      differ = λ g exists. differ_among base named before after all_before all_after g;
    }
