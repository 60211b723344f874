-- One more flight is marked.
use Rattle.std.proofs.Common.{◌<◌, true, subst, sym, ◌∙◌}
use Rattle.std.proofs.lemmas.List.{length-set}
use Rattle.ssim_schedule.proofs.FlightSets.{marked_more}
use Rattle.ssim_schedule.proofs.builder.flight_set.FlightSet.of.Goals as goal

pub loop-flight-preserved : goal.loop-flight-preserved
loop-flight-preserved c =
    let marks = c.loop-flight.marks.items in
    let count = c.loop-flight.invariant.0 in
    let low = subst (λ n. c.place.result < n) (sym count) c.place.ensures.small in (
      length-set marks c.place.result true ∙ count,
      marked_more marks c.args.flights.now c.loop-flight.flight-index c.flight-item.result c.place.result low c.loop-flight-test.true c.flight-item.is c.place.ensures.flight c.place.ensures.value c.loop-flight.invariant.1,
    )
