-- The flight of one more entry.
use Rattle.std.proofs.lemmas.List.Elements.{All-push, All-same}
use Rattle.ssim_values.specs.Flight.{IsFlight}
use Rattle.ssim_schedule.proofs.NamedFlights.{entry_named}
use Rattle.ssim_schedule.proofs.timetable.flight_table.push_flights.Goals as goal

pub loop-entry-preserved : goal.loop-entry-preserved
loop-entry-preserved c =
    let at = c.loop-entry in
    let e = c.entry-item.result in
    record {
      flights = entry_named c.args.flights.now.items at.flights.items c.push.new.self.items
          c.args.entries.now at.entry-index e c.loop-entry-test.true c.entry-item.is
          c.in_ok-push.ensures.items at.invariant.flights;
      exist = λ exist. All-same IsFlight _ _ c.in_ok-push.ensures.items
          (All-push IsFlight at.flights.items e.flight (at.invariant.exist exist)
          c.place.ensures.flight);
    }
