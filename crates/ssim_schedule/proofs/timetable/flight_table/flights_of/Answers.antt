-- The flights of one more block.
use Rattle.std.proofs.Common.{◌++◌, ap, ◌∙◌}
use Rattle.ssim_schedule.specs.internal.Table.{Table}
use Rattle.ssim_schedule.proofs.NamedFlights.{block_named, named}
use Rattle.ssim_schedule.proofs.timetable.flight_table.flights_of.Goals as goal

pub loop-block-preserved : goal.loop-block-preserved
loop-block-preserved c =
    let at = c.loop-block in
    let b = c.block-item.result in
    let is = c.entries.ensures ∙ c.get.ensures in
    record {
      flights = block_named at.flights.items c.push_flights.new.flights.items c.args.blocks.now
          at.block-index b c.loop-block-test.true c.block-item.is
          (c.in_ok-push_flights.ensures.flights
          ∙ ap (λ (t : Table). at.flights.items ++ named t) is) at.invariant.flights;
      exist = c.in_ok-push_flights.ensures.exist at.invariant.exist;
    }
