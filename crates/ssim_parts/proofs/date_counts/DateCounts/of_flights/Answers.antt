-- One flight more.
use Rattle.std.proofs.Common.{◌∙◌, ◌+◌, Bool, List, ap, take}
use Rattle.ssim_parts.specs.ConversionLines.{is_kept, is_left, is_moved}
use Rattle.ssim_parts.specs.FlightFates.{FatePiece}
use Rattle.ssim_parts.specs.declared.fate.Fate.{Fate}
use Rattle.ssim_parts.specs.internal.Counted.{all_dates, capped, dates_in}
use Rattle.ssim_parts.proofs.CountedDates.{next_flight, one_more}
use Rattle.ssim_parts.proofs.date_counts.DateCounts.of_flights.Goals as goal

pub loop-flight-preserved : goal.loop-flight-preserved
loop-flight-preserved c =
    let flights = c.args.flights.now in
    let i = c.loop-flight.flight-index in
    let flight = c.flight-item.result in
    let so_far = λ (test : Fate → Bool). all_dates test (take i flights) in
    let now = λ (test : Fate → Bool). all_dates test (take (i + 1) flights) in
    let here = λ (test : Fate → Bool). ap (λ (ps : List FatePiece). capped (dates_in test ps))
    c.pieces.ensures in
    let next = λ (test : Fate → Bool). next_flight test flights i flight c.loop-flight-test.true
    c.flight-item.is in
    record {
      kept = one_more _ _ _ (so_far is_kept) (dates_in is_kept flight.1) (now is_kept)
          c.loop-flight.invariant.kept (c.of_pieces.ensures.kept ∙ here is_kept)
          c.plus-counts.ensures.kept (next is_kept);
      moved = one_more _ _ _ (so_far is_moved) (dates_in is_moved flight.1) (now is_moved)
          c.loop-flight.invariant.moved (c.of_pieces.ensures.moved ∙ here is_moved)
          c.plus-counts.ensures.moved (next is_moved);
      left = one_more _ _ _ (so_far is_left) (dates_in is_left flight.1) (now is_left)
          c.loop-flight.invariant.left (c.of_pieces.ensures.left ∙ here is_left)
          c.plus-counts.ensures.left (next is_left);
    }
