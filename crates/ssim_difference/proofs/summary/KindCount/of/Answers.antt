-- One flight more.
use Rattle.std.proofs.Common.{◌≡◌, ◌∙◌, ◌+◌, List, sym, ap, take}
use Rattle.std.proofs.lemmas.List.Sums.{sum_by_more}
use Rattle.ssim_parts.proofs.CountedDates.{next_flight, one_added, one_more}
use Rattle.ssim_difference.specs.Differences.{Compared, DifferencePiece}
use Rattle.ssim_difference.specs.internal.KindCounts.{all_of_kind, capped, dates_of_kind}
use Rattle.ssim_difference.specs.internal.KindCounts.{flights_of_kind, has_kind, one_if_any}
use Rattle.ssim_difference.proofs.KindCounts.{some_left}
use Rattle.ssim_difference.proofs.summary.KindCount.of.Goals as goal

pub loop-flight-preserved : goal.loop-flight-preserved
loop-flight-preserved c =
    let kind = c.args.kind in
    let flights = c.args.flights.now in
    let i = c.loop-flight.flight-index in
    let flight = c.flight-item.result in
    let dates : c.dates_of_kind.result ≡ capped (dates_of_kind kind flight.1) =
    c.dates_of_kind.ensures
    ∙ ap (λ (ps : List DifferencePiece). capped (dates_of_kind kind ps)) c.pieces.ensures in
    let more : flights_of_kind kind (take (i + 1) flights)
    ≡ flights_of_kind kind (take i flights) + one_if_any (dates_of_kind kind flight.1) =
    sum_by_more (λ (f : Compared). one_if_any (dates_of_kind kind f.1)) flights i flight
    c.loop-flight-test.true
    ∙ ap (λ (f : Compared). flights_of_kind kind (take i flights)
    + one_if_any (dates_of_kind kind f.1)) (sym c.flight-item.is) in
    record {
      flights = one_added _ (one_if_any c.dates_of_kind.result) _
          (flights_of_kind kind (take i flights)) (one_if_any (dates_of_kind kind flight.1))
          (flights_of_kind kind (take (i + 1) flights)) c.loop-flight.invariant.flights
          (ap one_if_any dates ∙ some_left (dates_of_kind kind flight.1))
          c.plus-count.ensures.flights more;
      dates = one_more _ _ _ (all_of_kind kind (take i flights)) (dates_of_kind kind flight.1)
          (all_of_kind kind (take (i + 1) flights)) c.loop-flight.invariant.dates dates
          c.plus-count.ensures.dates
          (next_flight (has_kind kind) flights i flight c.loop-flight-test.true c.flight-item.is);
    }
