-- One flight more.
use Rattle.std.proofs.Common.{◌≡◌, ◌∙◌, ◌+◌, ◌^◌, ◌<◌, List, take, sym, ap, subst}
use Rattle.std.proofs.lemmas.List.Sums.{sum_by_more}
use Rattle.ssim_difference.specs.Differences.{Compared, DifferencePiece}
use Rattle.ssim_difference.specs.internal.Counted.{all_dates, dates_in}
use Rattle.ssim_difference.proofs.DateCounts.{saturated_if}
use Rattle.ssim_difference.proofs.dates.dates_of_flights.Goals as goal

pub loop-flight-preserved : goal.loop-flight-preserved
loop-flight-preserved c fits =
    let flights = c.args.flights.now in let i = c.loop-flight.flight-index in
    let flight = c.flight-item.result in
    let dates = c.in_ok-dates.dates in
    let more : all_dates (take (i + 1) flights) ≡ all_dates (take i flights) + dates_in flight.1 =
    sum_by_more (λ (f : Compared). dates_in f.1) flights i flight c.loop-flight-test.true
    ∙ ap (λ (f : Compared). all_dates (take i flights) + dates_in f.1) (sym c.flight-item.is) in
    let is : dates_in flight.1 < 2 ^ 64 → dates ≡ dates_in flight.1 =
    subst (λ (ps : List DifferencePiece). dates_in ps < 2 ^ 64
    → dates ≡ dates_in ps) c.pieces.ensures c.in_ok-dates.ensures in
    saturated_if c.loop-flight.count dates c.saturating_add-count.result (all_dates (take i flights))
    (dates_in flight.1) (all_dates (take (i + 1) flights))
    c.loop-flight.invariant is c.saturating_add-count.ensures more fits
