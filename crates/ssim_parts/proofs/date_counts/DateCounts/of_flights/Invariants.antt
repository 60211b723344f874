-- The dates of the flights so far.
use Rattle.std.proofs.Common.{◌≡◌, take}
use Rattle.ssim_parts.specs.ConversionLines.{is_kept, is_left, is_moved}
use Rattle.ssim_parts.specs.internal.Counted.{capped, all_dates}
use Rattle.ssim_parts.proofs.date_counts.DateCounts.of_flights.Given as goal

abbrev pub invariant-loop-flight : goal.invariant-loop-flight
invariant-loop-flight l =
    record {
      kept : l.counts.kept ≡ capped (all_dates is_kept (take l.flight-index l.flights));
      moved : l.counts.moved ≡ capped (all_dates is_moved (take l.flight-index l.flights));
      left : l.counts.left ≡ capped (all_dates is_left (take l.flight-index l.flights));
    }
