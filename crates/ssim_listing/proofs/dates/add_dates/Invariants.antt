-- The dates on the days so far were added.
use Rattle.std.proofs.Common.{◌≡◌, ◌++◌, ◌-◌, ◌∷◌, []}
use Rattle.std.specs.List.{flat_map, range_with_len}
use Rattle.ssim_listing.specs.Dates.{dates_on}
use Rattle.ssim_listing.specs.internal.FlightDates.{seen_dates}
use Rattle.ssim_listing.proofs.dates.add_dates.Given as goal

abbrev pub invariant-loop-number : goal.invariant-loop-number
invariant-loop-number g l =
    seen_dates l.dates.items ≡ seen_dates l.initial.dates.items
    ++ flat_map (dates_on (l.piece ∷ [])) (range_with_len l.first (l.number - l.first))
