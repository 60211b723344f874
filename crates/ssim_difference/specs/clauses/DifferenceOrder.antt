-- An order of differences, by which equal ones are found among many: by the old itinerary, then by
-- the new one.
use Rattle.std.proofs.Common.{◌≡◌}
use Rattle.std.specs.Cmp.{IsTotalOrder, both_tied, on_total, then_total}
use Rattle.std.specs.Ordering.{is_eq, ordering_then}
use Rattle.std.specs.declared.cmp.Ordering.{Ordering}
use Rattle.ssim_schedule.specs.clauses.ItineraryOrder.{itinerary_cmp}
use Rattle.ssim_schedule.specs.clauses.ItineraryOrderLaws.{itinerary-told_apart}
use Rattle.ssim_schedule.specs.clauses.ItineraryOrderLaws.{itinerary_cmp_total}
use Rattle.ssim_difference.specs.Differences.{same_difference}
use Rattle.ssim_difference.specs.declared.difference.Difference.{Difference}

-- the order of two differences
abbrev pub difference_cmp : Difference → Difference → Ordering
difference_cmp d e = ordering_then (itinerary_cmp d.old e.old) (itinerary_cmp d.new e.new)

pub difference_cmp_total : IsTotalOrder difference_cmp
difference_cmp_total =
    then_total (on_total (λ d. d.old) itinerary_cmp_total)
    (on_total (λ d. d.new) itinerary_cmp_total)

pub difference-told_apart : (d e : Difference) → same_difference d e ≡ is_eq (difference_cmp d e)
difference-told_apart d e =
    both_tied _ _ (itinerary_cmp d.old e.old) (itinerary_cmp d.new e.new)
    (itinerary-told_apart d.old e.old) (itinerary-told_apart d.new e.new)
