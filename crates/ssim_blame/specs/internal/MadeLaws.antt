-- Two itineraries with makers are equal exactly if both parts are.
use Rattle.std.proofs.Common.{◌≡◌, ◌↔◌, ◌∙◌, IsTrue, ap}
use Rattle.std.specs.Bool.{Decides}
use Rattle.std.specs.Cmp.{IsTotalOrder, both_tied, on_total, then_total}
use Rattle.std.specs.Ordering.{is_eq}
use Rattle.std.proofs.lemmas.Bool.Decides.{Decides-and}
use Rattle.ssim_base.specs.clauses.ItineraryLaws.{exact_itinerary}
use Rattle.ssim_base.specs.Timetable.{Legs}
use Rattle.ssim_schedule.specs.clauses.ItineraryOrder.{itinerary_cmp}
use Rattle.ssim_schedule.specs.clauses.ItineraryOrderLaws.{itinerary-told_apart}
use Rattle.ssim_schedule.specs.clauses.ItineraryOrderLaws.{itinerary_cmp_total}
use Rattle.ssim_blame.specs.clauses.MakerOrder.{maker_cmp, maker_cmp_total, makers_told_apart}
use Rattle.ssim_blame.specs.clauses.MakerOrder.{same_maker_exact}
use Rattle.ssim_blame.specs.declared.made.MadeItinerary.{MadeItinerary}
use Rattle.ssim_blame.specs.internal.Made.{made, made_cmp, same_made}

pub exact_made : (d e : MadeItinerary) → IsTrue (same_made d e) ↔ (d ≡ e)
exact_made d e = (
  λ h. from_parts (of_test.0 h),
  λ h. of_test.1
      (ap (λ (x : MadeItinerary). x.itinerary) h, ap (λ (x : MadeItinerary). x.maker) h),
)
  where
    from_parts : (d.itinerary ≡ e.itinerary) × (d.maker ≡ e.maker) → d ≡ e
    from_parts h = ap (λ (legs : Legs). made legs d.maker) h.0 ∙ ap (made e.itinerary) h.1

    of_test : Decides (same_made d e) ((d.itinerary ≡ e.itinerary) × (d.maker ≡ e.maker))
    of_test = Decides-and _ _ (exact_itinerary d.itinerary e.itinerary)
        (same_maker_exact d.maker e.maker)

pub made_cmp_total : IsTotalOrder made_cmp
made_cmp_total =
    then_total (on_total (λ d. d.itinerary) itinerary_cmp_total)
    (on_total (λ d. d.maker) maker_cmp_total)

pub made-told_apart : (d e : MadeItinerary) → same_made d e ≡ is_eq (made_cmp d e)
made-told_apart d e =
    both_tied _ _ (itinerary_cmp d.itinerary e.itinerary) (maker_cmp d.maker e.maker)
    (itinerary-told_apart d.itinerary e.itinerary) (makers_told_apart d.maker e.maker)
