-- The test of two differences passes exactly if they are equal.
use Rattle.std.proofs.Common.{◌≡◌, ◌↔◌, ◌∙◌, IsTrue, ap}
use Rattle.std.specs.Bool.{Decides}
use Rattle.std.proofs.lemmas.Bool.Decides.{Decides-and}
use Rattle.ssim_base.specs.clauses.ItineraryLaws.{exact_itinerary}
use Rattle.ssim_base.specs.Timetable.{Legs}
use Rattle.ssim_difference.specs.Differences.{pair, same_difference}
use Rattle.ssim_difference.specs.declared.difference.Difference.{Difference}

pub exact_difference : (d e : Difference) → IsTrue (same_difference d e) ↔ (d ≡ e)
exact_difference d e = (
  λ h. from_parts (of_test.0 h),
  λ h. of_test.1
      (ap (λ (x : Difference). x.old) h, ap (λ (x : Difference). x.new) h),
)
  where
    from_parts : (d.old ≡ e.old) × (d.new ≡ e.new) → d ≡ e
    from_parts h = ap (λ (old : Legs). pair old d.new) h.0 ∙ ap (pair e.old) h.1

    of_test : Decides (same_difference d e) ((d.old ≡ e.old) × (d.new ≡ e.new))
    of_test = Decides-and _ _ (exact_itinerary d.old e.old) (exact_itinerary d.new e.new)
