-- The test of two itineraries passes exactly if they are equal.
use Rattle.std.proofs.Common.{◌≡◌, ◌↔◌, ℕ, IsTrue, List, [], ◌∷◌, refl, ap, ◌∙◌}
use Rattle.std.specs.Bool.{Decides}
use Rattle.std.proofs.lemmas.Bool.Decides.{Decides-and, Decides-eqb, Decides-like}
use Rattle.std.proofs.lemmas.Slice.Eq.{bytes_eq-Decides}
use Rattle.ssim_base.specs.Timetable.{LegValue, Legs}
use Rattle.ssim_base.specs.Export.{same_itinerary, same_leg, same_tails}

same_tails-Decides : (x y : List (List ℕ)) → Decides (same_tails x y) (x ≡ y)
same_tails-Decides [] [] = (λ h. refl, λ h. refl)
same_tails-Decides [] (u ∷ others) = (λ h. cc, λ h. cc)
same_tails-Decides (t ∷ tails) [] = (λ h. cc, λ h. cc)
same_tails-Decides (t ∷ tails) (u ∷ others) = Decides-like _ (λ h. let p = h.0 in let q = h.1 in cc) (λ h. (cc, cc)) (Decides-and _ _ (bytes_eq-Decides t u) (same_tails-Decides tails others))

abbrev made : ℕ → List ℕ → List (List ℕ) → LegValue
made s c t = record { sequence = s; columns = c; tails = t }

same_leg-Decides : (a b : LegValue) → Decides (same_leg a b) (a ≡ b)
same_leg-Decides a b = (λ h. from_parts (of_test.0 h), λ h. of_test.1 (ap (λ l. l.sequence) h, (ap (λ l. l.columns) h, ap (λ l. l.tails) h)))
  where
    from_parts : (a.sequence ≡ b.sequence) × ((a.columns ≡ b.columns) × (a.tails ≡ b.tails)) → a ≡ b
    from_parts h = ap (λ s. made s a.columns a.tails) h.0 ∙ ap (λ c. made b.sequence c a.tails) h.1.0 ∙ ap (made b.sequence b.columns) h.1.1

    of_test : Decides (same_leg a b) ((a.sequence ≡ b.sequence) × ((a.columns ≡ b.columns) × (a.tails ≡ b.tails)))
    of_test = Decides-and _ _ (Decides-eqb a.sequence b.sequence) (Decides-and _ _ (bytes_eq-Decides a.columns b.columns) (same_tails-Decides a.tails b.tails))

same_itinerary-Decides : (x y : Legs) → Decides (same_itinerary x y) (x ≡ y)
same_itinerary-Decides [] [] = (λ h. refl, λ h. refl)
same_itinerary-Decides [] (m ∷ others) = (λ h. cc, λ h. cc)
same_itinerary-Decides (l ∷ legs) [] = (λ h. cc, λ h. cc)
same_itinerary-Decides (l ∷ legs) (m ∷ others) = Decides-like _ (λ h. let p = h.0 in let q = h.1 in cc) (λ h. (cc, cc)) (Decides-and _ _ (same_leg-Decides l m) (same_itinerary-Decides legs others))

pub exact_itinerary : (x y : Legs) → IsTrue (same_itinerary x y) ↔ (x ≡ y)
exact_itinerary x y = same_itinerary-Decides x y
