-- The order of itineraries is total, and tells apart exactly what the test of two itineraries does.
use Rattle.std.proofs.Common.{◌≡◌, ◌∙◌, ℕ, List, [], ◌∷◌, refl, sym}
use Rattle.std.specs.Cmp.{IsTotalOrder, both_tied, nat_cmp_total, on_total, then_total, unsigned_ties}
use Rattle.std.specs.Cmp.Lexicographic.{lists_total, nat_list_cmp_total, slice_cmp}
use Rattle.std.specs.Ordering.{is_eq, nat_cmp, ordering_then}
use Rattle.std.proofs.lemmas.Map.Text.{is_eq-slice_cmp}
use Rattle.ssim_base.specs.Timetable.{LegValue, Legs}
use Rattle.ssim_base.specs.Export.{same_itinerary, same_leg, same_tails}
use Rattle.ssim_schedule.specs.clauses.ItineraryOrder.{itinerary_cmp, leg_cmp, tails_cmp}

tails_cmp_total : IsTotalOrder tails_cmp
tails_cmp_total = lists_total nat_list_cmp_total

leg_cmp_total : IsTotalOrder leg_cmp
leg_cmp_total =
    then_total (on_total (λ l. l.sequence) nat_cmp_total)
    (then_total (on_total (λ l. l.columns) nat_list_cmp_total)
    (on_total (λ l. l.tails) tails_cmp_total))

pub itinerary_cmp_total : IsTotalOrder itinerary_cmp
itinerary_cmp_total = lists_total leg_cmp_total

tails-told_apart : (x y : List (List ℕ)) → same_tails x y ≡ is_eq (tails_cmp x y)
tails-told_apart [] [] = refl
tails-told_apart [] (u ∷ others) = refl
tails-told_apart (t ∷ tails) [] = refl
tails-told_apart (t ∷ tails) (u ∷ others) =
    both_tied _ _ (slice_cmp nat_cmp t u) (tails_cmp tails others)
    (sym (is_eq-slice_cmp t u)) (tails-told_apart tails others)

leg-told_apart : (l m : LegValue) → same_leg l m ≡ is_eq (leg_cmp l m)
leg-told_apart l m =
    both_tied _ _ (nat_cmp l.sequence m.sequence)
    (ordering_then (slice_cmp nat_cmp l.columns m.columns) (tails_cmp l.tails m.tails))
    (unsigned_ties l.sequence m.sequence)
    (both_tied _ _ (slice_cmp nat_cmp l.columns m.columns) (tails_cmp l.tails m.tails)
    (sym (is_eq-slice_cmp l.columns m.columns)) (tails-told_apart l.tails m.tails))

pub itinerary-told_apart : (x y : Legs) → same_itinerary x y ≡ is_eq (itinerary_cmp x y)
itinerary-told_apart [] [] = refl
itinerary-told_apart [] (m ∷ others) = refl
itinerary-told_apart (l ∷ legs) [] = refl
itinerary-told_apart (l ∷ legs) (m ∷ others) =
    both_tied _ _ (leg_cmp l m) (itinerary_cmp legs others)
    (leg-told_apart l m) (itinerary-told_apart legs others)
