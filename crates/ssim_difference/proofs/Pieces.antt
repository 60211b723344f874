-- What the pieces of a flight's differences hold, and when there are none.
use Rattle.std.proofs.Common.{◌≡◌, ◌∙◌, ℕ, zero, suc, ◌+◌, ◌<◌, Bool, true, false, not, ◌||◌}
use Rattle.std.proofs.Common.{if◌then◌else◌, List, [], ◌∷◌, map, refl, sym, ap, arith}
use Rattle.std.specs.List.{flat_map, list_any, range_with_len}
use Rattle.ssim_periods.specs.Calendar.{day_count}
use Rattle.ssim_periods.specs.Days.{each_day}
use Rattle.ssim_periods.specs.Pieces.{alone, held_on, pieces_with, sort_by_first, values_of}
use Rattle.ssim_periods.proofs.DayLemmas.{day_count-is, index-each_day}
use Rattle.ssim_periods.proofs.PieceLaw.{pieces_law}
use Rattle.ssim_base.specs.Export.{same_itinerary}
use Rattle.ssim_base.specs.clauses.ItineraryLaws.{exact_itinerary}
use Rattle.ssim_base.specs.Timetable.{Days, on_day}
use Rattle.ssim_difference.specs.clauses.DifferenceLaws.{exact_difference}
use Rattle.ssim_difference.specs.Differences.{PiecesHoldDifferences, difference, difference_pieces}
use Rattle.ssim_difference.specs.Differences.{differing_days}
use Rattle.ssim_difference.specs.Differences.{differs_on, no_difference, pair, same_difference}
use Rattle.ssim_difference.specs.declared.difference.Difference.{Difference}
use Rattle.ssim_difference.proofs.DateDifferences.{alone_difference, difference_none}

-- each date that differs is in one piece, with its two itineraries, and no other date is in any
pub hold_differences : PiecesHoldDifferences
hold_differences old new n within =
    (pieces_law same_difference no_difference exact_difference (differing_days old new)).on_each_day n
    ∙ ap (alone same_difference no_difference)
    (index-each_day (λ k. difference (on_day old k) (on_day new k)) n no_difference
    (rw day_count-is at within))
    ∙ alone_difference (on_day old n) (on_day new n)

-- ---- no pieces

quiet_values : (days : ℕ → Difference) (a k : ℕ) → ((n : ℕ) → n < a + k → days n ≡ no_difference)
    → values_of same_difference no_difference (map days (range_with_len a k)) ≡ []
quiet_values days a zero h = refl
quiet_values days a (suc k) h =
    let rest = values_of same_difference no_difference (map days (range_with_len (a + 1) k)) in
    ap (λ (d : Difference). if same_difference d no_difference || list_any
    (same_difference d) rest then rest else d ∷ rest) (h a (omega arith))
    ∙ quiet_values days (a + 1) k (λ n l. h n (omega arith))

-- a flight that does not differ on any date has no pieces
pub quiet : (old new : Days) → ((n : ℕ) → n < day_count → on_day old n ≡ on_day new n)
    → difference_pieces old new ≡ []
quiet old new same =
    let days = λ (n : ℕ). difference (on_day old n) (on_day new n) in
    ap (λ (values : List Difference). sort_by_first
    (flat_map (pieces_with same_difference (each_day days)) values))
    (quiet_values days 0 day_count
    (λ n l. difference_none (on_day old n) (on_day new n)
    ((exact_itinerary (on_day old n) (on_day new n)).1 (same n (omega arith)))))

not_empty : (d : Difference) → d ∷ [] ≡ [] → ⊥
not_empty d h = cc

-- a flight without pieces does not differ on any date
pub equal_on : (old new : Days) (n : ℕ) → n < day_count → difference_pieces old new ≡ []
    → on_day old n ≡ on_day new n
equal_on old new n within none = by (same_itinerary (on_day old n) (on_day new n)) refl
  where
    held : (if differs_on old new n then pair (on_day old n) (on_day new n) ∷ [] else []) ≡ []
    held = sym (hold_differences old new n within) ∙ ap (λ ps. held_on ps n) none

    by : (b : Bool) → same_itinerary (on_day old n) (on_day new n) ≡ b → on_day old n ≡ on_day new n
    by true e = (exact_itinerary (on_day old n) (on_day new n)).0 e
    by false e =
        let some : (if differs_on old new n then pair (on_day old n) (on_day new n) ∷ [] else [])
        ≡ pair (on_day old n) (on_day new n) ∷ [] =
        ap (λ (b : Bool). if not b then pair (on_day old n) (on_day new n) ∷ [] else []) e in
        absurd (not_empty (pair (on_day old n) (on_day new n)) (sym some ∙ held))
