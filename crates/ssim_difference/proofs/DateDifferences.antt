-- The difference of two itineraries.
use Rattle.std.proofs.Common.{◌≡◌, ◌∙◌, Bool, true, false, not, if◌then◌else◌, [], ◌∷◌, refl, sym, ap}
use Rattle.std.proofs.Common.{true≢false}
use Rattle.ssim_periods.specs.Pieces.{alone}
use Rattle.ssim_periods.proofs.PieceLaw.{alike-self}
use Rattle.ssim_base.specs.Export.{same_itinerary}
use Rattle.ssim_base.specs.clauses.ItineraryLaws.{exact_itinerary}
use Rattle.ssim_base.specs.Timetable.{Legs}
use Rattle.ssim_difference.specs.clauses.DifferenceLaws.{exact_difference}
use Rattle.ssim_difference.specs.Differences.{difference, no_difference, pair, same_difference}
use Rattle.ssim_difference.specs.declared.difference.Difference.{Difference}

pub same_self : (legs : Legs) → same_itinerary legs legs ≡ true
same_self legs = alike-self same_itinerary exact_itinerary legs

-- equal itineraries have no difference
pub difference_none : (old new : Legs) → same_itinerary old new ≡ true
    → difference old new ≡ no_difference
difference_none old new e = ap (λ (b : Bool). if b then no_difference else pair old new) e

pub difference_self : (legs : Legs) → difference legs legs ≡ no_difference
difference_self legs = difference_none legs legs (same_self legs)

-- itineraries that differ are both in their difference
pub difference_both : (old new : Legs) → same_itinerary old new ≡ false
    → difference old new ≡ pair old new
difference_both old new e = ap (λ (b : Bool). if b then no_difference else pair old new) e

-- without an old itinerary the new one is in the difference
pub new_of : (new : Legs) → (difference [] new).new ≡ new
new_of [] = refl
new_of (leg ∷ legs) = refl

-- without a new itinerary the old one is in the difference
pub old_of : (old : Legs) → (difference old []).old ≡ old
old_of [] = refl
old_of (leg ∷ legs) = refl

-- a difference in a list of its own
pub alone_difference : (old new : Legs) → alone same_difference no_difference (difference old new)
    ≡ (if not (same_itinerary old new) then pair old new ∷ [] else [])
alone_difference old new = by (same_itinerary old new) refl
  where
    by : (b : Bool) → same_itinerary old new ≡ b
        → alone same_difference no_difference (difference old new)
        ≡ (if not b then pair old new ∷ [] else [])
    by true e = ap (alone same_difference no_difference) (difference_none old new e)
    by false e = ap (alone same_difference no_difference) (difference_both old new e)
        ∙ in_full (same_difference (pair old new) no_difference) refl
      where
        in_full : (c : Bool) → same_difference (pair old new) no_difference ≡ c
            → (if c then [] else pair old new ∷ []) ≡ pair old new ∷ []
        in_full false f = refl
        in_full true f =
            let none = (exact_difference (pair old new) no_difference).0 f in
            let same : same_itinerary old new
            ≡ true = (exact_itinerary old new).1 (ap (λ (d : Difference). d.old) none
            ∙ sym (ap (λ (d : Difference). d.new) none)) in
            absurd (true≢false (sym same ∙ e))
