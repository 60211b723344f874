-- The lines of legs that are marked by the groups of all legs of the itineraries.
use Rattle.std.proofs.Common.{◌≡◌, ◌∙◌, ◌++◌, Bool, true, ℕ, List, [], ◌∷◌, Bor, refl, ap, ap₂, map}
use Rattle.std.proofs.Common.{codes}
use Rattle.std.specs.List.{flat_map, list_any}
use Rattle.std.proofs.lemmas.List.Folds.{list_any-append}
use Rattle.ssim_base.specs.Export.{same_leg}
use Rattle.ssim_base.specs.Timetable.{LegValue, Legs}
use Rattle.ssim_listing.specs.Marks.{is_like_one_by, mark_text}
use Rattle.ssim_listing.specs.clauses.Groups.{group_of, is_mixed}
use Rattle.ssim_listing.proofs.Grouping.{marked_is, or_left, or_right, same_self}
use Rattle.ssim_page.specs.Flight.{all_legs, leg_line}
use Rattle.ssim_page.specs.LegRow.{leg_row}
use Rattle.ssim_page.specs.internal.RowLines.{row_lines}

-- what is made of values by reference
pub flat_map-now : {X Y : Type 0} (f : X → List Y) (xs : List (Bor X))
    → flat_map (λ x. f x.now) xs ≡ flat_map f (map (λ x. x.now) xs)
flat_map-now f [] = refl
flat_map-now f (x ∷ xs) = ap (λ ys. f x.now ++ ys) (flat_map-now f xs)

module _ (mixed : List ℕ → Bool) (all : Legs) where
  -- `mixed` says of each of these legs whether it is marked
  abbrev Marks : Legs → Type 0
  Marks legs =
      (leg : LegValue) → list_any (same_leg leg) legs ≡ true
      → mixed (leg_row leg) ≡ is_like_one_by leg_row all leg

  legs_same : (key : List ℕ) (legs : Legs) → Marks legs
      → row_lines mixed key legs ≡ flat_map (leg_line key all) legs
  legs_same key [] h = refl
  legs_same key (l ∷ legs) h =
      ap₂ (λ (a b : List ℕ). a ++ b)
      (ap (λ (t : Bool). key ++ codes " " ++ leg_row l ++ mark_text t ++ codes "\n")
      (h l (or_left (same_leg l l) (list_any (same_leg l) legs) (same_self l))))
      (legs_same key legs (λ leg e. h leg
      (or_right (same_leg leg l) (list_any (same_leg leg) legs) e)))

  its_same : (key : Legs → List ℕ) (found : List Legs) → Marks (all_legs found)
      → flat_map (λ legs. row_lines mixed (key legs) legs) found ≡ flat_map
      (λ legs. flat_map (leg_line (key legs) all) legs) found
  its_same key [] h = refl
  its_same key (its ∷ found) h =
      ap₂ (λ (a b : List ℕ). a ++ b)
      (legs_same (key its) its (λ leg e. h leg
      (list_any-append (same_leg leg) its (all_legs found)
      ∙ or_left (list_any (same_leg leg) its) (list_any (same_leg leg) (all_legs found)) e)))
      (its_same key found (λ leg e. h leg
      (list_any-append (same_leg leg) its (all_legs found)
      ∙ or_right (list_any (same_leg leg) its) (list_any (same_leg leg) (all_legs found)) e)))

-- the lines of the itineraries, whose legs are marked by the groups of all their legs
pub marked_rows : (mixed : List ℕ → Bool) (key : Legs → List ℕ) (found : List Legs)
    → ((row : List ℕ) → mixed row ≡ is_mixed (group_of leg_row (all_legs found) row))
    → flat_map (λ legs. row_lines mixed (key legs) legs) found ≡ flat_map
    (λ legs. flat_map (leg_line (key legs) (all_legs found)) legs) found
marked_rows mixed key found is =
    its_same mixed (all_legs found) key found
    (λ leg e. is (leg_row leg) ∙ marked_is leg_row (all_legs found) leg e)
