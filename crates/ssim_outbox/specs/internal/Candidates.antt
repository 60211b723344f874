-- What the actions that `say` tries can make.
use Rattle.std.specs.Prelude.{◌≡◌, ◌⊎◌, ℕ, List, [], ◌∷◌, ◌++◌, None, Some}
use Rattle.ssim_text.specs.declared.action.Action.{Action}
use Rattle.ssim_text.specs.declared.action.Action.TheVariants.{Tim}
use Rattle.ssim_text.specs.declared.leg.LegLine.{LegLine}
use Rattle.ssim_text.specs.Values.{EquipmentValue}
use Rattle.ssim_base.specs.Stations.{Row}
use Rattle.ssim_base.specs.Timetable.{Legs}
use Rattle.ssim_outbox.specs.Sayable.{ArePartsOf, IsWhole}
use Rattle.ssim_outbox.specs.declared.candidates.Candidate.{Candidate}
use Rattle.ssim_outbox.specs.declared.candidates.Candidate.TheVariants as candidate

-- the actions are TIM, which together have these leg lines in order
abbrev pub AreTimes : List LegLine → List Action → Type 0
AreTimes lines [] = lines ≡ []
AreTimes lines (action ∷ actions) =
    (first : List LegLine) × (later : List LegLine) × (lines ≡ first ++ later)
    × (action ≡ Tim first) × AreTimes later actions

-- the later actions are the earlier ones and TIM with these leg lines
pub record AddsTimes (lines : List LegLine) (before after : List Action) : Type 0 where
  pub more : List Action
  pub added : after ≡ before ++ more
  pub times : AreTimes lines more

-- The candidate makes the new itinerary of the old one. EQT alone is EQT and then no TIM, so
-- nothing is said of it here. RPL and EQT change a flight that flies.
abbrev pub Makes : List Row → ℕ → Candidate → Legs → Legs → Type 0
Makes rows day candidate.NewFlight old new = (old ≡ []) × IsWhole rows day new
Makes rows day candidate.Times old new = (p : ArePartsOf old new) × (p.equipment ≡ None)
Makes rows day candidate.Equipment old new = ⊥
Makes rows day candidate.Replacement [] new = ⊥
Makes rows day candidate.Replacement (leg ∷ legs) new = IsWhole rows day new
Makes rows day candidate.EquipmentAndTimes [] new = ⊥
Makes rows day candidate.EquipmentAndTimes (leg ∷ legs) new =
    (p : ArePartsOf (leg ∷ legs) new) × (e : EquipmentValue) × (p.equipment ≡ Some e)

-- one of the candidates makes it
abbrev pub AnyMakes : List Row → ℕ → List Candidate → Legs → Legs → Type 0
AnyMakes rows day [] old new = ⊥
AnyMakes rows day (candidate ∷ candidates) old new =
    Makes rows day candidate old new ⊎ AnyMakes rows day candidates old new
