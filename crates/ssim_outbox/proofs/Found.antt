-- An itinerary that messages reach is made by one of the candidates for it.
use Rattle.std.proofs.Common.{◌≡◌, ◌∙◌, ℕ, List, [], ◌∷◌, sym, ap, inl, inr, refl}
use Rattle.std.proofs.Common.{Bool, true, false, IsTrue, Option, Some, None}
use Rattle.ssim_text.specs.Values.{EquipmentValue}
use Rattle.ssim_text.specs.declared.leg.LegLine.{LegLine}
use Rattle.ssim_base.specs.Stations.{Row}
use Rattle.ssim_base.specs.Timetable.{LegValue, Legs}
use Rattle.ssim_schedule.specs.Effect.{with_lines}
use Rattle.ssim_outbox.specs.Reach.{Reach}
use Rattle.ssim_outbox.specs.Sayable.{ArePartsOf, HaveColumns, IsSayable, IsWhole, equipped_by}
use Rattle.ssim_outbox.specs.internal.Candidates.{AnyMakes}
use Rattle.ssim_outbox.specs.declared.candidates.Candidate.{Candidate}
use Rattle.ssim_outbox.specs.declared.candidates.Candidate.TheVariants as candidate
use Rattle.ssim_outbox.specs.Route.{same_route}
use Rattle.ssim_outbox.proofs.Closed.{reached_is_sayable}
use Rattle.ssim_outbox.proofs.Route.{parts_same_route}

-- what would make a test hold is not so if the test fails
pub none_tested : (b : Bool) (P : Type 0) → (P → IsTrue b) → b ≡ false → P → ⊥
none_tested b P h e p = let bad : true ≡ false = sym (h p) ∙ e in absurd cc

no_lines : (lines : List LegLine) → with_lines lines [] ≡ []
no_lines [] = refl
no_lines (line ∷ lines) = no_lines lines

no_parts : (e : Option EquipmentValue) → equipped_by e [] ≡ []
no_parts None = refl
no_parts (Some e) = refl

-- ---- of a flight that does not fly

new_sayable : (rows : List Row) (day : ℕ) (old new : Legs) → old ≡ [] → (new ≡ [] → ⊥)
    → IsSayable rows day old new → IsWhole rows day new
new_sayable rows day old new none some (inl gone) = absurd (some gone)
new_sayable rows day old new none some (inr (inl w)) = w
new_sayable rows day old new none some (inr (inr p)) =
    absurd (some (p.made
    ∙ ap (λ (legs : Legs). with_lines p.lines (equipped_by p.equipment legs)) none
    ∙ ap (with_lines p.lines) (no_parts p.equipment)
    ∙ no_lines p.lines))

pub new_found : (rows : List Row) (day : ℕ) (old new : Legs) → HaveColumns old
    → Reach rows day old new → old ≡ [] → (new ≡ [] → ⊥)
    → AnyMakes rows day (candidate.NewFlight ∷ []) old new
new_found rows day old new long reach none some =
    inl (
      none,
      new_sayable rows day old new none some
          (reached_is_sayable rows day old new long reach),
    )

-- ---- of a flight that flies

abbrev pub changes : List Candidate
changes =
    candidate.Times ∷ candidate.Equipment ∷ candidate.Replacement ∷ candidate.EquipmentAndTimes ∷ []

parts_found : (rows : List Row) (day : ℕ) (leg : LegValue) (legs new : Legs)
    (p : ArePartsOf (leg ∷ legs) new) (e : Option EquipmentValue) → p.equipment ≡ e
    → AnyMakes rows day changes (leg ∷ legs) new
parts_found rows day leg legs new p None same = inl (p, same)
parts_found rows day leg legs new p (Some e) same = inr (inr (inr (inl (p, e, same))))

sayable_found : (rows : List Row) (day : ℕ) (old new : Legs) → (old ≡ [] → ⊥) → (new ≡ [] → ⊥)
    → IsSayable rows day old new → AnyMakes rows day changes old new
sayable_found rows day [] new flies some s = absurd (flies refl)
sayable_found rows day (leg ∷ legs) new flies some (inl gone) = absurd (some gone)
sayable_found rows day (leg ∷ legs) new flies some (inr (inl w)) = inr (inr (inl w))
sayable_found rows day (leg ∷ legs) new flies some (inr (inr p)) =
    parts_found rows day leg legs new p p.equipment refl

pub change_found : (rows : List Row) (day : ℕ) (old new : Legs) → HaveColumns old
    → Reach rows day old new → (old ≡ [] → ⊥) → (new ≡ [] → ⊥)
    → AnyMakes rows day changes old new
change_found rows day old new long reach flies some =
    sayable_found rows day old new flies some (reached_is_sayable rows day old new long reach)

-- ---- of a flight that flies another route

other_sayable : (rows : List Row) (day : ℕ) (old new : Legs) → HaveColumns old → (new ≡ [] → ⊥)
    → same_route old new ≡ false → IsSayable rows day old new → IsWhole rows day new
other_sayable rows day old new long some other (inl gone) = absurd (some gone)
other_sayable rows day old new long some other (inr (inl w)) = w
other_sayable rows day old new long some other (inr (inr p)) =
    let bad : true ≡ false = sym (parts_same_route old new long p) ∙ other in
    absurd cc

replaced : (rows : List Row) (day : ℕ) (old new : Legs) → (old ≡ [] → ⊥) → IsWhole rows day new
    → AnyMakes rows day (candidate.Replacement ∷ []) old new
replaced rows day [] new flies w = absurd (flies refl)
replaced rows day (leg ∷ legs) new flies w = inl w

pub route_found : (rows : List Row) (day : ℕ) (old new : Legs) → HaveColumns old
    → Reach rows day old new → (old ≡ [] → ⊥) → (new ≡ [] → ⊥) → same_route old new ≡ false
    → AnyMakes rows day (candidate.Replacement ∷ []) old new
route_found rows day old new long reach flies some other =
    replaced rows day old new flies
    (other_sayable rows day old new long some other
    (reached_is_sayable rows day old new long reach))
