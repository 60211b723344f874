-- Each of the three kinds of itinerary is reached: none by CNL, a whole new one by CNL and NEW, the
-- old one with other equipment and times by EQT and then one TIM for each leg line.
use Rattle.std.proofs.Common.{◌≡◌, ◌||◌, ◌∙◌, ℕ, Bool, true, false, if◌then◌else◌, List, [], ◌∷◌}
use Rattle.std.proofs.Common.{map, refl, sym, ap, subst, inl, inr, Option, Some, None, IfSome}
use Rattle.std.proofs.Common.{arith}
use Rattle.std.specs.List.{AllByRecursion}
use Rattle.ssim_text.specs.Grammar.{IsEquipment, IsLegLine}
use Rattle.ssim_text.specs.Values.{EquipmentValue}
use Rattle.ssim_text.specs.declared.action.Action.{Action}
use Rattle.ssim_text.specs.declared.action.Action.TheVariants.{New, Cnl, Eqt, Tim}
use Rattle.ssim_text.specs.declared.leg.LegLine.{LegLine}
use Rattle.ssim_base.specs.Stations.{Row}
use Rattle.ssim_base.specs.Timetable.{Legs}
use Rattle.ssim_schedule.specs.Effect.{create, equipped, fits, has_leg, new_legs, retime, retimed}
use Rattle.ssim_schedule.specs.Effect.{variation_on, with_line, with_lines}
use Rattle.ssim_outbox.specs.Reach.{IsSaid, Reach, after_all}
use Rattle.ssim_outbox.specs.Sayable.{ArePartsOf, IsSayable, IsWhole, MessagesReach, equipped_by}
use Rattle.ssim_outbox.proofs.SaidActions.{said_if_allowed}
use Rattle.ssim_outbox.proofs.Closed.{cancel_is, reached_is_sayable}
use Rattle.ssim_outbox.proofs.OldLegs.{equip_is}

-- ---- none, and a whole new one

reach_none : (rows : List Row) (day : ℕ) (old : Legs) → Reach rows day old []
reach_none rows day old = record {
  actions = Cnl ∷ [];
  leads = record { said = (said_if_allowed Cnl tt tt, tt); result = cancel_is old };
}

reach_whole : (rows : List Row) (day : ℕ) (old new : Legs) → IsWhole rows day new
    → Reach rows day old new
reach_whole rows day old new w =
    let made = new_legs (variation_on rows day) w.new in
    record {
      actions = Cnl ∷ New w.new ∷ [];
      leads = record {
        said = (
          said_if_allowed Cnl tt tt,
          (said_if_allowed (New w.new) w.are_new.allowed w.are_new, tt),
        );
        result = ap (λ (legs : Legs). (create made legs).0) (cancel_is old)
            ∙ ap (λ (legs : Option Legs). (create legs []).0) w.made;
      };
    }

-- ---- other equipment and times

-- a line that fits no leg changes nothing
fits_none : (line : LegLine) (legs : Legs) → has_leg legs line ≡ false
    → with_line line legs ≡ legs
fits_none line [] h = refl
fits_none line (leg ∷ legs) h = by (fits line leg) refl (λ k. fits_none line legs k)
  where
    by : (b : Bool) → fits line leg ≡ b
        → (has_leg legs line ≡ false → with_line line legs ≡ legs)
        → (if b then retimed line leg ∷ legs else leg ∷ with_line line legs) ≡ leg ∷ legs
    by true e later =
        let bad : true ≡ false = ap (λ (b : Bool). b || has_leg legs line) (sym e) ∙ h in
        absurd cc
    by false e later =
        ap (λ (ls : Legs). leg ∷ ls)
        (later (ap (λ (b : Bool). b || has_leg legs line) (sym e) ∙ h))

-- TIM with one leg line
retime_one : (line : LegLine) (legs : Legs) → (retime (line ∷ []) legs).0 ≡ with_line line legs
retime_one line [] = refl
retime_one line (leg ∷ legs) = by (has_leg (leg ∷ legs) line) refl
  where
    by : (b : Bool) → has_leg (leg ∷ legs) line ≡ b
        → (retime (line ∷ []) (leg ∷ legs)).0 ≡ with_line line (leg ∷ legs)
    by true e = rw e refl
    by false e = rw e (sym (fits_none line (leg ∷ legs) e))

-- TIM with one leg line each
abbrev times_one_by_one : List LegLine → List Action
times_one_by_one lines = map (λ line. Tim (line ∷ [])) lines

times_said : (lines : List LegLine) → AllByRecursion IsLegLine lines
    → AllByRecursion IsSaid (times_one_by_one lines)
times_said [] h = tt
times_said (line ∷ lines) h = (
  said_if_allowed (Tim (line ∷ [])) (omega arith, omega arith) (h.0, tt),
  times_said lines h.1,
)

after_times : (rows : List Row) (day : ℕ) (lines : List LegLine) (legs : Legs)
    → after_all rows day (times_one_by_one lines) legs ≡ with_lines lines legs
after_times rows day [] legs = refl
after_times rows day (line ∷ lines) legs =
    ap (after_all rows day (times_one_by_one lines)) (retime_one line legs)
    ∙ after_times rows day lines (with_line line legs)

by_times : (rows : List Row) (day : ℕ) (e : Option EquipmentValue) (lines : List LegLine)
    (old : Legs) → IfSome e IsEquipment → AllByRecursion IsLegLine lines
    → Reach rows day old (with_lines lines (equipped_by e old))
by_times rows day None lines old is are = record {
  actions = times_one_by_one lines;
  leads = record { said = times_said lines are; result = after_times rows day lines old };
}
by_times rows day (Some e) lines old is are = record {
  actions = Eqt e ∷ times_one_by_one lines;
  leads = record {
    said = (said_if_allowed (Eqt e) tt is, times_said lines are);
    result = ap (after_all rows day (times_one_by_one lines)) (equip_is e old)
        ∙ after_times rows day lines (map (equipped e) old);
  };
}

reach_parts : (rows : List Row) (day : ℕ) (old new : Legs) → ArePartsOf old new
    → Reach rows day old new
reach_parts rows day old new p =
    subst (Reach rows day old) (sym p.made)
    (by_times rows day p.equipment p.lines old p.is_equipment p.are_lines)

-- ---- both directions

sayable_is_reached : (rows : List Row) (day : ℕ) (old new : Legs) → IsSayable rows day old new
    → Reach rows day old new
sayable_is_reached rows day old new (inl none) =
    subst (Reach rows day old) (sym none) (reach_none rows day old)
sayable_is_reached rows day old new (inr (inl w)) = reach_whole rows day old new w
sayable_is_reached rows day old new (inr (inr p)) = reach_parts rows day old new p

pub messages_reach : MessagesReach
messages_reach rows day old new long =
    (reached_is_sayable rows day old new long, sayable_is_reached rows day old new)
