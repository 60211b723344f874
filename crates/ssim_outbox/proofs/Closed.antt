-- None, the whole new itineraries and those with other equipment and times are closed under each of
-- the five actions. So whatever a list of sub-messages makes is one of them.
use Rattle.std.proofs.Common.{◌≡◌, ◌⊎◌, ◌∙◌, ℕ, List, [], ◌∷◌, ◌++◌, map, refl, sym, ap, subst}
use Rattle.std.proofs.Common.{Option, Some, None, option_map, inl, inr}
use Rattle.std.specs.List.{AllByRecursion}
use Rattle.ssim_text.specs.Bytes.{after_word, word}
use Rattle.ssim_text.specs.Grammar.{IsEquipment, IsLegLine, IsNewLegs}
use Rattle.ssim_text.specs.Values.{EquipmentValue}
use Rattle.ssim_text.specs.declared.action.Action.{Action}
use Rattle.ssim_text.specs.declared.action.Action.TheVariants.{New, Cnl, Rpl, Eqt, Tim}
use Rattle.ssim_text.specs.declared.action.NewLegs.{NewLegs}
use Rattle.ssim_text.specs.declared.leg.LegLine.{LegLine}
use Rattle.ssim_text.proofs.LegsAgain.{end_sound, leg_sound}
use Rattle.ssim_base.specs.Stations.{Row}
use Rattle.ssim_base.specs.Timetable.{Legs}
use Rattle.ssim_schedule.specs.Acts.{after_on}
use Rattle.ssim_schedule.specs.Effect.{cancel, create, equipped, new_legs, replace, retime}
use Rattle.ssim_schedule.specs.Effect.{variation_on, with_line, with_lines}
use Rattle.ssim_text.proofs.ReadsBack.{all_both}
use Rattle.ssim_outbox.specs.Reach.{IsSaid, Reach, after_all}
use Rattle.ssim_outbox.specs.Sayable.{AreNewLegs, ArePartsOf, HaveColumns, IsSayable, IsWhole}
use Rattle.ssim_outbox.specs.Sayable.{equipped_by}
use Rattle.ssim_outbox.proofs.NewLegs.{HasStations, all_replaced, allowed_replaced, equipped_from}
use Rattle.ssim_outbox.proofs.NewLegs.{equipped_new, replaced_from, replaced_new}
use Rattle.ssim_outbox.proofs.OldLegs.{equip_is, equipped_lines, equipped_long, equipped_twice}
use Rattle.ssim_outbox.proofs.OldLegs.{lines_after, retime_is}
use Rattle.ssim_outbox.proofs.Said.{CanAct, said_can_act}

-- ---- a whole new itinerary

pub line_stations : (line : LegLine) → IsLegLine line → HasStations line
line_stations line h =
    let leg = leg_sound h.line line h.spells in (
      (end_sound (word h.line) line.departure leg.departure).station.valid,
      (end_sound (after_word h.line) line.arrival leg.arrival).station.valid,
    )

lines_stations : (lines : List LegLine) → AllByRecursion IsLegLine lines
    → AllByRecursion HasStations lines
lines_stations [] h = tt
lines_stations (line ∷ lines) h = (line_stations line h.0, lines_stations lines h.1)

allowed_equipped : (e : EquipmentValue) (new : NewLegs) → IsNewLegs new
    → IsNewLegs (equipped_new e new)
allowed_equipped e new h =
    record { some = h.some; legs = h.legs; segments = h.segments; flown = h.flown }

whole_equipped : (rows : List Row) (day : ℕ) (e : EquipmentValue) (legs : Legs) → IsEquipment e
    → IsWhole rows day legs → IsWhole rows day (map (equipped e) legs)
whole_equipped rows day e legs is w = record {
  new = equipped_new e w.new;
  are_new = record {
    allowed = allowed_equipped e w.new w.are_new.allowed;
    equipment = is;
    legs = w.are_new.legs;
    segments = w.are_new.segments;
  };
  made = equipped_from (variation_on rows day) e w.new 0 w.new.legs
      (lines_stations w.new.legs w.are_new.legs)
      ∙ ap (option_map (map (equipped e))) w.made;
}

whole_line : (rows : List Row) (day : ℕ) (line : LegLine) (legs : Legs) → IsLegLine line
    → IsWhole rows day legs → IsWhole rows day (with_line line legs)
whole_line rows day line legs is w = record {
  new = replaced_new line w.new;
  are_new = record {
    allowed = allowed_replaced line w.new w.are_new.allowed;
    equipment = w.are_new.equipment;
    legs = all_replaced IsLegLine line w.new.legs is w.are_new.legs;
    segments = w.are_new.segments;
  };
  made = replaced_from (variation_on rows day) line w.new 0 w.new.legs
      (lines_stations w.new.legs w.are_new.legs)
      ∙ ap (option_map (with_line line)) w.made;
}

whole_lines : (rows : List Row) (day : ℕ) (lines : List LegLine) (legs : Legs)
    → AllByRecursion IsLegLine lines → IsWhole rows day legs
    → IsWhole rows day (with_lines lines legs)
whole_lines rows day [] legs are w = w
whole_lines rows day (line ∷ lines) legs are w =
    whole_lines rows day lines (with_line line legs) are.1 (whole_line rows day line legs are.0 w)

-- ---- other equipment and times

equipped_once : (e : EquipmentValue) (before : Option EquipmentValue) (old : Legs)
    → HaveColumns old → map (equipped e) (equipped_by before old) ≡ map (equipped e) old
equipped_once e None old h = refl
equipped_once e (Some f) old h = equipped_twice e f old h

pub by_long : (e : Option EquipmentValue) (old : Legs) → HaveColumns old
    → HaveColumns (equipped_by e old)
by_long None old h = h
by_long (Some e) old h = equipped_long e old h

parts_equipped : (e : EquipmentValue) (old legs : Legs) → HaveColumns old → IsEquipment e
    → ArePartsOf old legs → ArePartsOf old (map (equipped e) legs)
parts_equipped e old legs h is p = record {
  equipment = Some e;
  is_equipment = is;
  lines = p.lines;
  are_lines = p.are_lines;
  made = ap (map (equipped e)) p.made
      ∙ equipped_lines p.lines e (equipped_by p.equipment old) (by_long p.equipment old h)
      ∙ ap (with_lines p.lines) (equipped_once e p.equipment old h);
}

parts_lines : (lines : List LegLine) (old legs : Legs) → AllByRecursion IsLegLine lines
    → ArePartsOf old legs → ArePartsOf old (with_lines lines legs)
parts_lines lines old legs are p = record {
  equipment = p.equipment;
  is_equipment = p.is_equipment;
  lines = p.lines ++ lines;
  are_lines = all_both IsLegLine p.lines lines p.are_lines are;
  made = ap (with_lines lines) p.made
      ∙ sym (lines_after p.lines lines (equipped_by p.equipment old));
}

-- ---- each action

pub cancel_is : (legs : Legs) → (cancel legs).0 ≡ []
cancel_is [] = refl
cancel_is (leg ∷ legs) = refl

create_is : (new : Option Legs) (legs : Legs)
    → ((create new legs).0 ≡ legs) ⊎ (new ≡ Some (create new legs).0)
create_is None [] = inl refl
create_is (Some new) [] = inr refl
create_is new (leg ∷ legs) = inl refl

replace_is : (new : Option Legs) (legs : Legs)
    → ((replace new legs).0 ≡ legs) ⊎ (new ≡ Some (replace new legs).0)
replace_is new [] = inl refl
replace_is None (leg ∷ legs) = inl refl
replace_is (Some new) (leg ∷ legs) = inr refl

no_lines : (lines : List LegLine) → with_lines lines [] ≡ []
no_lines [] = refl
no_lines (line ∷ lines) = no_lines lines

module _ (rows : List Row) (day : ℕ) (old : Legs) (long : HaveColumns old) where
  -- the itinerary that stays, or whole new legs
  new_sayable : (new : NewLegs) (legs after : Legs) → AreNewLegs new
      → (after ≡ legs) ⊎ (new_legs (variation_on rows day) new ≡ Some after)
      → IsSayable rows day old legs → IsSayable rows day old after
  new_sayable new legs after are (inl same) h = subst (IsSayable rows day old) (sym same) h
  new_sayable new legs after are (inr made) h =
      inr (inl (record { new = new; are_new = are; made = made }))

  equipped_sayable : (e : EquipmentValue) (legs : Legs) → IsEquipment e
      → IsSayable rows day old legs → IsSayable rows day old (map (equipped e) legs)
  equipped_sayable e legs is (inl none) = inl (ap (map (equipped e)) none)
  equipped_sayable e legs is (inr (inl w)) = inr (inl (whole_equipped rows day e legs is w))
  equipped_sayable e legs is (inr (inr p)) = inr (inr (parts_equipped e old legs long is p))

  lines_sayable : (lines : List LegLine) (legs : Legs) → AllByRecursion IsLegLine lines
      → IsSayable rows day old legs → IsSayable rows day old (with_lines lines legs)
  lines_sayable lines legs are (inl none) = inl (ap (with_lines lines) none ∙ no_lines lines)
  lines_sayable lines legs are (inr (inl w)) = inr (inl (whole_lines rows day lines legs are w))
  lines_sayable lines legs are (inr (inr p)) = inr (inr (parts_lines lines old legs are p))

  retimed_sayable : (lines : List LegLine) (legs after : Legs) → AllByRecursion IsLegLine lines
      → (after ≡ legs) ⊎ (after ≡ with_lines lines legs) → IsSayable rows day old legs
      → IsSayable rows day old after
  retimed_sayable lines legs after are (inl same) h =
      subst (IsSayable rows day old) (sym same) h
  retimed_sayable lines legs after are (inr times) h =
      subst (IsSayable rows day old) (sym times) (lines_sayable lines legs are h)

  action_sayable : (action : Action) (legs : Legs) → CanAct action → IsSayable rows day old legs
      → IsSayable rows day old (after_on rows action day legs)
  action_sayable (New new) legs can h =
      let made = new_legs (variation_on rows day) new in
      new_sayable new legs (create made legs).0 can (create_is made legs) h
  action_sayable Cnl legs can h = inl (cancel_is legs)
  action_sayable (Rpl new) legs can h =
      let made = new_legs (variation_on rows day) new in
      new_sayable new legs (replace made legs).0 can (replace_is made legs) h
  action_sayable (Eqt e) legs can h =
      subst (IsSayable rows day old) (sym (equip_is e legs)) (equipped_sayable e legs can h)
  action_sayable (Tim lines) legs can h =
      retimed_sayable lines legs (retime lines legs).0 can (retime_is lines legs) h

  all_sayable : (actions : List Action) (legs : Legs) → AllByRecursion IsSaid actions
      → IsSayable rows day old legs → IsSayable rows day old (after_all rows day actions legs)
  all_sayable [] legs said h = h
  all_sayable (action ∷ actions) legs said h =
      all_sayable actions (after_on rows action day legs) said.1
      (action_sayable action legs (said_can_act action said.0) h)

-- the old itinerary itself
unchanged : (old : Legs) → ArePartsOf old old
unchanged old =
    record { equipment = None; is_equipment = tt; lines = []; are_lines = tt; made = refl }

pub reached_is_sayable : (rows : List Row) (day : ℕ) (old new : Legs) → HaveColumns old
    → Reach rows day old new → IsSayable rows day old new
reached_is_sayable rows day old new long reach =
    subst (IsSayable rows day old) reach.leads.result
    (all_sayable rows day old long reach.actions old reach.leads.said (inr (inr (unchanged old))))
