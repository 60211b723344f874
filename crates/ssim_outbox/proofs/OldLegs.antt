-- Equipment and times of an itinerary: a leg line finds the same leg whatever the equipment is, so
-- that the two act on their own columns in either order.
use Rattle.std.proofs.Common.{◌≡◌, ◌⊎◌, ◌&&◌, ◌∙◌, ℕ, Bool, true, false, if◌then◌else◌}
use Rattle.std.proofs.Common.{List, [], ◌∷◌, ◌++◌, map, length, bytes_eq, refl, sym, ap, inl, inr}
use Rattle.ssim_text.specs.Values.{EquipmentValue}
use Rattle.ssim_text.specs.declared.leg.LegLine.{LegLine}
use Rattle.ssim_base.specs.Timetable.{LegValue, Legs}
use Rattle.ssim_schedule.specs.Effect.{equip, equipped, fits, have_legs, retime, retimed, with_line}
use Rattle.ssim_schedule.specs.Effect.{with_lines}
use Rattle.ssim_schedule.specs.MessageColumns.{equipment_of, times_of}
use Rattle.ssim_outbox.specs.Sayable.{HaveColumns}
use Rattle.ssim_outbox.proofs.Columns.{arrival_equipped, departure_equipped, either_order}
use Rattle.ssim_outbox.proofs.Columns.{equipment_twice, length_equipment, length_times}

-- the leg with other columns
abbrev of_columns : LegValue → List ℕ → LegValue
of_columns leg columns = record leg { columns = columns }

-- ---- the columns stay 158

pub equipped_long : (e : EquipmentValue) (legs : Legs) → HaveColumns legs
    → HaveColumns (map (equipped e) legs)
equipped_long e [] h = tt
equipped_long e (leg ∷ legs) h =
    (length_equipment (equipment_of e) leg.columns h.0, equipped_long e legs h.1)

pub line_long : (line : LegLine) (legs : Legs) → HaveColumns legs → HaveColumns (with_line line legs)
line_long line [] h = tt
line_long line (leg ∷ legs) h = by (fits line leg) (line_long line legs h.1)
  where
    by : (b : Bool) → HaveColumns (with_line line legs)
        → HaveColumns (if b then retimed line leg ∷ legs else leg ∷ with_line line legs)
    by true later = (length_times (times_of line) leg.columns h.0, h.1)
    by false later = (h.0, later)

pub lines_long : (lines : List LegLine) (legs : Legs) → HaveColumns legs
    → HaveColumns (with_lines lines legs)
lines_long [] legs h = h
lines_long (line ∷ lines) legs h = lines_long lines (with_line line legs) (line_long line legs h)

-- ---- equipment and times

pub fits_equipped : (line : LegLine) (e : EquipmentValue) (leg : LegValue) → length leg.columns ≡ 158
    → fits line (equipped e leg) ≡ fits line leg
fits_equipped line e leg len = λ i.
    bytes_eq (departure_equipped (equipment_of e) leg.columns len i) line.departure.station
    && bytes_eq (arrival_equipped (equipment_of e) leg.columns len i) line.arrival.station

equipped_retimed : (line : LegLine) (e : EquipmentValue) (leg : LegValue)
    → length leg.columns ≡ 158
    → equipped e (retimed line leg) ≡ retimed line (equipped e leg)
equipped_retimed line e leg len =
    ap (of_columns leg) (either_order (equipment_of e) (times_of line) leg.columns len)

-- a leg with equipment, and with the times of the line if it fits, before the later legs
abbrev equipped_first : LegLine → EquipmentValue → LegValue → Legs → Bool → Legs
equipped_first line e leg legs b =
    if b then retimed line (equipped e leg) ∷ map (equipped e) legs
    else equipped e leg ∷ with_line line (map (equipped e) legs)

equipped_line : (line : LegLine) (e : EquipmentValue) (legs : Legs) → HaveColumns legs
    → map (equipped e) (with_line line legs) ≡ with_line line (map (equipped e) legs)
equipped_line line e [] h = refl
equipped_line line e (leg ∷ legs) h =
    by (fits line leg) (equipped_line line e legs h.1)
    ∙ ap (equipped_first line e leg legs) (sym (fits_equipped line e leg h.0))
  where
    by : (b : Bool)
        → map (equipped e) (with_line line legs) ≡ with_line line (map (equipped e) legs)
        → map (equipped e) (if b then retimed line leg ∷ legs else leg ∷ with_line line legs)
        ≡ equipped_first line e leg legs b
    by true later =
        ap (λ (l : LegValue). l ∷ map (equipped e) legs) (equipped_retimed line e leg h.0)
    by false later = ap (λ (ls : Legs). equipped e leg ∷ ls) later

pub equipped_lines : (lines : List LegLine) (e : EquipmentValue) (legs : Legs) → HaveColumns legs
    → map (equipped e) (with_lines lines legs) ≡ with_lines lines (map (equipped e) legs)
equipped_lines [] e legs h = refl
equipped_lines (line ∷ lines) e legs h =
    equipped_lines lines e (with_line line legs) (line_long line legs h)
    ∙ ap (with_lines lines) (equipped_line line e legs h)

pub equipped_twice : (e f : EquipmentValue) (legs : Legs) → HaveColumns legs
    → map (equipped e) (map (equipped f) legs) ≡ map (equipped e) legs
equipped_twice e f [] h = refl
equipped_twice e f (leg ∷ legs) h = λ i.
    of_columns leg (equipment_twice (equipment_of e) (equipment_of f) leg.columns h.0 i)
    ∷ equipped_twice e f legs h.1 i

pub lines_after : (first second : List LegLine) (legs : Legs)
    → with_lines (first ++ second) legs ≡ with_lines second (with_lines first legs)
lines_after [] second legs = refl
lines_after (line ∷ first) second legs = lines_after first second (with_line line legs)

-- ---- what the two actions leave

pub equip_is : (e : EquipmentValue) (legs : Legs) → (equip e legs).0 ≡ map (equipped e) legs
equip_is e [] = refl
equip_is e (leg ∷ legs) = refl

pub retime_is : (lines : List LegLine) (legs : Legs)
    → ((retime lines legs).0 ≡ legs) ⊎ ((retime lines legs).0 ≡ with_lines lines legs)
retime_is lines [] = inl refl
retime_is lines (leg ∷ legs) = by (have_legs (leg ∷ legs) lines) refl
  where
    by : (b : Bool) → have_legs (leg ∷ legs) lines ≡ b
        → ((retime lines (leg ∷ legs)).0 ≡ leg ∷ legs)
        ⊎ ((retime lines (leg ∷ legs)).0 ≡ with_lines lines (leg ∷ legs))
    by true e = inr (rw e refl)
    by false e = inl (rw e refl)
