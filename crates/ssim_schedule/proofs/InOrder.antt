-- A sub-message keeps the legs of each date in order: new legs are numbered from 1, and changed
-- ones keep their sequence.
use Rattle.std.proofs.Common.{◌≡◌, ◌≤◌, ◌<◌, ℕ, zero, suc, ◌+◌, Bool, true, false, ◌&&◌, nat_eq, if◌then◌else◌, List, [], ◌∷◌, length, map, Option, Some, None, IfSome, refl, sym, ap, subst, ◌∙◌, arith}
use Rattle.ssim_values.specs.Flight.{FlightNumber, IsFlight}
use Rattle.ssim_values.specs.Period.{DayRange}
use Rattle.ssim_values.specs.Variation.{Offset}
use Rattle.ssim_periods.specs.Calendar.{day_count, holds}
use Rattle.ssim_text.specs.Values.{EquipmentValue}
use Rattle.ssim_text.specs.declared.leg.LegLine.{LegLine}
use Rattle.ssim_text.specs.declared.action.NewLegs.{NewLegs}
use Rattle.ssim_text.specs.declared.action.Action.{Action}
use Rattle.ssim_text.specs.declared.action.Action.TheVariants.{New, Cnl, Rpl, Eqt, Tim}
use Rattle.ssim_schedule.specs.clauses.Acts.{acted_on, after_sub, changed_by, lines_of}
use Rattle.ssim_schedule.specs.Acts.{after_on, itinerary_after}
use Rattle.ssim_schedule.specs.Effect.{Outcome, Variations, act_or, equipped, fits, have_legs, joined, leg_at, legs_from, outcome, retimed, variation_on, with_line, with_lines}
use Rattle.ssim_base.specs.ReadBack.{AreInOrder, IsTimetable, place_of}
use Rattle.ssim_schedule.specs.internal.Table.{Table, table_days}
use Rattle.ssim_base.specs.Stations.{Row}
use Rattle.ssim_base.specs.Timetable.{Above, Days, Legs, on_day, same_flight}
use Rattle.ssim_schedule.specs.declared.finding.Reason.{Reason}
use Rattle.ssim_schedule.specs.declared.finding.Reason.TheVariants.{Acted, Leg, Station}
use Rattle.ssim_base.proofs.Places.{same_flight-place}

-- equal days are in order
order-same : (days others : FlightNumber → Days) → ((g : FlightNumber) → IsFlight g → days g ≡ others g) → AreInOrder others → AreInOrder days
order-same days others same order = λ g n exists within. subst (λ (ds : Days). Above 0 (on_day ds n)) (sym (same g exists)) (order g n exists within)

pub timetable-same : (days others : FlightNumber → Days) → ((g : FlightNumber) → IsFlight g → days g ≡ others g) → IsTimetable others → IsTimetable days
timetable-same days others same is = record {
  each_day = λ g exists. ap length (same g exists) ∙ is.each_day g exists;
  rising = order-same days others same is.rising;
}

-- ---- new legs

joined-above : (i : ℕ) (line : LegLine) (new : NewLegs) (here there : Option Offset) (later : Option Legs) → i < 99 → IfSome later (Above (i + 1)) → IfSome (joined (leg_at here there i line new) later) (Above i)
joined-above i line new None there later few h = tt
joined-above i line new (Some here) None later few h = tt
joined-above i line new (Some here) (Some there) None few h = tt
joined-above i line new (Some here) (Some there) (Some legs) few h = (omega arith, omega arith, h)

legs-above : (v : Variations) (new : NewLegs) (i : ℕ) (lines : List LegLine) → i + length lines ≤ 99 → IfSome (legs_from v new i lines) (Above i)
legs-above v new i [] few = tt
legs-above v new i (line ∷ lines) few =
    joined-above i line new (v line.departure.station) (v line.arrival.station) (legs_from v new (i + 1) lines) (omega arith) (legs-above v new (i + 1) lines (omega arith))

-- ---- changed legs

equipped-above : (equipment : EquipmentValue) (n : ℕ) (legs : Legs) → Above n legs → Above n (map (equipped equipment) legs)
equipped-above equipment n [] h = tt
equipped-above equipment n (leg ∷ legs) h = (h.0, h.1, equipped-above equipment leg.sequence legs h.2)

line-above : (line : LegLine) (n : ℕ) (legs : Legs) → Above n legs → Above n (with_line line legs)
line-above line n [] h = tt
line-above line n (leg ∷ legs) h =
    elim (fits line leg) as (λ b. Above n (if b then retimed line leg ∷ legs else leg ∷ with_line line legs)) [
      | true ↦ h
      | false ↦ (h.0, h.1, line-above line leg.sequence legs h.2)
    ]

lines-above : (lines : List LegLine) (n : ℕ) (legs : Legs) → Above n legs → Above n (with_lines lines legs)
lines-above [] n legs h = h
lines-above (line ∷ lines) n legs h = lines-above lines n (with_line line legs) (line-above line n legs h)

-- ---- the effect on a date

act-above : (reason : Reason) (old : Legs) (made : Option Legs) → Above 0 old → IfSome made (Above 0) → Above 0 (act_or reason old made).0
act-above reason old None h made = h
act-above reason old (Some new) h made = made

either-above : (b : Bool) (one other : Outcome) → Above 0 one.0 → Above 0 other.0 → Above 0 (if b then one else other).0
either-above true one other h k = h
either-above false one other h k = k

effect-above : (v : Variations) (action : Action) (old : Legs) → length (lines_of action) ≤ 20 → Above 0 old → Above 0 (outcome v action old).0
effect-above v (New new) [] few h = act-above Station [] (legs_from v new 0 new.legs) h (legs-above v new 0 new.legs (omega arith))
effect-above v (New new) (leg ∷ legs) few h = h
effect-above v Cnl [] few h = tt
effect-above v Cnl (leg ∷ legs) few h = tt
effect-above v (Rpl new) [] few h = tt
effect-above v (Rpl new) (leg ∷ legs) few h = act-above Station (leg ∷ legs) (legs_from v new 0 new.legs) h (legs-above v new 0 new.legs (omega arith))
effect-above v (Eqt equipment) [] few h = tt
effect-above v (Eqt equipment) (leg ∷ legs) few h = equipped-above equipment 0 (leg ∷ legs) h
effect-above v (Tim lines) [] few h = tt
effect-above v (Tim lines) (leg ∷ legs) few h =
    either-above (have_legs (leg ∷ legs) lines) (with_lines lines (leg ∷ legs), Acted) (leg ∷ legs, Leg) (lines-above lines 0 (leg ∷ legs) h) h

-- ---- the dates of a period

days-above : (s : ℕ → Bool) (after : ℕ → Legs → Legs) → ((day : ℕ) (old : Legs) → Above 0 old → Above 0 (after day old)) → (first n : ℕ) (days : Days) → Above 0 (on_day days n) → Above 0 (on_day (changed_by s after first days) n)
days-above s after keeps first n [] h = h
days-above s after keeps first zero (old ∷ days) h =
    elim (s first) as (λ b. Above 0 (if b then after first old else old)) [
      | true ↦ keeps first old h
      | false ↦ h
    ]
days-above s after keeps first (suc n) (old ∷ days) h = days-above s after keeps (first + 1) n days h

order-kept : (rows : List Row) (action : Action) (flight : FlightNumber) (period : DayRange) (old : Table) → length (lines_of action) ≤ 20
    → AreInOrder (table_days old) → AreInOrder (after_sub rows action flight period (table_days old))
order-kept rows action flight period old few order g n exists within =
    elim (nat_eq (place_of flight) (place_of g)) as (λ b. Above 0 (on_day (if b then acted_on rows action period (table_days old g) else table_days old g) n)) [
      | true ↦ days-above (holds period) (after_on rows action) (λ day legs h. effect-above (variation_on rows day) action legs few h) 0 n (table_days old g) (order g n exists within)
      | false ↦ order g n exists within
    ]

-- no date is added or lost
length-changed : (s : ℕ → Bool) (after : ℕ → Legs → Legs) (n : ℕ) (days : Days) → length (changed_by s after n days) ≡ length days
length-changed s after n [] = refl
length-changed s after n (old ∷ days) = ap suc (length-changed s after (n + 1) days)

length-after : (rows : List Row) (action : Action) (flight : FlightNumber) (period : DayRange) (old : Table) (g : FlightNumber) → length (after_sub rows action flight period (table_days old) g) ≡ length (table_days old g)
length-after rows action flight period old g =
    elim (nat_eq (place_of flight) (place_of g)) as (λ b. length (if b then acted_on rows action period (table_days old g) else table_days old g) ≡ length (table_days old g)) [
      | true ↦ length-changed (holds period) (after_on rows action) 0 (table_days old g)
      | false ↦ refl
    ]

pub timetable-kept : (rows : List Row) (action : Action) (flight : FlightNumber) (period : DayRange) (old new : Table) → length (lines_of action) ≤ 20
    → ((g : FlightNumber) → table_days new g ≡ after_sub rows action flight period (table_days old) g) → IsTimetable (table_days old) → IsTimetable (table_days new)
timetable-kept rows action flight period old new few days was =
    timetable-same (table_days new) (after_sub rows action flight period (table_days old)) (λ g exists. days g) (record {
      each_day = λ g exists. length-after rows action flight period old g ∙ was.each_day g exists;
      rising = order-kept rows action flight period old few was.rising;
    })

-- ---- one date

changed-at : (s : ℕ → Bool) (after : ℕ → Legs → Legs) (first n : ℕ) (days : Days) → n < length days
    → on_day (changed_by s after first days) n ≡ (if s (first + n) then after (first + n) (on_day days n) else on_day days n)
changed-at s after first n [] within = absurd (omega (arith, within))
changed-at s after first zero (old ∷ days) within =
    let same : first ≡ first + 0 = omega arith in
    ap (λ d. if s d then after d old else old) same
changed-at s after first (suc n) (old ∷ days) within =
    let same : (first + 1) + n ≡ first + suc n = omega arith in
    changed-at s after (first + 1) n days (omega (arith, within)) ∙ ap (λ d. if s d then after d (on_day days n) else on_day days n) same

-- the itinerary of a date is the effect on it, if the sub-message names the flight and its period
-- holds the date
pub date_after : (rows : List Row) (action : Action) (flight : FlightNumber) (period : DayRange) (old new : Table) → IsFlight flight
    → ((g : FlightNumber) → table_days new g ≡ after_sub rows action flight period (table_days old) g) → IsTimetable (table_days old)
    → (g : FlightNumber) (n : ℕ) → IsFlight g → n < day_count → on_day (table_days new g) n ≡ itinerary_after rows action flight period g n (on_day (table_days old g) n)
date_after rows action flight period old new is days was g n exists within =
    ap (λ ds. on_day ds n) (days g)
    ∙ ap (λ b. on_day (if b then acted_on rows action period (table_days old g) else table_days old g) n) (sym (same_flight-place flight g is exists))
    ∙ by (same_flight flight g)
  where
    by : (b : Bool) → on_day (if b then acted_on rows action period (table_days old g) else table_days old g) n
        ≡ (if b && holds period n then after_on rows action n (on_day (table_days old g) n) else on_day (table_days old g) n)
    by true =
        let same : 0 + n ≡ n = omega arith in
        subst (λ d. on_day (acted_on rows action period (table_days old g)) n ≡ (if holds period d then after_on rows action d (on_day (table_days old g) n) else on_day (table_days old g) n)) same
        (changed-at (holds period) (after_on rows action) 0 n (table_days old g) (subst (λ (l : ℕ). n < l) (sym (was.each_day g exists)) within))
    by false = refl
