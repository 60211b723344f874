-- Legs that get the times of a leg line, or an equipment, have them.
use Rattle.std.proofs.Common.{◌≡◌, ◌≤◌, ◌∙◌, ◌-◌, ℕ, true, List, [], ◌∷◌, ◌++◌, length, sym, ap, arith}
use Rattle.std.proofs.Common.{bytes_eq, lit<, lit≤, append-nil, take_all}
use Rattle.std.specs.Prelude.{slice_range}
use Rattle.std.specs.List.{concat, list_all}
use Rattle.std.proofs.lemmas.Bool.{and_parts}
use Rattle.std.proofs.lemmas.Bool.Decides.{nat_tests}
use Rattle.std.proofs.lemmas.Slice.Eq.{bytes_eq-Decides}
use Rattle.ssim_values.specs.Characters.{is_letter}
use Rattle.ssim_values.specs.Clock.{clock_text}
use Rattle.ssim_columns.specs.Leg.{leg_columns}
use Rattle.ssim_columns.specs.LegParts as leg
use Rattle.ssim_columns.specs.LegParts.{date_variations, with_times}
use Rattle.ssim_columns.specs.declared.leg.leg_parts.LegTimes.{LegTimes}
use Rattle.ssim_columns.proofs.lemmas.OwnColumns.{own_middle, own_service, own_tail}
use Rattle.ssim_columns.proofs.lemmas.Overlay.{slice_cut}
use Rattle.ssim_text.specs.Bytes.{is_alphanumeric, is_printable}
use Rattle.ssim_text.specs.Grammar.{IsEquipment, IsLegLine}
use Rattle.ssim_text.specs.Left.{without_end}
use Rattle.ssim_text.specs.Values.{EquipmentValue}
use Rattle.ssim_text.specs.declared.leg.LegLine.{LegLine}
use Rattle.ssim_text.proofs.EquipmentAgain.{equipment_bounded}
use Rattle.ssim_text.proofs.LinesKept.{all_more}
use Rattle.ssim_text.proofs.Words.{alphanumeric_solid, is_solid, solid_printable}
use Rattle.ssim_base.specs.Timetable.{LegValue}
use Rattle.ssim_schedule.specs.Effect.{fits}
use Rattle.ssim_schedule.specs.MessageColumns.{equipment_of, times_of}
use Rattle.ssim_outbox.specs.internal.ColumnLines.{HasEquipment, HasLine}
use Rattle.ssim_outbox.proofs.Columns.{arrival_timed, departure_timed, equipment_changed}
use Rattle.ssim_outbox.proofs.Columns.{middle_timed, tail_timed, times_changed}
use Rattle.ssim_outbox.proofs.FilledColumns.{carried_same, filled_same, solid_filled}

-- ---- times

-- a leg that gets the times of a line that fits it
pub retimed_has : (line : LegLine) (leg : LegValue) → IsLegLine line → length leg.columns ≡ 158
    → fits line leg ≡ true → HasLine line (with_times (times_of line) leg.columns)
retimed_has line leg is len fit =
    let t = times_of line in
    let d = leg.columns in
    let c = times_changed t d len in
    let p = and_parts (bytes_eq (leg_columns 37 39 d) line.departure.station)
    (bytes_eq (leg_columns 55 57 d) line.arrival.station) fit in
    record {
      is_line = is;
      departure = departure_timed t d len
          ∙ (bytes_eq-Decides (leg_columns 37 39 d) line.departure.station).0 p.0;
      passenger_departure = c.passenger_departure;
      aircraft_departure = c.aircraft_departure;
      arrival = arrival_timed t d len
          ∙ (bytes_eq-Decides (leg_columns 55 57 d) line.arrival.station).0 p.1;
      aircraft_arrival = c.aircraft_arrival;
      passenger_arrival = c.passenger_arrival;
      variations = c.date_variations;
    }

-- ---- times that are the same already

-- the columns have these times
pub record HasTimes (t : LegTimes) (d : List ℕ) : Type 0 where
  pub passenger_departure : leg_columns 40 43 d ≡ clock_text t.passenger_departure
  pub aircraft_departure : leg_columns 44 47 d ≡ clock_text t.aircraft_departure
  pub aircraft_arrival : leg_columns 58 61 d ≡ clock_text t.aircraft_arrival
  pub passenger_arrival : leg_columns 62 65 d ≡ clock_text t.passenger_arrival
  pub variations : leg_columns 193 194 d ≡ date_variations t

-- a leg's columns in parts, of which five are the times
cut_columns : (d : List ℕ) → length d ≡ 158
    → concat (slice_range d 0 1
    ∷ slice_range d 1 4
    ∷ slice_range d 4 8
    ∷ slice_range d 8 12
    ∷ slice_range d 12 22
    ∷ slice_range d 22 26
    ∷ slice_range d 26 30
    ∷ slice_range d 30 92
    ∷ slice_range d 92 156
    ∷ slice_range d 156 158
    ∷ []) ≡ d
cut_columns d len =
    sym (slice_cut d 0 1 158 (lit≤ tt) (lit≤ tt)
    ∙ ap (λ (x : List ℕ). slice_range d 0 1 ++ x) (slice_cut d 1 4 158 (lit≤ tt) (lit≤ tt)
    ∙ ap (λ (x : List ℕ). slice_range d 1 4 ++ x) (slice_cut d 4 8 158 (lit≤ tt) (lit≤ tt)
    ∙ ap (λ (x : List ℕ). slice_range d 4 8 ++ x) (slice_cut d 8 12 158 (lit≤ tt) (lit≤ tt)
    ∙ ap (λ (x : List ℕ). slice_range d 8 12 ++ x) (slice_cut d 12 22 158 (lit≤ tt) (lit≤ tt)
    ∙ ap (λ (x : List ℕ). slice_range d 12 22 ++ x) (slice_cut d 22 26 158 (lit≤ tt) (lit≤ tt)
    ∙ ap (λ (x : List ℕ). slice_range d 22 26 ++ x) (slice_cut d 26 30 158 (lit≤ tt) (lit≤ tt)
    ∙ ap (λ (x : List ℕ). slice_range d 26 30 ++ x) (slice_cut d 30 92 158 (lit≤ tt) (lit≤ tt)
    ∙ ap (λ (x : List ℕ). slice_range d 30 92 ++ x) (slice_cut d 92 156 158 (lit≤ tt) (lit≤ tt)
    ∙ ap (λ (x : List ℕ). slice_range d 92 156 ++ x)
    (sym (append-nil (slice_range d 156 158))))))))))))
    ∙ take_all 158 d (omega (arith, len))

pub times_kept : (t : LegTimes) (d : List ℕ) → length d ≡ 158 → HasTimes t d → with_times t d ≡ d
unfolding with_times
times_kept t d len h =
    let middle : (first last : ℕ) → 37 ≤ first → first ≤ last → last ≤ 127
    → leg_columns first last d ≡ slice_range d (first - 36) (last - 35) =
    λ first last low le high. sym (own_middle d first last len low le high) in
    let tail : (first last : ℕ) → 129 ≤ first → first ≤ last → last ≤ 194
    → leg_columns first last d ≡ slice_range d (first - 37) (last - 36) =
    λ first last low le high. sym (own_tail d first last len low le high) in
    let one = sym (own_service d len) in
    let two = middle 37 39 (lit≤ tt) (lit≤ tt) (lit≤ tt) in
    let three = sym h.passenger_departure ∙ middle 40 43 (lit≤ tt) (lit≤ tt) (lit≤ tt) in
    let four = sym h.aircraft_departure ∙ middle 44 47 (lit≤ tt) (lit≤ tt) (lit≤ tt) in
    let five = middle 48 57 (lit≤ tt) (lit≤ tt) (lit≤ tt) in
    let six = sym h.aircraft_arrival ∙ middle 58 61 (lit≤ tt) (lit≤ tt) (lit≤ tt) in
    let seven = sym h.passenger_arrival ∙ middle 62 65 (lit≤ tt) (lit≤ tt) (lit≤ tt) in
    let eight = middle 66 127 (lit≤ tt) (lit≤ tt) (lit≤ tt) in
    let nine = tail 129 192 (lit≤ tt) (lit≤ tt) (lit≤ tt) in
    let ten = sym h.variations ∙ tail 193 194 (lit≤ tt) (lit≤ tt) (lit≤ tt) in
    (λ i. concat (one i
    ∷ two i
    ∷ three i
    ∷ four i
    ∷ five i
    ∷ six i
    ∷ seven i
    ∷ eight i
    ∷ nine i
    ∷ ten i
    ∷ []))
    ∙ cut_columns d len

-- ---- equipment

letter_solid : (b : ℕ) → is_letter b ≡ true → is_solid b ≡ true
letter_solid b h = grind (arith, nat_tests)

pub equipped_has : (e : EquipmentValue) (d : List ℕ) → IsEquipment e → length d ≡ 158
    → HasEquipment e (leg.with_equipment (equipment_of e) d)
equipped_has e d is len =
    let c = equipment_changed (equipment_of e) d len in
    let b = equipment_bounded e is.line is.spells in
    let solid = λ (text : List ℕ) (h : list_all is_alphanumeric text ≡ true).
    all_more is_alphanumeric is_solid alphanumeric_solid text h in
    record {
      service = c.service_type
          ∙ ap (λ (x : ℕ). x ∷ [])
          (carried_same e.service (solid_printable e.service (letter_solid e.service b.service)));
      aircraft = c.aircraft_type
          ∙ filled_same 3 e.aircraft b.aircraft_three
          (all_more is_solid is_printable solid_printable e.aircraft (solid e.aircraft b.aircraft));
      designators = ap without_end c.booking_designators
          ∙ solid_filled 20 e.designators b.designators_few
          (all_more is_letter is_solid letter_solid e.designators b.designators);
      configuration = ap without_end c.configuration
          ∙ solid_filled 20 e.configuration b.configuration_few
          (solid e.configuration b.configuration);
    }

pub timed_keeps : (e : EquipmentValue) (t : LegTimes) (d : List ℕ) → length d ≡ 158
    → HasEquipment e d → HasEquipment e (with_times t d)
timed_keeps e t d len h =
    record {
      service = (times_changed t d len).column_14 ∙ h.service;
      aircraft = middle_timed t d len 73 75 (lit< tt) (lit≤ tt) (lit≤ tt) ∙ h.aircraft;
      designators = ap without_end (middle_timed t d len 76 95 (lit< tt) (lit≤ tt) (lit≤ tt))
          ∙ h.designators;
      configuration = ap without_end (tail_timed t d len 173 192 (lit< tt) (lit≤ tt) (lit≤ tt))
          ∙ h.configuration;
    }
