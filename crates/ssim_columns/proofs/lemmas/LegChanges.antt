-- Times and equipment land in their columns of a leg, the other columns stay, and the result is
-- valid.
use Rattle.std.proofs.Common.{◌≡◌, ◌≤◌, ◌<◌, ◌+◌, ◌-◌, ℕ, List, [], ◌∷◌, length, None, refl, sym, subst, ap, ◌∙◌, lit<, lit≤, IsTrue}
use Rattle.std.specs.Prelude.{slice_range, replicate}
use Rattle.std.specs.List.{list_all, AllZip}
use Rattle.ssim_values.specs.Station.{is_station}
use Rattle.ssim_values.specs.Clock.{clock_text}
use Rattle.ssim_values.specs.Variation.{variation_text}
use Rattle.ssim_columns.specs.declared.field.FieldKind.TheVariants.{Carried, StationCode, Time, PassengerTime, UtcVariation}
use Rattle.ssim_columns.specs.declared.leg.leg_parts.LegStations.{LegStations}
use Rattle.ssim_columns.specs.declared.leg.leg_parts.LegTimes.{LegTimes}
use Rattle.ssim_columns.specs.Columns.{columns, fault_in, filled, is_carried}
use Rattle.ssim_columns.specs.Leg.{AreLegColumns, leg_columns, spread}
use Rattle.ssim_columns.specs.clauses.LegParts.{AreTimes, ChangesEquipment, ChangesTimes}
use Rattle.ssim_columns.specs.LegParts.{EquipmentFields, date_variations, station_columns}
use Rattle.ssim_columns.specs.LegParts.{with_equipment, with_times}
use Rattle.ssim_columns.proofs.lemmas.CarriedTexts.{carried_append, carried_within, filled_carried, length_station, passenger_stands, station_stands, time_stands, two_carried, variation_stands}
use Rattle.ssim_columns.proofs.lemmas.Overlay.{Fit, Write, all_lie, glued, length_written, slice_cut, stays, written}
use Rattle.ssim_columns.proofs.lemmas.OwnColumns.{own_middle, own_service, own_tail}
use Rattle.ssim_columns.proofs.lemmas.Places.{Placed, all_placed, length_concat}
use Rattle.ssim_columns.proofs.lemmas.Rows.{all_carried, none_other, same_columns}

-- ---- what the times change

abbrev pub time_writes : LegTimes → List Write
time_writes t =
    (4, 4, clock_text t.passenger_departure)
    ∷ (8, 4, clock_text t.aircraft_departure)
    ∷ (22, 4, clock_text t.aircraft_arrival)
    ∷ (26, 4, clock_text t.passenger_arrival)
    ∷ (156, 2, date_variations t)
    ∷ []

abbrev time_widths : List ℕ
time_widths = 1 ∷ 3 ∷ 4 ∷ 4 ∷ 10 ∷ 4 ∷ 4 ∷ 62 ∷ 64 ∷ 2 ∷ []

abbrev time_rows : LegTimes → List ℕ → List (List ℕ)
time_rows t d =
    leg_columns 14 14 d
    ∷ leg_columns 37 39 d
    ∷ clock_text t.passenger_departure
    ∷ clock_text t.aircraft_departure
    ∷ leg_columns 48 57 d
    ∷ clock_text t.aircraft_arrival
    ∷ clock_text t.passenger_arrival
    ∷ leg_columns 66 127 d
    ∷ leg_columns 129 192 d
    ∷ date_variations t
    ∷ []

times_fit : (t : LegTimes) → Fit 158 (time_writes t)
times_fit t = (refl, lit≤ tt, (refl, lit≤ tt, (refl, lit≤ tt, (refl, lit≤ tt, (refl, lit≤ tt, tt)))))

times_placed : (t : LegTimes) (d : List ℕ) → length d ≡ 158 → Placed 0 time_widths (time_rows t d) (written (time_writes t) d)
times_placed t d len =
    let keep = stays 158 (time_writes t) d len (times_fit t) in
    let new = all_lie 158 (time_writes t) d len (times_fit t) refl in (
      keep 0 1 (lit≤ tt) refl ∙ own_service d len,
      (
        keep 1 4 (lit≤ tt) refl ∙ own_middle d 37 39 len (lit≤ tt) (lit≤ tt) (lit≤ tt),
        (
          new.0,
          (
            new.1.0,
            (
              keep 12 22 (lit≤ tt) refl ∙ own_middle d 48 57 len (lit≤ tt) (lit≤ tt) (lit≤ tt),
              (
                new.1.1.0,
                (
                  new.1.1.1.0,
                  (
                    keep 30 92 (lit≤ tt) refl ∙ own_middle d 66 127 len (lit≤ tt) (lit≤ tt) (lit≤ tt),
                    (keep 92 156 (lit≤ tt) refl ∙ own_tail d 129 192 len (lit≤ tt) (lit≤ tt) (lit≤ tt), (new.1.1.1.1.0, tt)),
                  ),
                ),
              ),
            ),
          ),
        ),
      ),
    )

pub times_written : (t : LegTimes) (d : List ℕ) → length d ≡ 158 → written (time_writes t) d ≡ with_times t d
unfolding with_times
times_written t d len =
    glued time_widths (time_rows t d) (written (time_writes t) d) (times_placed t d len) refl (length_written 158 (time_writes t) d len (times_fit t))

pub times_change : (t : LegTimes) (d : List ℕ) → length d ≡ 158 → ChangesTimes t d (written (time_writes t) d)
times_change t d len =
    let x = written (time_writes t) d in
    let n : length x ≡ 158 = length_written 158 (time_writes t) d len (times_fit t) in
    let p = times_placed t d len in
    record {
      column_14 = sym (own_service x n) ∙ p.0;
      columns_37_to_39 = sym (own_middle x 37 39 n (lit≤ tt) (lit≤ tt) (lit≤ tt)) ∙ p.1.0;
      passenger_departure = sym (own_middle x 40 43 n (lit≤ tt) (lit≤ tt) (lit≤ tt)) ∙ p.1.1.0;
      aircraft_departure = sym (own_middle x 44 47 n (lit≤ tt) (lit≤ tt) (lit≤ tt)) ∙ p.1.1.1.0;
      columns_48_to_57 = sym (own_middle x 48 57 n (lit≤ tt) (lit≤ tt) (lit≤ tt)) ∙ p.1.1.1.1.0;
      aircraft_arrival = sym (own_middle x 58 61 n (lit≤ tt) (lit≤ tt) (lit≤ tt)) ∙ p.1.1.1.1.1.0;
      passenger_arrival = sym (own_middle x 62 65 n (lit≤ tt) (lit≤ tt) (lit≤ tt)) ∙ p.1.1.1.1.1.1.0;
      columns_66_to_127 = sym (own_middle x 66 127 n (lit≤ tt) (lit≤ tt) (lit≤ tt)) ∙ p.1.1.1.1.1.1.1.0;
      columns_129_to_192 = sym (own_tail x 129 192 n (lit≤ tt) (lit≤ tt) (lit≤ tt)) ∙ p.1.1.1.1.1.1.1.1.0;
      date_variations = sym (own_tail x 193 194 n (lit≤ tt) (lit≤ tt) (lit≤ tt)) ∙ p.1.1.1.1.1.1.1.1.1.0;
    }

-- ---- what the equipment changes

abbrev pub equipment_writes : EquipmentFields → List Write
equipment_writes e =
    (0, 1, filled 1 (e.service_type ∷ []))
    ∷ (37, 3, filled 3 e.aircraft_type)
    ∷ (40, 20, filled 20 e.booking_designators)
    ∷ (136, 20, filled 20 e.configuration)
    ∷ []

abbrev equipment_widths : List ℕ
equipment_widths = 1 ∷ 36 ∷ 3 ∷ 20 ∷ 32 ∷ 44 ∷ 20 ∷ 2 ∷ []

abbrev equipment_rows : EquipmentFields → List ℕ → List (List ℕ)
equipment_rows e d =
    filled 1 (e.service_type ∷ [])
    ∷ leg_columns 37 72 d
    ∷ filled 3 e.aircraft_type
    ∷ filled 20 e.booking_designators
    ∷ leg_columns 96 127 d
    ∷ leg_columns 129 172 d
    ∷ filled 20 e.configuration
    ∷ leg_columns 193 194 d
    ∷ []

equipment_fits : (e : EquipmentFields) → Fit 158 (equipment_writes e)
equipment_fits e =
    ((filled_carried 1 (e.service_type ∷ [])).0, lit≤ tt, ((filled_carried 3 e.aircraft_type).0, lit≤ tt, ((filled_carried 20 e.booking_designators).0, lit≤ tt, ((filled_carried 20 e.configuration).0, lit≤ tt, tt))))

equipment_placed : (e : EquipmentFields) (d : List ℕ) → length d ≡ 158 → Placed 0 equipment_widths (equipment_rows e d) (written (equipment_writes e) d)
equipment_placed e d len =
    let keep = stays 158 (equipment_writes e) d len (equipment_fits e) in
    let new = all_lie 158 (equipment_writes e) d len (equipment_fits e) refl in (
      new.0,
      (
        keep 1 37 (lit≤ tt) refl ∙ own_middle d 37 72 len (lit≤ tt) (lit≤ tt) (lit≤ tt),
        (
          new.1.0,
          (
            new.1.1.0,
            (
              keep 60 92 (lit≤ tt) refl ∙ own_middle d 96 127 len (lit≤ tt) (lit≤ tt) (lit≤ tt),
              (
                keep 92 136 (lit≤ tt) refl ∙ own_tail d 129 172 len (lit≤ tt) (lit≤ tt) (lit≤ tt),
                (new.1.1.1.0, (keep 156 158 (lit≤ tt) refl ∙ own_tail d 193 194 len (lit≤ tt) (lit≤ tt) (lit≤ tt), tt)),
              ),
            ),
          ),
        ),
      ),
    )

pub equipment_written : (e : EquipmentFields) (d : List ℕ) → length d ≡ 158 → written (equipment_writes e) d ≡ with_equipment e d
unfolding with_equipment
equipment_written e d len =
    glued equipment_widths (equipment_rows e d) (written (equipment_writes e) d) (equipment_placed e d len) refl (length_written 158 (equipment_writes e) d len (equipment_fits e))

pub equipment_changes : (e : EquipmentFields) (d : List ℕ) → length d ≡ 158 → ChangesEquipment e d (written (equipment_writes e) d)
equipment_changes e d len =
    let x = written (equipment_writes e) d in
    let n : length x ≡ 158 = length_written 158 (equipment_writes e) d len (equipment_fits e) in
    let p = equipment_placed e d len in
    record {
      service_type = sym (own_service x n) ∙ p.0;
      columns_37_to_72 = sym (own_middle x 37 72 n (lit≤ tt) (lit≤ tt) (lit≤ tt)) ∙ p.1.0;
      aircraft_type = sym (own_middle x 73 75 n (lit≤ tt) (lit≤ tt) (lit≤ tt)) ∙ p.1.1.0;
      booking_designators = sym (own_middle x 76 95 n (lit≤ tt) (lit≤ tt) (lit≤ tt)) ∙ p.1.1.1.0;
      columns_96_to_127 = sym (own_middle x 96 127 n (lit≤ tt) (lit≤ tt) (lit≤ tt)) ∙ p.1.1.1.1.0;
      columns_129_to_172 = sym (own_tail x 129 172 n (lit≤ tt) (lit≤ tt) (lit≤ tt)) ∙ p.1.1.1.1.1.0;
      configuration = sym (own_tail x 173 192 n (lit≤ tt) (lit≤ tt) (lit≤ tt)) ∙ p.1.1.1.1.1.1.0;
      columns_193_to_194 = sym (own_tail x 193 194 n (lit≤ tt) (lit≤ tt) (lit≤ tt)) ∙ p.1.1.1.1.1.1.1.0;
    }

-- ---- valid columns

-- columns that are valid except for their times
pub record AreBesideTimes (d : List ℕ) : Type 0 where
  pub service : fault_in Carried (leg_columns 14 14 d) ≡ None
  pub departure : fault_in StationCode (leg_columns 37 39 d) ≡ None
  pub departure_variation : fault_in UtcVariation (leg_columns 48 52 d) ≡ None
  pub departure_terminal : fault_in Carried (leg_columns 53 54 d) ≡ None
  pub arrival : fault_in StationCode (leg_columns 55 57 d) ≡ None
  pub arrival_variation : fault_in UtcVariation (leg_columns 66 70 d) ≡ None
  pub columns_71_to_127 : fault_in Carried (leg_columns 71 127 d) ≡ None
  pub columns_129_to_192 : IsTrue (list_all is_carried (leg_columns 129 192 d))

pub beside_times : (d : List ℕ) → AreLegColumns d → AreBesideTimes d
beside_times d h =
    let m = h.valid.1 in
    let last : IsTrue (list_all is_carried (leg_columns 129 194 d)) = all_carried 0 (leg_columns 129 194 d) m.1.1.1.1.1.1.1.1.1.1.0 in
    record {
      service = h.valid.0;
      departure = m.0;
      departure_variation = m.1.1.1.0;
      departure_terminal = m.1.1.1.1.0;
      arrival = m.1.1.1.1.1.0;
      arrival_variation = m.1.1.1.1.1.1.1.1.0;
      columns_71_to_127 = m.1.1.1.1.1.1.1.1.1.0;
      columns_129_to_192 = carried_within (spread d) 128 194 0 64 (lit≤ tt) (lit≤ tt) last;
    }

pub times_stand : (t : LegTimes) (d x : List ℕ) → AreTimes t → AreBesideTimes d → length x ≡ 158 → ChangesTimes t d x → AreLegColumns x
times_stand t d x ok h n c =
    let a : columns 48 57 (spread x) ≡ columns 48 57 (spread d) = c.columns_48_to_57 in
    let b : columns 66 127 (spread x) ≡ columns 66 127 (spread d) = c.columns_66_to_127 in
    let variations : IsTrue (list_all is_carried (leg_columns 193 194 x)) = subst (λ (z : List ℕ). IsTrue (list_all is_carried z)) (sym c.date_variations) (two_carried t.departure_date_variation t.arrival_date_variation).1 in
    let before : IsTrue (list_all is_carried (leg_columns 129 192 x)) = subst (λ (z : List ℕ). IsTrue (list_all is_carried z)) (sym c.columns_129_to_192) h.columns_129_to_192 in
    let last : IsTrue (list_all is_carried (leg_columns 129 194 x)) =
    subst (λ (z : List ℕ). IsTrue (list_all is_carried z)) (sym (slice_cut (spread x) 128 192 194 (lit≤ tt) (lit≤ tt))) (carried_append (leg_columns 129 192 x) (leg_columns 193 194 x) before variations) in
    record {
      len = n;
      valid = (
        ap (fault_in Carried) c.column_14 ∙ h.service,
        (
          ap (fault_in StationCode) c.columns_37_to_39 ∙ h.departure,
          (
            ap (fault_in PassengerTime) c.passenger_departure ∙ passenger_stands t.passenger_departure ok.passenger_departure,
            (
              ap (fault_in Time) c.aircraft_departure ∙ time_stands t.aircraft_departure ok.aircraft_departure,
              (
                ap (fault_in UtcVariation) (same_columns (spread x) (spread d) 47 57 48 52 a (lit< tt) (lit≤ tt) (lit≤ tt)) ∙ h.departure_variation,
                (
                  ap (fault_in Carried) (same_columns (spread x) (spread d) 47 57 53 54 a (lit< tt) (lit≤ tt) (lit≤ tt)) ∙ h.departure_terminal,
                  (
                    ap (fault_in StationCode) (same_columns (spread x) (spread d) 47 57 55 57 a (lit< tt) (lit≤ tt) (lit≤ tt)) ∙ h.arrival,
                    (
                      ap (fault_in Time) c.aircraft_arrival ∙ time_stands t.aircraft_arrival ok.aircraft_arrival,
                      (
                        ap (fault_in PassengerTime) c.passenger_arrival ∙ passenger_stands t.passenger_arrival ok.passenger_arrival,
                        (
                          ap (fault_in UtcVariation) (same_columns (spread x) (spread d) 65 127 66 70 b (lit< tt) (lit≤ tt) (lit≤ tt)) ∙ h.arrival_variation,
                          (
                            ap (fault_in Carried) (same_columns (spread x) (spread d) 65 127 71 127 b (lit< tt) (lit≤ tt) (lit≤ tt)) ∙ h.columns_71_to_127,
                            (none_other 0 (leg_columns 129 194 x) last, tt),
                          ),
                        ),
                      ),
                    ),
                  ),
                ),
              ),
            ),
          ),
        ),
      );
    }

-- the columns from first to last are carried if those up to a column between them and those from it
-- on are carried
carried_both : (b : List ℕ) (i j k : ℕ) → i ≤ j → j ≤ k → IsTrue (list_all is_carried (slice_range b i j)) → IsTrue (list_all is_carried (slice_range b j k)) → IsTrue (list_all is_carried (slice_range b i k))
carried_both b i j k ij jk h g =
    subst (λ (z : List ℕ). IsTrue (list_all is_carried z)) (sym (slice_cut b i j k ij jk)) (carried_append (slice_range b i j) (slice_range b j k) h g)

carried_as : (x y : List ℕ) → x ≡ y → IsTrue (list_all is_carried y) → IsTrue (list_all is_carried x)
carried_as x y e h = subst (λ (z : List ℕ). IsTrue (list_all is_carried z)) (sym e) h

pub equipment_stands : (e : EquipmentFields) (d x : List ℕ) → AreLegColumns d → length x ≡ 158 → ChangesEquipment e d x → AreLegColumns x
equipment_stands e d x h n c =
    let m = h.valid.1 in
    let a : columns 37 72 (spread x) ≡ columns 37 72 (spread d) = c.columns_37_to_72 in
    let old_middle = all_carried 0 (leg_columns 71 127 d) m.1.1.1.1.1.1.1.1.1.0 in
    let old_tail = all_carried 0 (leg_columns 129 194 d) m.1.1.1.1.1.1.1.1.1.1.0 in
    let terminal : IsTrue (list_all is_carried (slice_range (spread x) 70 72)) =
    carried_as (leg_columns 71 72 x) (leg_columns 71 72 d) (same_columns (spread x) (spread d) 36 72 71 72 a (lit< tt) (lit≤ tt) (lit≤ tt)) (carried_within (spread d) 70 127 0 2 (lit≤ tt) (lit≤ tt) old_middle) in
    let aircraft : IsTrue (list_all is_carried (slice_range (spread x) 72 75)) = carried_as (leg_columns 73 75 x) (filled 3 e.aircraft_type) c.aircraft_type (filled_carried 3 e.aircraft_type).1 in
    let designators : IsTrue (list_all is_carried (slice_range (spread x) 75 95)) = carried_as (leg_columns 76 95 x) (filled 20 e.booking_designators) c.booking_designators (filled_carried 20 e.booking_designators).1 in
    let rest : IsTrue (list_all is_carried (slice_range (spread x) 95 127)) = carried_as (leg_columns 96 127 x) (leg_columns 96 127 d) c.columns_96_to_127 (carried_within (spread d) 70 127 25 57 (lit≤ tt) (lit≤ tt) old_middle) in
    let middle : IsTrue (list_all is_carried (slice_range (spread x) 70 127)) =
    carried_both (spread x) 70 95 127 (lit≤ tt) (lit≤ tt) (carried_both (spread x) 70 75 95 (lit≤ tt) (lit≤ tt) (carried_both (spread x) 70 72 75 (lit≤ tt) (lit≤ tt) terminal aircraft) designators) rest in
    let before : IsTrue (list_all is_carried (slice_range (spread x) 128 172)) = carried_as (leg_columns 129 172 x) (leg_columns 129 172 d) c.columns_129_to_172 (carried_within (spread d) 128 194 0 44 (lit≤ tt) (lit≤ tt) old_tail) in
    let configuration : IsTrue (list_all is_carried (slice_range (spread x) 172 192)) = carried_as (leg_columns 173 192 x) (filled 20 e.configuration) c.configuration (filled_carried 20 e.configuration).1 in
    let variations : IsTrue (list_all is_carried (slice_range (spread x) 192 194)) = carried_as (leg_columns 193 194 x) (leg_columns 193 194 d) c.columns_193_to_194 (carried_within (spread d) 128 194 64 66 (lit≤ tt) (lit≤ tt) old_tail) in
    let last : IsTrue (list_all is_carried (slice_range (spread x) 128 194)) = carried_both (spread x) 128 192 194 (lit≤ tt) (lit≤ tt) (carried_both (spread x) 128 172 192 (lit≤ tt) (lit≤ tt) before configuration) variations in
    let same : (first last : ℕ) → 36 < first → first ≤ last → last ≤ 72 → leg_columns first last x ≡ leg_columns first last d = λ first last low le high. same_columns (spread x) (spread d) 36 72 first last a low le high in
    record {
      len = n;
      valid = (
        ap (fault_in Carried) c.service_type ∙ none_other 0 (filled 1 (e.service_type ∷ [])) (filled_carried 1 (e.service_type ∷ [])).1,
        (
          ap (fault_in StationCode) (same 37 39 (lit< tt) (lit≤ tt) (lit≤ tt)) ∙ m.0,
          (
            ap (fault_in PassengerTime) (same 40 43 (lit< tt) (lit≤ tt) (lit≤ tt)) ∙ m.1.0,
            (
              ap (fault_in Time) (same 44 47 (lit< tt) (lit≤ tt) (lit≤ tt)) ∙ m.1.1.0,
              (
                ap (fault_in UtcVariation) (same 48 52 (lit< tt) (lit≤ tt) (lit≤ tt)) ∙ m.1.1.1.0,
                (
                  ap (fault_in Carried) (same 53 54 (lit< tt) (lit≤ tt) (lit≤ tt)) ∙ m.1.1.1.1.0,
                  (
                    ap (fault_in StationCode) (same 55 57 (lit< tt) (lit≤ tt) (lit≤ tt)) ∙ m.1.1.1.1.1.0,
                    (
                      ap (fault_in Time) (same 58 61 (lit< tt) (lit≤ tt) (lit≤ tt)) ∙ m.1.1.1.1.1.1.0,
                      (
                        ap (fault_in PassengerTime) (same 62 65 (lit< tt) (lit≤ tt) (lit≤ tt)) ∙ m.1.1.1.1.1.1.1.0,
                        (
                          ap (fault_in UtcVariation) (same 66 70 (lit< tt) (lit≤ tt) (lit≤ tt)) ∙ m.1.1.1.1.1.1.1.1.0,
                          (none_other 0 (leg_columns 71 127 x) middle, (none_other 0 (leg_columns 129 194 x) last, tt)),
                        ),
                      ),
                    ),
                  ),
                ),
              ),
            ),
          ),
        ),
      );
    }

-- ---- a new leg

-- the parts of the columns of a new leg, and the length of each
abbrev pub station_widths : List ℕ
station_widths = 1 ∷ 3 ∷ 8 ∷ 5 ∷ 2 ∷ 3 ∷ 8 ∷ 5 ∷ 123 ∷ []

abbrev pub station_rows : LegStations → List (List ℕ)
station_rows s = (32 ∷ []) ∷ s.departure ∷ replicate 8 32 ∷ variation_text s.departure_variation ∷ replicate 2 32 ∷ s.arrival ∷ replicate 8 32 ∷ variation_text s.arrival_variation ∷ replicate 123 32 ∷ []

pub stations_long : (s : LegStations) → IsTrue (is_station s.departure)
    → IsTrue (is_station s.arrival) → AllZip (λ w p. length p ≡ w) station_widths (station_rows s)
stations_long s departure arrival = (refl, (length_station s.departure departure, (refl, (refl, (refl, (length_station s.arrival arrival, (refl, (refl, (refl, tt)))))))))

pub length_stations : (s : LegStations) → IsTrue (is_station s.departure) → IsTrue (is_station s.arrival) → length (station_columns s) ≡ 158
unfolding station_columns
length_stations s departure arrival = length_concat station_widths (station_rows s) (stations_long s departure arrival) refl

-- the blanks within the last 123 bytes
blanks_in : (d : List ℕ) (i j : ℕ) → i ≤ j → 35 + j ≤ 158 → slice_range d 35 158 ≡ replicate 123 32 → IsTrue (list_all is_carried (slice_range d (35 + i) (35 + j)))
blanks_in d i j le within e = carried_within d 35 158 i j le within (carried_as (slice_range d 35 158) (replicate 123 32) e refl)

pub stations_stand : (s : LegStations) → IsTrue (is_station s.departure) → IsTrue (is_station s.arrival) → s.departure_variation.minutes ≤ 900 → s.arrival_variation.minutes ≤ 900 → AreBesideTimes (station_columns s)
unfolding station_columns
stations_stand s departure arrival low high =
    let d = station_columns s in
    let n = length_stations s departure arrival in
    let p = all_placed station_widths (station_rows s) (stations_long s departure arrival) in
    let at : (first last : ℕ) → 37 ≤ first → first ≤ last → last ≤ 127 → (text : List ℕ) → slice_range d (first - 36) (last - 35) ≡ text → leg_columns first last d ≡ text = λ first last from le to text e. sym (own_middle d first last n from le to) ∙ e in
    let blanks = p.1.1.1.1.1.1.1.1.0 in
    let behind : IsTrue (list_all is_carried (leg_columns 71 127 d)) = carried_as (leg_columns 71 127 d) (slice_range d 35 92) (sym (own_middle d 71 127 n (lit≤ tt) (lit≤ tt) (lit≤ tt))) (blanks_in d 0 57 (lit≤ tt) (lit≤ tt) blanks) in
    record {
      service = ap (fault_in Carried) (sym (own_service d n) ∙ p.0);
      departure = ap (fault_in StationCode) (at 37 39 (lit≤ tt) (lit≤ tt) (lit≤ tt) s.departure p.1.0) ∙ station_stands s.departure departure;
      departure_variation = ap (fault_in UtcVariation) (at 48 52 (lit≤ tt) (lit≤ tt) (lit≤ tt) (variation_text s.departure_variation) p.1.1.1.0) ∙ variation_stands s.departure_variation low;
      departure_terminal = ap (fault_in Carried) (at 53 54 (lit≤ tt) (lit≤ tt) (lit≤ tt) (replicate 2 32) p.1.1.1.1.0);
      arrival = ap (fault_in StationCode) (at 55 57 (lit≤ tt) (lit≤ tt) (lit≤ tt) s.arrival p.1.1.1.1.1.0) ∙ station_stands s.arrival arrival;
      arrival_variation = ap (fault_in UtcVariation) (at 66 70 (lit≤ tt) (lit≤ tt) (lit≤ tt) (variation_text s.arrival_variation) p.1.1.1.1.1.1.1.0) ∙ variation_stands s.arrival_variation high;
      columns_71_to_127 = none_other 0 (leg_columns 71 127 d) behind;
      columns_129_to_192 = carried_as (leg_columns 129 192 d) (slice_range d 92 156) (sym (own_tail d 129 192 n (lit≤ tt) (lit≤ tt) (lit≤ tt))) (blanks_in d 57 121 (lit≤ tt) (lit≤ tt) blanks);
    }
