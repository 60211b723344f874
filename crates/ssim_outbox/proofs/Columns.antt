-- Times and equipment are in columns of their own, so each is written over without a trace of the
-- one before, the order of the two does not matter, and the stations stay.
use Rattle.std.proofs.Common.{◌≡◌, ◌≤◌, ◌<◌, ◌∙◌, ℕ, List, [], ◌∷◌, ◌++◌, length, refl, sym, ap}
use Rattle.std.proofs.Common.{subst, lit<, lit≤, IsTrue, append_assoc}
use Rattle.std.specs.Prelude.{slice_range}
use Rattle.std.specs.List.{concat}
use Rattle.ssim_values.specs.Clock.{clock_text}
use Rattle.ssim_values.specs.Station.{is_station}
use Rattle.ssim_columns.specs.Columns.{filled}
use Rattle.ssim_columns.specs.Leg.{leg_columns, spread}
use Rattle.ssim_columns.specs.clauses.LegParts.{ChangesEquipment, ChangesTimes}
use Rattle.ssim_columns.specs.LegParts.{EquipmentFields}
use Rattle.ssim_columns.specs.LegParts.{date_variations, new_leg, station_columns, with_equipment}
use Rattle.ssim_columns.specs.LegParts.{with_times}
use Rattle.ssim_columns.specs.declared.leg.leg_parts.LegStations.{LegStations}
use Rattle.ssim_columns.specs.declared.leg.leg_parts.LegTimes.{LegTimes}
use Rattle.ssim_columns.proofs.lemmas.CarriedTexts.{filled_carried}
use Rattle.ssim_columns.proofs.lemmas.LegChanges.{equipment_changes, equipment_writes}
use Rattle.ssim_columns.proofs.lemmas.LegChanges.{equipment_written, length_stations, station_rows}
use Rattle.ssim_columns.proofs.lemmas.LegChanges.{station_widths, stations_long}
use Rattle.ssim_columns.proofs.lemmas.LegChanges.{time_writes, times_change, times_written}
use Rattle.ssim_columns.proofs.lemmas.OwnColumns.{own_middle}
use Rattle.ssim_columns.proofs.lemmas.Overlay.{Fit, length_written, slice_cut}
use Rattle.ssim_columns.proofs.lemmas.Places.{all_placed}
use Rattle.ssim_columns.proofs.lemmas.Rows.{same_columns}

-- ---- what is written, and the length of it

times_fit : (t : LegTimes) → Fit 158 (time_writes t)
times_fit t =
    (refl, lit≤ tt, (refl, lit≤ tt, (refl, lit≤ tt, (refl, lit≤ tt, (refl, lit≤ tt, tt)))))

equipment_fits : (e : EquipmentFields) → Fit 158 (equipment_writes e)
equipment_fits e = (
  (filled_carried 1 (e.service_type ∷ [])).0,
  lit≤ tt,
  (
    (filled_carried 3 e.aircraft_type).0,
    lit≤ tt,
    (
      (filled_carried 20 e.booking_designators).0,
      lit≤ tt,
      ((filled_carried 20 e.configuration).0, lit≤ tt, tt),
    ),
  ),
)

pub length_times : (t : LegTimes) (d : List ℕ) → length d ≡ 158 → length (with_times t d) ≡ 158
length_times t d len =
    ap length (sym (times_written t d len)) ∙ length_written 158 (time_writes t) d len (times_fit t)

pub length_equipment : (e : EquipmentFields) (d : List ℕ) → length d ≡ 158
    → length (with_equipment e d) ≡ 158
length_equipment e d len =
    ap length (sym (equipment_written e d len))
    ∙ length_written 158 (equipment_writes e) d len (equipment_fits e)

pub times_changed : (t : LegTimes) (d : List ℕ) → length d ≡ 158
    → ChangesTimes t d (with_times t d)
times_changed t d len =
    subst (λ (x : List ℕ). ChangesTimes t d x) (times_written t d len) (times_change t d len)

pub equipment_changed : (e : EquipmentFields) (d : List ℕ) → length d ≡ 158
    → ChangesEquipment e d (with_equipment e d)
equipment_changed e d len =
    subst (λ (x : List ℕ). ChangesEquipment e d x) (equipment_written e d len)
    (equipment_changes e d len)

-- ---- written twice

equipment_over : (e : EquipmentFields) (x y : List ℕ) → leg_columns 37 72 x ≡ leg_columns 37 72 y
    → leg_columns 96 127 x ≡ leg_columns 96 127 y → leg_columns 129 172 x ≡ leg_columns 129 172 y
    → leg_columns 193 194 x ≡ leg_columns 193 194 y → with_equipment e x ≡ with_equipment e y
unfolding with_equipment
equipment_over e x y a b c d = λ i.
    concat (filled 1 (e.service_type ∷ [])
    ∷ a i
    ∷ filled 3 e.aircraft_type
    ∷ filled 20 e.booking_designators
    ∷ b i
    ∷ c i
    ∷ filled 20 e.configuration
    ∷ d i
    ∷ [])

pub equipment_twice : (e f : EquipmentFields) (d : List ℕ) → length d ≡ 158
    → with_equipment e (with_equipment f d) ≡ with_equipment e d
equipment_twice e f d len =
    let c = equipment_changed f d len in
    equipment_over e (with_equipment f d) d c.columns_37_to_72 c.columns_96_to_127
    c.columns_129_to_172 c.columns_193_to_194

times_over : (t : LegTimes) (x y : List ℕ) → leg_columns 14 14 x ≡ leg_columns 14 14 y
    → leg_columns 37 39 x ≡ leg_columns 37 39 y → leg_columns 48 57 x ≡ leg_columns 48 57 y
    → leg_columns 66 127 x ≡ leg_columns 66 127 y → leg_columns 129 192 x ≡ leg_columns 129 192 y
    → with_times t x ≡ with_times t y
unfolding with_times
times_over t x y a b c d e = λ i.
    concat (a i
    ∷ b i
    ∷ clock_text t.passenger_departure
    ∷ clock_text t.aircraft_departure
    ∷ c i
    ∷ clock_text t.aircraft_arrival
    ∷ clock_text t.passenger_arrival
    ∷ d i
    ∷ e i
    ∷ date_variations t
    ∷ [])

pub times_twice : (t u : LegTimes) (d : List ℕ) → length d ≡ 158
    → with_times t (with_times u d) ≡ with_times t d
times_twice t u d len =
    let c = times_changed u d len in
    times_over t (with_times u d) d c.column_14 c.columns_37_to_39 c.columns_48_to_57
    c.columns_66_to_127 c.columns_129_to_192

-- ---- stations

-- columns 37 to 72 stay under other equipment
pub front_equipped : (e : EquipmentFields) (d : List ℕ) → length d ≡ 158 → (first last : ℕ)
    → 36 < first → first ≤ last → last ≤ 72
    → leg_columns first last (with_equipment e d) ≡ leg_columns first last d
front_equipped e d len first last =
    same_columns (spread (with_equipment e d)) (spread d) 36 72 first last
    (equipment_changed e d len).columns_37_to_72

-- columns 66 to 127 stay under other times
pub middle_timed : (t : LegTimes) (d : List ℕ) → length d ≡ 158 → (first last : ℕ)
    → 65 < first → first ≤ last → last ≤ 127
    → leg_columns first last (with_times t d) ≡ leg_columns first last d
middle_timed t d len first last =
    same_columns (spread (with_times t d)) (spread d) 65 127 first last
    (times_changed t d len).columns_66_to_127

-- columns 129 to 192 stay under other times
pub tail_timed : (t : LegTimes) (d : List ℕ) → length d ≡ 158 → (first last : ℕ)
    → 128 < first → first ≤ last → last ≤ 192
    → leg_columns first last (with_times t d) ≡ leg_columns first last d
tail_timed t d len first last =
    same_columns (spread (with_times t d)) (spread d) 128 192 first last
    (times_changed t d len).columns_129_to_192

pub departure_equipped : (e : EquipmentFields) (d : List ℕ) → length d ≡ 158
    → leg_columns 37 39 (with_equipment e d) ≡ leg_columns 37 39 d
departure_equipped e d len = front_equipped e d len 37 39 (lit< tt) (lit≤ tt) (lit≤ tt)

pub arrival_equipped : (e : EquipmentFields) (d : List ℕ) → length d ≡ 158
    → leg_columns 55 57 (with_equipment e d) ≡ leg_columns 55 57 d
arrival_equipped e d len = front_equipped e d len 55 57 (lit< tt) (lit≤ tt) (lit≤ tt)

pub departure_timed : (t : LegTimes) (d : List ℕ) → length d ≡ 158
    → leg_columns 37 39 (with_times t d) ≡ leg_columns 37 39 d
departure_timed t d len = (times_changed t d len).columns_37_to_39

pub arrival_timed : (t : LegTimes) (d : List ℕ) → length d ≡ 158
    → leg_columns 55 57 (with_times t d) ≡ leg_columns 55 57 d
arrival_timed t d len =
    same_columns (spread (with_times t d)) (spread d) 47 57 55 57
    (times_changed t d len).columns_48_to_57 (lit< tt) (lit≤ tt) (lit≤ tt)

-- ---- in either order

-- seven texts one after another, and a text after them
joined_seven : (a b c d e f g rest : List ℕ)
    → (a ++ (b ++ (c ++ (d ++ (e ++ (f ++ g)))))) ++ rest
    ≡ a ++ (b ++ (c ++ (d ++ (e ++ (f ++ (g ++ rest))))))
joined_seven a b c d e f g rest =
    append_assoc a (b ++ (c ++ (d ++ (e ++ (f ++ g))))) rest
    ∙ ap (λ (x : List ℕ). a ++ x) (append_assoc b (c ++ (d ++ (e ++ (f ++ g)))) rest
    ∙ ap (λ (x : List ℕ). b ++ x) (append_assoc c (d ++ (e ++ (f ++ g))) rest
    ∙ ap (λ (x : List ℕ). c ++ x) (append_assoc d (e ++ (f ++ g)) rest
    ∙ ap (λ (x : List ℕ). d ++ x) (append_assoc e (f ++ g) rest
    ∙ ap (λ (x : List ℕ). e ++ x) (append_assoc f g rest)))))

joined_four : (a b c d rest : List ℕ)
    → (a ++ (b ++ (c ++ d))) ++ rest ≡ a ++ (b ++ (c ++ (d ++ rest)))
joined_four a b c d rest =
    append_assoc a (b ++ (c ++ d)) rest
    ∙ ap (λ (x : List ℕ). a ++ x) (append_assoc b (c ++ d) rest
    ∙ ap (λ (x : List ℕ). b ++ x) (append_assoc c d rest))

-- columns 37 to 72 of a record in their seven parts
cut_front : (b : List ℕ)
    → slice_range b 36 72
    ≡ slice_range b 36 39
    ++ (slice_range b 39 43
    ++ (slice_range b 43 47
    ++ (slice_range b 47 57
    ++ (slice_range b 57 61 ++ (slice_range b 61 65 ++ slice_range b 65 72)))))
cut_front b =
    slice_cut b 36 39 72 (lit≤ tt) (lit≤ tt)
    ∙ ap (λ (x : List ℕ). slice_range b 36 39 ++ x) (slice_cut b 39 43 72 (lit≤ tt) (lit≤ tt)
    ∙ ap (λ (x : List ℕ). slice_range b 39 43 ++ x) (slice_cut b 43 47 72 (lit≤ tt) (lit≤ tt)
    ∙ ap (λ (x : List ℕ). slice_range b 43 47 ++ x) (slice_cut b 47 57 72 (lit≤ tt) (lit≤ tt)
    ∙ ap (λ (x : List ℕ). slice_range b 47 57 ++ x) (slice_cut b 57 61 72 (lit≤ tt) (lit≤ tt)
    ∙ ap (λ (x : List ℕ). slice_range b 57 61 ++ x) (slice_cut b 61 65 72 (lit≤ tt) (lit≤ tt))))))

-- columns 66 to 127 of a record in their four parts
cut_middle : (b : List ℕ)
    → slice_range b 65 127 ≡ slice_range b 65 72
    ++ (slice_range b 72 75 ++ (slice_range b 75 95 ++ slice_range b 95 127))
cut_middle b =
    slice_cut b 65 72 127 (lit≤ tt) (lit≤ tt)
    ∙ ap (λ (x : List ℕ). slice_range b 65 72 ++ x) (slice_cut b 72 75 127 (lit≤ tt) (lit≤ tt)
    ∙ ap (λ (x : List ℕ). slice_range b 72 75 ++ x) (slice_cut b 75 95 127 (lit≤ tt) (lit≤ tt)))

-- a leg's columns with both the equipment and the times
abbrev with_both : EquipmentFields → LegTimes → List ℕ → List ℕ
with_both e t d =
    filled 1 (e.service_type ∷ [])
    ++ (leg_columns 37 39 d
    ++ (clock_text t.passenger_departure
    ++ (clock_text t.aircraft_departure
    ++ (leg_columns 48 57 d
    ++ (clock_text t.aircraft_arrival
    ++ (clock_text t.passenger_arrival
    ++ (leg_columns 66 72 d
    ++ (filled 3 e.aircraft_type
    ++ (filled 20 e.booking_designators
    ++ (leg_columns 96 127 d
    ++ (leg_columns 129 172 d
    ++ (filled 20 e.configuration
    ++ (date_variations t ++ [])))))))))))))

equipment_last : (e : EquipmentFields) (t : LegTimes) (d : List ℕ) → length d ≡ 158
    → with_equipment e (with_times t d) ≡ with_both e t d
unfolding with_equipment
equipment_last e t d len =
    let x = with_times t d in
    let c = times_changed t d len in
    let front = cut_front (spread x) in
    let terminal = middle_timed t d len 66 72 (lit< tt) (lit≤ tt) (lit≤ tt) in
    let rest = middle_timed t d len 96 127 (lit< tt) (lit≤ tt) (lit≤ tt) in
    let meals = tail_timed t d len 129 172 (lit< tt) (lit≤ tt) (lit≤ tt) in
    let behind : List ℕ = filled 3 e.aircraft_type
    ++ (filled 20 e.booking_designators
    ++ (leg_columns 96 127 d
    ++ (leg_columns 129 172 d ++ (filled 20 e.configuration ++ (date_variations t ++ []))))) in
    (λ i. filled 1 (e.service_type ∷ [])
    ++ (front i
    ++ (filled 3 e.aircraft_type
    ++ (filled 20 e.booking_designators
    ++ (rest i
    ++ (meals i ++ (filled 20 e.configuration ++ (c.date_variations i ++ []))))))))
    ∙ (λ i. filled 1 (e.service_type ∷ [])
    ++ ((c.columns_37_to_39 i
    ++ (c.passenger_departure i
    ++ (c.aircraft_departure i
    ++ (c.columns_48_to_57 i
    ++ (c.aircraft_arrival i ++ (c.passenger_arrival i ++ terminal i))))))
    ++ behind))
    ∙ ap (λ (y : List ℕ). filled 1 (e.service_type ∷ []) ++ y)
    (joined_seven (leg_columns 37 39 d) (clock_text t.passenger_departure)
    (clock_text t.aircraft_departure) (leg_columns 48 57 d) (clock_text t.aircraft_arrival)
    (clock_text t.passenger_arrival) (leg_columns 66 72 d) behind)

times_last : (e : EquipmentFields) (t : LegTimes) (d : List ℕ) → length d ≡ 158
    → with_times t (with_equipment e d) ≡ with_both e t d
unfolding with_times
times_last e t d len =
    let x = with_equipment e d in
    let c = equipment_changed e d len in
    let departure = front_equipped e d len 37 39 (lit< tt) (lit≤ tt) (lit≤ tt) in
    let between = front_equipped e d len 48 57 (lit< tt) (lit≤ tt) (lit≤ tt) in
    let terminal = front_equipped e d len 66 72 (lit< tt) (lit≤ tt) (lit≤ tt) in
    let middle = cut_middle (spread x) in
    let tail = slice_cut (spread x) 128 172 192 (lit≤ tt) (lit≤ tt) in
    let front : List ℕ → List ℕ = λ y. filled 1 (e.service_type ∷ [])
    ++ (leg_columns 37 39 d
    ++ (clock_text t.passenger_departure
    ++ (clock_text t.aircraft_departure
    ++ (leg_columns 48 57 d
    ++ (clock_text t.aircraft_arrival ++ (clock_text t.passenger_arrival ++ y)))))) in
    let behind : List ℕ = leg_columns 129 172 d
    ++ (filled 20 e.configuration ++ (date_variations t ++ [])) in
    (λ i. c.service_type i
    ++ (departure i
    ++ (clock_text t.passenger_departure
    ++ (clock_text t.aircraft_departure
    ++ (between i
    ++ (clock_text t.aircraft_arrival
    ++ (clock_text t.passenger_arrival
    ++ (middle i ++ (tail i ++ (date_variations t ++ []))))))))))
    ∙ (λ i. front ((terminal i
    ++ (c.aircraft_type i ++ (c.booking_designators i ++ c.columns_96_to_127 i)))
    ++ ((c.columns_129_to_172 i ++ c.configuration i) ++ (date_variations t ++ []))))
    ∙ ap (λ (y : List ℕ). front ((leg_columns 66 72 d
    ++ (filled 3 e.aircraft_type
    ++ (filled 20 e.booking_designators ++ leg_columns 96 127 d))) ++ y))
    (append_assoc (leg_columns 129 172 d) (filled 20 e.configuration) (date_variations t ++ []))
    ∙ ap front (joined_four (leg_columns 66 72 d) (filled 3 e.aircraft_type)
    (filled 20 e.booking_designators) (leg_columns 96 127 d) behind)

pub either_order : (e : EquipmentFields) (t : LegTimes) (d : List ℕ) → length d ≡ 158
    → with_equipment e (with_times t d) ≡ with_times t (with_equipment e d)
either_order e t d len = equipment_last e t d len ∙ sym (times_last e t d len)

-- ---- a new leg

-- the stations are ones
pub record AreStations (s : LegStations) : Type 0 where
  pub departure : IsTrue (is_station s.departure)
  pub arrival : IsTrue (is_station s.arrival)

pub length_new : (s : LegStations) (t : LegTimes) → AreStations s
    → length (with_times t (station_columns s)) ≡ 158
length_new s t are =
    length_times t (station_columns s) (length_stations s are.departure are.arrival)

pub new_equipped : (e f : EquipmentFields) (s : LegStations) (t : LegTimes) → AreStations s
    → with_equipment e (new_leg s t f) ≡ new_leg s t e
unfolding new_leg
new_equipped e f s t are =
    equipment_twice e f (with_times t (station_columns s)) (length_new s t are)

pub new_timed : (t u : LegTimes) (s : LegStations) (e : EquipmentFields) → AreStations s
    → with_times t (new_leg s u e) ≡ new_leg s t e
unfolding new_leg
new_timed t u s e are =
    let d = station_columns s in
    let len = length_stations s are.departure are.arrival in
    sym (either_order e t (with_times u d) (length_new s u are))
    ∙ ap (with_equipment e) (times_twice t u d len)

departure_placed : (s : LegStations) → AreStations s
    → leg_columns 37 39 (station_columns s) ≡ s.departure
unfolding station_columns
departure_placed s are =
    let p = all_placed station_widths (station_rows s)
    (stations_long s are.departure are.arrival) in
    sym (own_middle (station_columns s) 37 39 (length_stations s are.departure are.arrival)
    (lit≤ tt) (lit≤ tt) (lit≤ tt)) ∙ p.1.0

arrival_placed : (s : LegStations) → AreStations s
    → leg_columns 55 57 (station_columns s) ≡ s.arrival
unfolding station_columns
arrival_placed s are =
    let p = all_placed station_widths (station_rows s)
    (stations_long s are.departure are.arrival) in
    sym (own_middle (station_columns s) 55 57 (length_stations s are.departure are.arrival)
    (lit≤ tt) (lit≤ tt) (lit≤ tt)) ∙ p.1.1.1.1.1.0

pub new_departure : (s : LegStations) (t : LegTimes) (e : EquipmentFields) → AreStations s
    → leg_columns 37 39 (new_leg s t e) ≡ s.departure
unfolding new_leg
new_departure s t e are =
    departure_equipped e (with_times t (station_columns s)) (length_new s t are)
    ∙ departure_timed t (station_columns s) (length_stations s are.departure are.arrival)
    ∙ departure_placed s are

pub new_arrival : (s : LegStations) (t : LegTimes) (e : EquipmentFields) → AreStations s
    → leg_columns 55 57 (new_leg s t e) ≡ s.arrival
unfolding new_leg
new_arrival s t e are =
    arrival_equipped e (with_times t (station_columns s)) (length_new s t are)
    ∙ arrival_timed t (station_columns s) (length_stations s are.departure are.arrival)
    ∙ arrival_placed s are
