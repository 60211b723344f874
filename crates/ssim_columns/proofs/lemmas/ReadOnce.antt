-- The rows of a table follow from carried bytes, and from fields that were read.
use Rattle.std.proofs.Common.{◌≡◌, ℕ, ◌+◌, ◌-◌, ◌≤◌, List, [], ◌∷◌, Bool, Option, None, Some, arith, lit≤}
use Rattle.std.specs.Prelude.{IsTrue, slice_range, is_some}
use Rattle.std.specs.List.{list_all}
use Rattle.ssim_values.specs.Day.{day_of}
use Rattle.ssim_values.specs.DayMask.{days_of}
use Rattle.ssim_values.specs.Clock.{clock_of}
use Rattle.ssim_values.specs.Station.{is_station}
use Rattle.ssim_columns.specs.declared.field.FieldKind.TheVariants.{Carried, Digits}
use Rattle.ssim_columns.specs.Numbers.{digits_of}
use Rattle.ssim_columns.specs.Columns.{columns, field, is_carried, fault_in, end_from, passenger_time_of, utc_variation_of, EachIsValid}
use Rattle.ssim_columns.specs.Leg.{Name, IsName, SpellsName, leg_table, middle_table, name_table}
use Rattle.ssim_columns.specs.internal.LegPoints.{departure_is_valid, arrival_is_valid}
use Rattle.ssim_columns.specs.Segment.{segment_table}
use Rattle.ssim_columns.proofs.lemmas.CarriedTexts.{carried_within}
use Rattle.ssim_columns.proofs.lemmas.Legs.{behind_middle, beside_name}
use Rattle.ssim_columns.proofs.lemmas.Names.{name_stands}
use Rattle.ssim_columns.proofs.lemmas.Places.{dates_stand}
use Rattle.ssim_columns.proofs.lemmas.Rows.{both_stand, both_true, none_other, stands_as, stands_by}

-- ---- carried columns

carried_in : (b : List ℕ) (i j : ℕ) → 3 ≤ i → i ≤ j → j ≤ 194 → IsTrue (list_all is_carried (columns 3 194 b)) → fault_in Carried (columns i j b) ≡ None
carried_in b i j from le to h =
    let first : 2 + (i - 3) ≡ i - 1 = omega arith in
    let last : 2 + (j - 2) ≡ j = omega arith in
    let part : IsTrue (list_all is_carried (slice_range b (2 + (i - 3)) (2 + (j - 2)))) = carried_within b 2 194 (i - 3) (j - 2) (omega arith) (omega arith) h in
    none_other 0 (columns i j b) (rw (first, last) at part)

-- ---- departure and arrival

record DepartureRows (b : List ℕ) : Type 0 where
  station : IsTrue (is_station (columns 37 39 b))
  passenger : IsTrue (is_some (passenger_time_of (columns 40 43 b)))
  time : IsTrue (is_some (clock_of (columns 44 47 b)))
  variation : IsTrue (is_some (utc_variation_of (columns 48 52 b)))

departure_rows : (b : List ℕ) → IsTrue (departure_is_valid b) → DepartureRows b
unfolding departure_is_valid
departure_rows b h =
    let p = both_true (is_station (columns 37 39 b)) _ h in
    let q = both_true (is_some (passenger_time_of (columns 40 43 b))) _ p.1 in
    let r = both_true (is_some (clock_of (columns 44 47 b))) _ q.1 in
    record { station = p.0; passenger = q.0; time = r.0; variation = r.1 }

record ArrivalRows (b : List ℕ) : Type 0 where
  station : IsTrue (is_station (columns 55 57 b))
  time : IsTrue (is_some (clock_of (columns 58 61 b)))
  passenger : IsTrue (is_some (passenger_time_of (columns 62 65 b)))
  variation : IsTrue (is_some (utc_variation_of (columns 66 70 b)))

arrival_rows : (b : List ℕ) → IsTrue (arrival_is_valid b) → ArrivalRows b
unfolding arrival_is_valid
arrival_rows b h =
    let p = both_true (is_station (columns 55 57 b)) _ h in
    let q = both_true (is_some (clock_of (columns 58 61 b))) _ p.1 in
    let r = both_true (is_some (passenger_time_of (columns 62 65 b))) _ q.1 in
    record { station = p.0; time = q.0; passenger = r.0; variation = r.1 }

-- ---- tables

pub leg_stands : (b : List ℕ) (n : Name) (first : ℕ) (last : Option ℕ) (days : List Bool) (serial : ℕ) → IsTrue (list_all is_carried (columns 3 194 b)) → IsTrue (departure_is_valid b) → IsTrue (arrival_is_valid b) → IsName n → SpellsName n b → day_of (columns 15 21 b) ≡ Some first → end_from (Some first) (columns 22 28 b) ≡ Some last → days_of (columns 29 35 b) ≡ Some days → digits_of (columns 195 200 b) ≡ Some serial → EachIsValid b leg_table
leg_stands b m first last days serial all departure arrival fits name p q r s =
    let n = name_stands m b fits name in
    let d = departure_rows b departure in
    let a = arrival_rows b arrival in
    let middle : EachIsValid b middle_table = (
      stands_by _ d.station,
      (
        stands_by _ d.passenger,
        (
          stands_by _ d.time,
          (
            stands_by _ d.variation,
            (
              carried_in b 53 54 (lit≤ tt) (lit≤ tt) (lit≤ tt) all,
              (
                stands_by _ a.station,
                (stands_by _ a.time, (stands_by _ a.passenger, (stands_by _ a.variation, (carried_in b 71 127 (lit≤ tt) (lit≤ tt) (lit≤ tt) all, tt)))),
              ),
            ),
          ),
        ),
      ),
    ) in
    let rest : EachIsValid b behind_middle = (carried_in b 128 128 (lit≤ tt) (lit≤ tt) (lit≤ tt) all, (carried_in b 129 194 (lit≤ tt) (lit≤ tt) (lit≤ tt) all, (stands_as (digits_of (columns 195 200 b)) serial s, tt))) in
    both_stand b name_table beside_name n (
      carried_in b 14 14 (lit≤ tt) (lit≤ tt) (lit≤ tt) all,
      (
        dates_stand b first last p q,
        (
          stands_as (days_of (columns 29 35 b)) days r,
          (carried_in b 36 36 (lit≤ tt) (lit≤ tt) (lit≤ tt) all, both_stand b middle_table behind_middle middle rest),
        ),
      ),
    )

pub segment_stands : (b : List ℕ) (n : Name) (serial : ℕ) → IsTrue (list_all is_carried (columns 3 194 b)) → IsName n → SpellsName n b → digits_of (columns 195 200 b) ≡ Some serial → EachIsValid b segment_table
segment_stands b m serial all fits name s =
    both_stand b name_table (field 14 14 Carried ∷ field 15 27 Carried ∷ field 28 28 Carried ∷ field 29 194 Carried ∷ field 195 200 Digits ∷ []) (name_stands m b fits name) (
      carried_in b 14 14 (lit≤ tt) (lit≤ tt) (lit≤ tt) all,
      (
        carried_in b 15 27 (lit≤ tt) (lit≤ tt) (lit≤ tt) all,
        (carried_in b 28 28 (lit≤ tt) (lit≤ tt) (lit≤ tt) all, (carried_in b 29 194 (lit≤ tt) (lit≤ tt) (lit≤ tt) all, (stands_as (digits_of (columns 195 200 b)) serial s, tt))),
      ),
    )
