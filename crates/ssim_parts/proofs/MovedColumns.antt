-- The columns of a leg with moved ends are valid.
use Rattle.std.proofs.Common.{◌≡◌, ◌≤◌, ◌+◌, ◌-◌, ℕ, List, [], ◌∷◌, length, None, Some, Option}
use Rattle.std.proofs.Common.{refl, sym, ap, subst, ◌∙◌, ◌++◌, lit≤, arith, IsTrue, true}
use Rattle.std.specs.Prelude.{slice_range, IfSome}
use Rattle.std.specs.List.{list_all, AllZip, concat}
use Rattle.std.proofs.lemmas.Bool.Decides.{nat_tests}
use Rattle.ssim_values.specs.Clock.{clock_text}
use Rattle.ssim_values.specs.Variation.{variation_text}
use Rattle.ssim_columns.specs.declared.field.FieldKind.TheVariants.{Carried, StationCode, Time}
use Rattle.ssim_columns.specs.declared.field.FieldKind.TheVariants.{PassengerTime, UtcVariation}
use Rattle.ssim_columns.specs.Columns.{fault_in, is_carried, passenger_time_of}
use Rattle.ssim_columns.specs.Leg.{AreLegColumns, leg_columns, spread}
use Rattle.ssim_columns.proofs.lemmas.CarriedTexts.{both, carried_append, carried_within}
use Rattle.ssim_columns.proofs.lemmas.CarriedTexts.{passenger_stands, time_stands, variation_stands}
use Rattle.ssim_columns.proofs.lemmas.Overlay.{slice_cut}
use Rattle.ssim_columns.proofs.lemmas.OwnColumns.{own_middle, own_service, own_tail}
use Rattle.ssim_columns.proofs.lemmas.Places.{all_placed, length_concat}
use Rattle.ssim_columns.proofs.lemmas.Rows.{all_carried, none_other}
use Rattle.ssim_columns.proofs.lemmas.Slices.{length_slice}
use Rattle.ssim_parts.specs.MovedEnds.{passenger_text}
use Rattle.ssim_parts.specs.declared.moved_end.MovedEnd.{MovedEnd}
use Rattle.ssim_parts.specs.internal.Moved.{IsMoved}

abbrev end_widths : List ℕ
end_widths = 1 ∷ 3 ∷ 4 ∷ 4 ∷ 5 ∷ 2 ∷ 3 ∷ 4 ∷ 4 ∷ 5 ∷ 57 ∷ 44 ∷ 20 ∷ 2 ∷ []

abbrev dates_of : MovedEnd → MovedEnd → ℕ → List ℕ
dates_of dep arr shift = (48 + (dep.day - shift)) ∷ (48 + (arr.day - shift)) ∷ []

abbrev pub end_rows : MovedEnd → MovedEnd → ℕ → List ℕ → List (List ℕ)
end_rows dep arr shift d =
    leg_columns 14 14 d
    ∷ leg_columns 37 39 d
    ∷ passenger_text dep.passenger
    ∷ clock_text dep.minutes
    ∷ variation_text dep.variation
    ∷ leg_columns 53 54 d
    ∷ leg_columns 55 57 d
    ∷ clock_text arr.minutes
    ∷ passenger_text arr.passenger
    ∷ variation_text arr.variation
    ∷ leg_columns 71 127 d
    ∷ leg_columns 129 172 d
    ∷ leg_columns 173 192 d
    ∷ dates_of dep arr shift
    ∷ []

passenger_long : (passenger : Option ℕ) → length (passenger_text passenger) ≡ 4
passenger_long None = refl
passenger_long (Some minutes) = refl

passenger_valid : (passenger : Option ℕ) → IfSome passenger (λ minutes. minutes ≤ 1440)
    → fault_in PassengerTime (passenger_text passenger) ≡ None
unfolding passenger_time_of
passenger_valid None low = refl
passenger_valid (Some minutes) low = passenger_stands minutes low

-- columns of a leg are as long as they are many
middle_long : (d : List ℕ) (first last : ℕ) → length d ≡ 158 → 37 ≤ first → first ≤ last
    → last ≤ 127 → length (leg_columns first last d) ≡ last + 1 - first
middle_long d first last n from some to =
    let e = own_middle d first last n from some to in
    let l = length_slice d (first - 36) (last - 35) (omega arith) (omega arith) in
    sym (ap length e) ∙ l ∙ omega arith

tail_long : (d : List ℕ) (first last : ℕ) → length d ≡ 158 → 129 ≤ first → first ≤ last
    → last ≤ 194 → length (leg_columns first last d) ≡ last + 1 - first
tail_long d first last n from some to =
    let e = own_tail d first last n from some to in
    let l = length_slice d (first - 37) (last - 36) (omega arith) (omega arith) in
    sym (ap length e) ∙ l ∙ omega arith

service_long : (d : List ℕ) → length d ≡ 158 → length (leg_columns 14 14 d) ≡ 1
service_long d n =
    let l = length_slice d 0 1 (lit≤ tt) (omega arith) in
    sym (ap length (own_service d n)) ∙ l

carried_as : (a b : List ℕ) → a ≡ b → IsTrue (list_all is_carried b) → IsTrue (list_all is_carried a)
carried_as a b e h = subst (λ (z : List ℕ). IsTrue (list_all is_carried z)) (sym e) h

-- the columns from first to last are carried if those up to one between them and those after it are
carried_both : (b : List ℕ) (i j k : ℕ) → i ≤ j → j ≤ k
    → IsTrue (list_all is_carried (slice_range b i j))
    → IsTrue (list_all is_carried (slice_range b j k))
    → IsTrue (list_all is_carried (slice_range b i k))
carried_both b i j k ij jk h g =
    carried_as (slice_range b i k) (slice_range b i j ++ slice_range b j k) (slice_cut b i j k ij jk)
    (carried_append (slice_range b i j) (slice_range b j k) h g)

module _ (dep arr : MovedEnd) (shift : ℕ) (d : List ℕ) (n : length d ≡ 158) where
  abbrev x : List ℕ
  x = concat (end_rows dep arr shift d)

  pub ends_long : AllZip (λ w p. length p ≡ w) end_widths (end_rows dep arr shift d)
  ends_long = (
    service_long d n,
    (
      middle_long d 37 39 n (lit≤ tt) (lit≤ tt) (lit≤ tt),
      (
        passenger_long dep.passenger,
        (
          refl,
          (
            refl,
            (
              middle_long d 53 54 n (lit≤ tt) (lit≤ tt) (lit≤ tt),
              (
                middle_long d 55 57 n (lit≤ tt) (lit≤ tt) (lit≤ tt),
                (
                  refl,
                  (
                    passenger_long arr.passenger,
                    (
                      refl,
                      (
                        middle_long d 71 127 n (lit≤ tt) (lit≤ tt) (lit≤ tt),
                        (
                          tail_long d 129 172 n (lit≤ tt) (lit≤ tt) (lit≤ tt),
                          (tail_long d 173 192 n (lit≤ tt) (lit≤ tt) (lit≤ tt), (refl, tt)),
                        ),
                      ),
                    ),
                  ),
                ),
              ),
            ),
          ),
        ),
      ),
    ),
  )

  pub length_ends : length x ≡ 158
  length_ends = length_concat end_widths (end_rows dep arr shift d) ends_long refl

  -- the text of columns from 37 to 127, which lies in its place
  lies : (first last : ℕ) → 37 ≤ first → first ≤ last → last ≤ 127 → (text : List ℕ)
      → slice_range x (first - 36) (last - 35) ≡ text → leg_columns first last x ≡ text
  lies first last from some to text e =
      sym (own_middle x first last length_ends from some to) ∙ e

  carried_date : (day : ℕ) → day ≤ 11 → is_carried (48 + (day - shift)) ≡ true
  carried_date day low = grind (arith, nat_tests)

  dates_carried : dep.day ≤ 11 → arr.day ≤ 11
      → IsTrue (list_all is_carried (dates_of dep arr shift))
  dates_carried low high =
      both (is_carried (48 + (dep.day - shift))) _ (carried_date dep.day low)
      (both (is_carried (48 + (arr.day - shift))) true (carried_date arr.day high) refl)

  pub ends_valid : AreLegColumns d → IsMoved dep → IsMoved arr → AreLegColumns x
  ends_valid h departs arrives =
      let m = h.valid.1 in
      let p = all_placed end_widths (end_rows dep arr shift d) ends_long in
      let old : IsTrue (list_all is_carried (leg_columns 129 194 d)) =
      all_carried 0 (leg_columns 129 194 d) m.1.1.1.1.1.1.1.1.1.1.0 in
      let early : leg_columns 129 172 x ≡ leg_columns 129 172 d =
      sym (own_tail x 129 172 length_ends (lit≤ tt) (lit≤ tt) (lit≤ tt))
      ∙ p.1.1.1.1.1.1.1.1.1.1.1.0 in
      let late : leg_columns 173 192 x ≡ leg_columns 173 192 d =
      sym (own_tail x 173 192 length_ends (lit≤ tt) (lit≤ tt) (lit≤ tt))
      ∙ p.1.1.1.1.1.1.1.1.1.1.1.1.0 in
      let dates : leg_columns 193 194 x ≡ dates_of dep arr shift =
      sym (own_tail x 193 194 length_ends (lit≤ tt) (lit≤ tt) (lit≤ tt))
      ∙ p.1.1.1.1.1.1.1.1.1.1.1.1.1.0 in
      let early_carried : IsTrue (list_all is_carried (leg_columns 129 172 x)) =
      carried_as (leg_columns 129 172 x) (leg_columns 129 172 d) early
      (carried_within (spread d) 128 194 0 44 (lit≤ tt) (lit≤ tt) old) in
      let late_carried : IsTrue (list_all is_carried (leg_columns 173 192 x)) =
      carried_as (leg_columns 173 192 x) (leg_columns 173 192 d) late
      (carried_within (spread d) 128 194 44 64 (lit≤ tt) (lit≤ tt) old) in
      let date_carried : IsTrue (list_all is_carried (leg_columns 193 194 x)) =
      carried_as (leg_columns 193 194 x) (dates_of dep arr shift) dates
      (dates_carried departs.day arrives.day) in
      let before : IsTrue (list_all is_carried (leg_columns 129 192 x)) =
      carried_both (spread x) 128 172 192 (lit≤ tt) (lit≤ tt) early_carried late_carried in
      let last : IsTrue (list_all is_carried (leg_columns 129 194 x)) =
      carried_both (spread x) 128 192 194 (lit≤ tt) (lit≤ tt) before date_carried in
      record {
        len = length_ends;
        valid = (
          ap (fault_in Carried) (sym (own_service x length_ends) ∙ p.0) ∙ h.valid.0,
          (
            ap (fault_in StationCode)
                (lies 37 39 (lit≤ tt) (lit≤ tt) (lit≤ tt) (leg_columns 37 39 d) p.1.0) ∙ m.0,
            (
              ap (fault_in PassengerTime)
                  (lies 40 43 (lit≤ tt) (lit≤ tt) (lit≤ tt) (passenger_text dep.passenger) p.1.1.0)
                  ∙ passenger_valid dep.passenger departs.passenger,
              (
                ap (fault_in Time)
                    (lies 44 47 (lit≤ tt) (lit≤ tt) (lit≤ tt) (clock_text dep.minutes) p.1.1.1.0)
                    ∙ time_stands dep.minutes departs.minutes,
                (
                  ap (fault_in UtcVariation)
                      (lies 48 52 (lit≤ tt) (lit≤ tt) (lit≤ tt) (variation_text dep.variation)
                      p.1.1.1.1.0)
                      ∙ variation_stands dep.variation departs.variation,
                  (
                    ap (fault_in Carried)
                        (lies 53 54 (lit≤ tt) (lit≤ tt) (lit≤ tt) (leg_columns 53 54 d) p.1.1.1.1.1.0)
                        ∙ m.1.1.1.1.0,
                    (
                      ap (fault_in StationCode)
                          (lies 55 57 (lit≤ tt) (lit≤ tt) (lit≤ tt) (leg_columns 55 57 d)
                          p.1.1.1.1.1.1.0)
                          ∙ m.1.1.1.1.1.0,
                      (
                        ap (fault_in Time)
                            (lies 58 61 (lit≤ tt) (lit≤ tt) (lit≤ tt) (clock_text arr.minutes)
                            p.1.1.1.1.1.1.1.0)
                            ∙ time_stands arr.minutes arrives.minutes,
                        (
                          ap (fault_in PassengerTime)
                              (lies 62 65 (lit≤ tt) (lit≤ tt) (lit≤ tt) (passenger_text arr.passenger)
                              p.1.1.1.1.1.1.1.1.0) ∙ passenger_valid arr.passenger arrives.passenger,
                          (
                            ap (fault_in UtcVariation)
                                (lies 66 70 (lit≤ tt) (lit≤ tt) (lit≤ tt)
                                (variation_text arr.variation)
                                p.1.1.1.1.1.1.1.1.1.0) ∙ variation_stands arr.variation
                                arrives.variation,
                            (
                              ap (fault_in Carried)
                                  (lies 71 127 (lit≤ tt) (lit≤ tt) (lit≤ tt) (leg_columns 71 127 d)
                                  p.1.1.1.1.1.1.1.1.1.1.0) ∙ m.1.1.1.1.1.1.1.1.1.0,
                              (none_other 0 (leg_columns 129 194 x) last, tt),
                            ),
                          ),
                        ),
                      ),
                    ),
                  ),
                ),
              ),
            ),
          ),
        );
      }
