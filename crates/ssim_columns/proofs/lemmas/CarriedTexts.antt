-- Texts of bytes that a record carries, and the texts of values in their columns.
use Rattle.std.proofs.Common.{◌≡◌, ℕ, zero, suc, ◌+◌, ◌-◌, ◌≤◌, ◌<◌, Bool, true, false, ◌&&◌, List, [], ◌∷◌, ◌++◌, length, take, drop, Some, None, refl, arith, IsTrue}
use Rattle.std.specs.Prelude.{slice_range, is_some, option_map, if◌then◌else◌, ◌==◌, ◌%◌, ◌/◌, nat_le}
use Rattle.std.specs.List.{concat, list_all, AllZip}
use Rattle.std.proofs.lemmas.Bool.Decides.{nat_tests}
use Rattle.ssim_values.specs.Characters.{is_letter}
use Rattle.ssim_values.specs.Station.{is_station}
use Rattle.ssim_values.specs.Clock.{clock_of, clock_text}
use Rattle.ssim_values.specs.Variation.{Offset, variation_of, variation_text}
use Rattle.ssim_values.proofs.ClockLaws.{clock_of-clock_text, variation_of-variation_text}
use Rattle.ssim_columns.specs.declared.field.FieldKind.TheVariants.{StationCode, Time, PassengerTime, UtcVariation}
use Rattle.ssim_columns.specs.Numbers.{digits, is_blank}
use Rattle.ssim_columns.specs.Columns.{carried, filled, unless, fault_in, is_carried, passenger_time_of, utc_variation_of}
use Rattle.ssim_columns.proofs.lemmas.Rows.{both_true, stands_as, stands_by}
use Rattle.ssim_columns.proofs.lemmas.Slices.{slice_in}

-- n bytes that a record carries
abbrev pub IsCarried : ℕ → List ℕ → Type 0
IsCarried n text = (length text ≡ n) × IsTrue (list_all is_carried text)

pub both : (a b : Bool) → IsTrue a → IsTrue b → IsTrue (a && b)
both true b h k = k
both false b h k = absurd cc

pub carried_append : (x y : List ℕ) → IsTrue (list_all is_carried x) → IsTrue (list_all is_carried y) → IsTrue (list_all is_carried (x ++ y))
carried_append [] y h k = k
carried_append (b ∷ x) y h k = let p = both_true (is_carried b) (list_all is_carried x) h in both (is_carried b) (list_all is_carried (x ++ y)) p.0 (carried_append x y p.1 k)

carried_take : (n : ℕ) (x : List ℕ) → IsTrue (list_all is_carried x) → IsTrue (list_all is_carried (take n x))
carried_take zero x h = refl
carried_take (suc n) [] h = refl
carried_take (suc n) (b ∷ x) h = let p = both_true (is_carried b) (list_all is_carried x) h in both (is_carried b) (list_all is_carried (take n x)) p.0 (carried_take n x p.1)

carried_drop : (n : ℕ) (x : List ℕ) → IsTrue (list_all is_carried x) → IsTrue (list_all is_carried (drop n x))
carried_drop zero x h = h
carried_drop (suc n) [] h = h
carried_drop (suc n) (b ∷ x) h = carried_drop n x (both_true (is_carried b) (list_all is_carried x) h).1

-- columns within carried columns
pub carried_within : (b : List ℕ) (from to i j : ℕ) → i ≤ j → from + j ≤ to → IsTrue (list_all is_carried (slice_range b from to)) → IsTrue (list_all is_carried (slice_range b (from + i) (from + j)))
carried_within b from to i j le within h =
    let e : slice_range (slice_range b from to) i j ≡ slice_range b (from + i) (from + j) = slice_in b from to i j le within in
    let inside : IsTrue (list_all is_carried (slice_range (slice_range b from to) i j)) = carried_take (j - i) (drop i (slice_range b from to)) (carried_drop i (slice_range b from to) h) in
    rw (← e) inside

carried_is : (b : ℕ) → is_carried (carried b) ≡ true
carried_is b = elim (is_carried b) as (λ c. is_carried b ≡ c → is_carried (if c then b else 32) ≡ true) [ true ↦ λ e. e | false ↦ λ e. refl ] refl

pub filled_carried : (n : ℕ) (text : List ℕ) → IsCarried n (filled n text)
filled_carried zero text = (refl, refl)
filled_carried (suc n) [] = let ih = filled_carried n [] in (omega (arith, ih.0), ih.1)
filled_carried (suc n) (b ∷ text) = let ih = filled_carried n text in (omega (arith, ih.0), both (is_carried (carried b)) (list_all is_carried (filled n text)) (carried_is b) ih.1)

pub joined_carried : (ws : List ℕ) (ps : List (List ℕ)) → AllZip (λ w p. IsCarried w p) ws ps → length ws ≡ length ps → IsTrue (list_all is_carried (concat ps))
joined_carried [] [] h e = refl
joined_carried [] (p ∷ ps) h e = absurd h
joined_carried (w ∷ ws) [] h e = absurd h
joined_carried (w ∷ ws) (p ∷ ps) h e = carried_append p (concat ps) h.0.1 (joined_carried ws ps h.1 (omega (arith, e)))

pub joined_long : (ws : List ℕ) (ps : List (List ℕ)) → AllZip (λ w p. IsCarried w p) ws ps → AllZip (λ w p. length p ≡ w) ws ps
joined_long [] [] h = tt
joined_long [] (p ∷ ps) h = absurd h
joined_long (w ∷ ws) [] h = absurd h
joined_long (w ∷ ws) (p ∷ ps) h = (h.0.0, joined_long ws ps h.1)

-- ---- the texts of values

pub time_stands : (n : ℕ) → n ≤ 1440 → fault_in Time (clock_text n) ≡ None
time_stands n le = stands_as (clock_of (clock_text n)) n (clock_of-clock_text n le)

passenger_as : (text : List ℕ) (n : ℕ) → clock_of text ≡ Some n → fault_in PassengerTime text ≡ None
unfolding passenger_time_of
passenger_as text n h = elim (list_all is_blank text) as (λ b. unless (is_some (if b then Some None else option_map (λ t. Some t) (clock_of text))) ≡ None) [ true ↦ refl | false ↦ rw h refl ]

pub passenger_stands : (n : ℕ) → n ≤ 1440 → fault_in PassengerTime (clock_text n) ≡ None
passenger_stands n le = passenger_as (clock_text n) n (clock_of-clock_text n le)

variation_as : (text : List ℕ) (v : Offset) → variation_of text ≡ Some v → fault_in UtcVariation text ≡ None
unfolding utc_variation_of
variation_as text v h = elim (list_all is_blank text) as (λ b. unless (is_some (if b then Some None else option_map (λ w. Some w) (variation_of text))) ≡ None) [ true ↦ refl | false ↦ rw h refl ]

pub variation_stands : (v : Offset) → v.minutes ≤ 900 → fault_in UtcVariation (variation_text v) ≡ None
variation_stands v le = variation_as (variation_text v) v (variation_of-variation_text v le)

pub length_station : (t : List ℕ) → IsTrue (is_station t) → length t ≡ 3
length_station t h = let p : (length t == 3) ≡ true = (both_true (length t == 3) _ h).0 in grind (arith, nat_tests)

pub station_stands : (t : List ℕ) → IsTrue (is_station t) → fault_in StationCode t ≡ None
station_stands t h = stands_by (is_station t) h

digit_carried : (n : ℕ) → is_carried (48 + n % 10) ≡ true
digit_carried n = let lt : n % 10 < 10 = omega arith in grind (arith, nat_tests)

-- two digits, as for the date variations
pub two_carried : (m n : ℕ) → IsCarried 2 (digits 1 m ++ digits 1 n)
two_carried m n = (refl, both (is_carried (48 + m % 10)) _ (digit_carried m) (both (is_carried (48 + n % 10)) true (digit_carried n) refl))

pub digits_carried : (n : ℕ) → IsCarried 3 (digits 3 n)
digits_carried n = (refl, both (is_carried (48 + n / 10 / 10 % 10)) _ (digit_carried (n / 10 / 10)) (both (is_carried (48 + n / 10 % 10)) _ (digit_carried (n / 10)) (both (is_carried (48 + n % 10)) true (digit_carried n) refl)))

letter_carried : (b : ℕ) → IsTrue (is_letter b) → IsTrue (is_carried b)
letter_carried b h = let p = both_true (nat_le 65 b) (nat_le b 90) h in let l : nat_le 65 b ≡ true = p.0 in let m : nat_le b 90 ≡ true = p.1 in let goes : is_carried b ≡ true = grind (arith, nat_tests) in goes

pub station_carried : (t : List ℕ) → IsTrue (is_station t) → IsTrue (list_all is_carried t)
station_carried [] h = refl
station_carried (a ∷ []) h = absurd cc
station_carried (a ∷ b ∷ []) h = absurd cc
station_carried (a ∷ b ∷ c ∷ []) h =
    let p = both_true (is_letter a) (is_letter b && is_letter c) h in let q = both_true (is_letter b) (is_letter c) p.1 in
    both (is_carried a) _ (letter_carried a p.0) (both (is_carried b) _ (letter_carried b q.0) (both (is_carried c) true (letter_carried c q.1) refl))
station_carried (a ∷ b ∷ c ∷ d ∷ t) h = let n = length_station (a ∷ b ∷ c ∷ d ∷ t) h in absurd (omega (arith, n))
