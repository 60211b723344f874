-- Two rising lists of the flights of some records are one list, so their numbers are one.
use Rattle.std.proofs.Common.{◌≡◌, ◌∙◌, ℕ, ◌+◌, ◌<◌, ◌≤◌, nat_eq, nat_lt, Bool, true, false, true≢false, ◌||◌, List, [], ◌∷◌, refl, sym, ap, ap₂, subst, arith}
use Rattle.std.specs.List.{list_any}
use Rattle.std.proofs.lemmas.Bool.Decides.{nat_tests}
use Rattle.ssim_values.specs.Flight.{FlightNumber, IsFlight}
use Rattle.ssim_records.specs.declared.record.Record.{Record}
use Rattle.ssim_base.specs.BaseSeen.{AreFlights}
use Rattle.ssim_base.specs.ReadBack.{Rise, place_of}
use Rattle.ssim_base.specs.Timetable.{same_flight}
use Rattle.ssim_base.specs.Export.{flight_at}
use Rattle.ssim_base.proofs.Places.{flight-place, same_flight-place}

eq_self : (n : ℕ) → nat_eq n n ≡ true
eq_self n = grind (arith, nat_tests)

eq_less : (n m : ℕ) → n < m → nat_eq n m ≡ false
eq_less n m less = grind (arith, nat_tests)

eq_same : (n m : ℕ) → nat_eq n m ≡ true → n ≡ m
eq_same n m e = grind (arith, nat_tests)

-- a flight of a lower rank is not among flights that rise
absent : (low : ℕ) (fs : List FlightNumber) (g : FlightNumber) → Rise low fs → IsFlight g → place_of g < low → list_any (same_flight g) fs ≡ false
absent low [] g rise is less = refl
absent low (f ∷ fs) g rise is less =
    let from : low ≤ place_of f = rise.0 in
    let lower : place_of g < place_of f = omega arith in
    ap₂ (λ (a b : Bool). a || b) (same_flight-place g f is rise.1 ∙ eq_less (place_of g) (place_of f) lower)
    (absent (place_of f + 1) fs g rise.2 is (omega arith))

first_is_among : (f : FlightNumber) (fs : List FlightNumber) → IsFlight f → list_any (same_flight f) (f ∷ fs) ≡ true
first_is_among f fs is = ap (λ (b : Bool). b || list_any (same_flight f) fs) (same_flight-place f f is is ∙ eq_self (place_of f))

-- flights are among both lists or among none
abbrev HaveSame : List FlightNumber → List FlightNumber → Type 0
HaveSame fs gs = (x : FlightNumber) → IsFlight x → list_any (same_flight x) fs ≡ list_any (same_flight x) gs

-- the first flight of a list has no lower rank than that of the other
no_less : (f g : FlightNumber) (fs gs : List FlightNumber) → IsFlight f → IsFlight g → Rise (place_of g + 1) gs → HaveSame (f ∷ fs) (g ∷ gs) → place_of f < place_of g → ⊥
no_less f g fs gs is is_g rise same less =
    let first : list_any (same_flight f) (g ∷ gs) ≡ false = absent (place_of g) (g ∷ gs) f (omega arith, is_g, rise) is less in
    true≢false (sym (first_is_among f fs is) ∙ same f is ∙ first)

-- later flights
later_same : (f : FlightNumber) (fs gs : List FlightNumber) → IsFlight f → Rise (place_of f + 1) fs → Rise (place_of f + 1) gs → HaveSame (f ∷ fs) (f ∷ gs) → HaveSame fs gs
later_same f fs gs is rise rise_g same x is_x = by (same_flight x f) refl (same x is_x)
  where
    by : (b : Bool) → same_flight x f ≡ b → (b || list_any (same_flight x) fs) ≡ (b || list_any (same_flight x) gs) → list_any (same_flight x) fs ≡ list_any (same_flight x) gs
    by true e all =
        let at = eq_same (place_of x) (place_of f) (sym (same_flight-place x f is_x is) ∙ e) in
        absent (place_of f + 1) fs x rise is_x (omega (arith, at)) ∙ sym (absent (place_of f + 1) gs x rise_g is_x (omega (arith, at)))
    by false e all = all

one_list : (low from : ℕ) (fs gs : List FlightNumber) → Rise low fs → Rise from gs → HaveSame fs gs → fs ≡ gs
one_list low from [] [] rise rise_g same = refl
one_list low from [] (g ∷ gs) rise rise_g same = absurd (true≢false (sym (first_is_among g gs rise_g.1) ∙ sym (same g rise_g.1)))
one_list low from (f ∷ fs) [] rise rise_g same = absurd (true≢false (sym (first_is_among f fs rise.1) ∙ same f rise.1))
one_list low from (f ∷ fs) (g ∷ gs) rise rise_g same = by (nat_lt (place_of f) (place_of g)) refl (nat_lt (place_of g) (place_of f)) refl (one_list (place_of f + 1) (place_of f + 1) fs gs rise.2)
  where
    turned : HaveSame (g ∷ gs) (f ∷ fs)
    turned x is = sym (same x is)

    by : (a : Bool) → nat_lt (place_of f) (place_of g) ≡ a → (b : Bool) → nat_lt (place_of g) (place_of f) ≡ b
        → (Rise (place_of f + 1) gs → HaveSame fs gs → fs ≡ gs) → f ∷ fs ≡ g ∷ gs
    by true less b e next = absurd (no_less f g fs gs rise.1 rise_g.1 rise_g.2 same (grind (arith, nat_tests)))
    by false e true less next = absurd (no_less g f gs fs rise_g.1 rise.1 rise.2 turned (grind (arith, nat_tests)))
    by false e false e_too next =
        let at : place_of f ≡ place_of g = grind (arith, nat_tests) in
        let equal : f ≡ g = sym (flight-place f rise.1) ∙ ap flight_at at ∙ flight-place g rise_g.1 in
        let rise_too : Rise (place_of f + 1) gs = subst (λ (n : ℕ). Rise (n + 1) gs) (sym at) rise_g.2 in
        let others : HaveSame (f ∷ fs) (f ∷ gs) = subst (λ (x : FlightNumber). HaveSame (f ∷ fs) (x ∷ gs)) (sym equal) same in
        ap₂ (λ (x : FlightNumber) (xs : List FlightNumber). x ∷ xs) equal (next rise_too (later_same f fs gs rise.1 rise.2 rise_too others))

-- the flights of the leg records of a data set are one list
pub one_count : (records : List Record) (fs gs : List FlightNumber) → AreFlights records fs → AreFlights records gs → fs ≡ gs
one_count records fs gs one other = one_list 0 0 fs gs one.rising other.rising (λ x is. one.each x is ∙ sym (other.each x is))
