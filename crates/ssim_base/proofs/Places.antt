-- A flight and its rank among all flights determine each other, so what holds of the numbers of a
-- range holds of all flights.
use Rattle.std.proofs.Common.{◌≡◌, ℕ, ◌+◌, ◌-◌, ◌*◌, ◌/◌, ◌%◌, ◌<◌, ◌≤◌, Bool, true, false, nat_eq, if◌then◌else◌, IsTrue, refl, ap, sym, ◌∙◌, arith}
use Rattle.std.proofs.lemmas.Bool.Decides.{nat_tests}
use Rattle.ssim_values.specs.Flight.{FlightNumber, IsFlight, is_suffix}
use Rattle.ssim_base.specs.Timetable.{same_flight}
use Rattle.ssim_base.specs.Export.{flight_count, flight_at}
use Rattle.ssim_base.specs.ReadBack.{place_of}

abbrev numbered_flight : ℕ → ℕ → FlightNumber
numbered_flight n s = record { number = n; suffix = s }

abbrev suffix_at : ℕ → ℕ
suffix_at r = if nat_eq r 0 then 32 else 64 + r

abbrev rank : ℕ → ℕ
rank s = if nat_eq s 32 then 0 else s - 64

rank-suffix : (r : ℕ) → rank (suffix_at r) ≡ r
rank-suffix r = by (nat_eq r 0) refl
  where
    by : (b : Bool) → nat_eq r 0 ≡ b → rank (if b then 32 else 64 + r) ≡ r
    by true e = grind (arith, nat_tests)
    by false e =
        let other : nat_eq (64 + r) 32 ≡ false = grind (arith, nat_tests) in
        ap (λ b. if b then 0 else (64 + r) - 64) other ∙ omega arith

pub place-flight : (n : ℕ) → place_of (flight_at n) ≡ n
place-flight n =
    let whole : 27 * (n / 27) + n % 27 ≡ n = omega arith in
    ap (λ r. 27 * (n / 27) + r) (rank-suffix (n % 27)) ∙ whole

suffix-rank : (s : ℕ) → IsTrue (is_suffix s) → (suffix_at (rank s) ≡ s) × (rank s < 27)
suffix-rank s h = by (nat_eq s 32) refl
  where
    by : (b : Bool) → nat_eq s 32 ≡ b → (suffix_at (if b then 0 else s - 64) ≡ s) × ((if b then 0 else s - 64) < 27)
    by true e =
        let blank : s ≡ 32 = grind (arith, nat_tests) in
        (sym blank, omega arith)
    by false e =
        let low : 65 ≤ s = grind (arith, nat_tests) in
        let high : s ≤ 90 = grind (arith, nat_tests) in
        let some : nat_eq (s - 64) 0 ≡ false = grind (arith, nat_tests) in
        (ap (λ b. if b then 32 else 64 + (s - 64)) some ∙ omega arith, omega arith)

pub flight-place : (f : FlightNumber) → IsFlight f → flight_at (place_of f) ≡ f
flight-place f is =
    let s = suffix-rank f.suffix is.suffixed in
    let less : rank f.suffix < 27 = s.1 in
    let number : (27 * f.number + rank f.suffix) / 27 ≡ f.number = omega arith in
    let rest : (27 * f.number + rank f.suffix) % 27 ≡ rank f.suffix = omega arith in
    ap (λ n. numbered_flight n (suffix_at ((27 * f.number + rank f.suffix) % 27))) number
    ∙ ap (λ r. numbered_flight f.number (suffix_at r)) rest
    ∙ ap (λ r. numbered_flight f.number r) s.0

pub place-below : (f : FlightNumber) → IsFlight f → place_of f < flight_count
unfolding flight_count
place-below f is =
    let to : f.number ≤ 9999 = is.number_to in
    let less : rank f.suffix < 27 = (suffix-rank f.suffix is.suffixed).1 in
    omega arith

suffix-is : (r : ℕ) → r < 27 → IsTrue (is_suffix (suffix_at r))
suffix-is r h = by (nat_eq r 0) refl
  where
    by : (b : Bool) → nat_eq r 0 ≡ b → IsTrue (is_suffix (if b then 32 else 64 + r))
    by true e = refl
    by false e = grind (arith, nat_tests)

pub flight-is : (n : ℕ) → n < flight_count → IsFlight (flight_at n)
unfolding flight_count
flight-is n h = record { number_to = omega arith; suffixed = suffix-is (n % 27) (omega arith) }

eq-self : (n : ℕ) → nat_eq n n ≡ true
eq-self n = grind (arith, nat_tests)

pub same-self : (f : FlightNumber) → same_flight f f ≡ true
same-self f = rw (eq-self f.number, eq-self f.suffix) refl

pub same-true : (f g : FlightNumber) → same_flight f g ≡ true → f ≡ g
same-true f g h =
    let number : f.number ≡ g.number = grind (arith, nat_tests) in
    let suffix : f.suffix ≡ g.suffix = grind (arith, nat_tests) in
    ap (λ n. numbered_flight n f.suffix) number ∙ ap (λ s. numbered_flight g.number s) suffix

pub same-places : (i j : ℕ) → same_flight (flight_at i) (flight_at j) ≡ nat_eq i j
same-places i j = by (same_flight (flight_at i) (flight_at j)) (nat_eq i j) refl refl
  where
    by : (x y : Bool) → same_flight (flight_at i) (flight_at j) ≡ x → nat_eq i j ≡ y → x ≡ y
    by true true p q = refl
    by false false p q = refl
    by true false p q =
        let one : i ≡ j = sym (place-flight i) ∙ ap place_of (same-true (flight_at i) (flight_at j) p) ∙ place-flight j in
        grind (arith, nat_tests)
    by false true p q =
        let one : i ≡ j = grind (arith, nat_tests) in
        let same : same_flight (flight_at i) (flight_at j) ≡ true = ap (λ k. same_flight (flight_at k) (flight_at j)) one ∙ same-self (flight_at j) in
        cc

eq-turned : (m n : ℕ) → nat_eq m n ≡ nat_eq n m
eq-turned m n = grind (arith, nat_tests)

pub same-turned : (f g : FlightNumber) → same_flight f g ≡ same_flight g f
same-turned f g = rw (eq-turned f.number g.number, eq-turned f.suffix g.suffix) refl

suffix_below : (s : ℕ) → IsTrue (is_suffix s) → rank s < 27
suffix_below s h = grind (arith, nat_tests)

suffix_told : (s t : ℕ) → IsTrue (is_suffix s) → IsTrue (is_suffix t) → rank s ≡ rank t → s ≡ t
suffix_told s t h k e = grind (arith, nat_tests)

told : (n m s t : ℕ) → s < 27 → t < 27 → 27 * n + s ≡ 27 * m + t → (n ≡ m) × (s ≡ t)
told n m s t low high e = (omega arith, omega arith)

both_same : (a b : FlightNumber) → a.number ≡ b.number → a.suffix ≡ b.suffix → same_flight a b ≡ true
both_same a b n s = grind (arith, nat_tests)

same_place : (a b : FlightNumber) → same_flight a b ≡ true → place_of a ≡ place_of b
same_place a b e =
    let number : a.number ≡ b.number = grind (arith, nat_tests) in
    let suffix : a.suffix ≡ b.suffix = grind (arith, nat_tests) in
    rw (number, suffix) refl

-- two flights are the same exactly if their ranks are
pub same_flight-place : (a b : FlightNumber) → IsFlight a → IsFlight b → same_flight a b ≡ nat_eq (place_of a) (place_of b)
same_flight-place a b f g = by (same_flight a b) (nat_eq (place_of a) (place_of b)) refl refl
  where
    by : (x y : Bool) → same_flight a b ≡ x → nat_eq (place_of a) (place_of b) ≡ y → x ≡ y
    by true true p q = refl
    by false false p q = refl
    by true false p q = let e = same_place a b p in absurd (grind (arith, nat_tests))
    by false true p q =
        let same : place_of a ≡ place_of b = grind (arith, nat_tests) in
        let parts = told a.number b.number (rank a.suffix) (rank b.suffix) (suffix_below a.suffix f.suffixed) (suffix_below b.suffix g.suffixed) same in
        let yes = both_same a b parts.0 (suffix_told a.suffix b.suffix f.suffixed g.suffixed parts.1) in
        cc
