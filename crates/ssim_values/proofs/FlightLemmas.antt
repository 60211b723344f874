-- What digits spell a number, and the beginning of a flight's suffix.
use Rattle.std.proofs.Common.{◌≡◌, ℕ, ◌+◌, ◌/◌, ◌%◌, ◌<◌, ◌≤◌, Bool, true, false, ◌==◌, nat_lt, if◌then◌else◌, IsTrue, List, [], ◌∷◌, ◌++◌, length, slice_index, length-append, refl, sym, ap, ◌∙◌, arith}
use Rattle.std.specs.List.{list_all}
use Rattle.std.proofs.lemmas.Bool.Decides.{nat_tests}
use Rattle.std.proofs.lemmas.List.{append-nil}
use Rattle.ssim_values.specs.Characters.{is_letter, is_digit}
use Rattle.ssim_values.specs.Flight.{FlightNumber, IsFlight, is_suffix, number_of, SpellsNumber, suffix_text, SpellsFlight, four_digits, number_text, flight_text}

short_digits : (n : ℕ) → n < 1000 → SpellsNumber n ((48 + n / 100) ∷ (48 + n / 10 % 10) ∷ (48 + n % 10) ∷ [])
short_digits n h = record { from = omega arith; to = omega arith; all = grind (arith, nat_tests); number = omega arith }

long_digits : (n : ℕ) → n ≤ 9999 → SpellsNumber n (four_digits n)
long_digits n h = record { from = omega arith; to = omega arith; all = grind (arith, nat_tests); number = omega arith }

written_if : (n : ℕ) (b : Bool) → nat_lt n 1000 ≡ b → n ≤ 9999 → SpellsNumber n (if b then (48 + n / 100) ∷ (48 + n / 10 % 10) ∷ (48 + n % 10) ∷ [] else four_digits n)
written_if n true e h = short_digits n (grind (arith, nat_tests))
written_if n false e h = long_digits n h

pub SpellsNumber-number_text : (n : ℕ) → n ≤ 9999 → SpellsNumber n (number_text n)
SpellsNumber-number_text n h = written_if n (nat_lt n 1000) refl h

pub SpellsFlight-flight_text : (f : FlightNumber) → IsFlight f → SpellsFlight f (flight_text f)
SpellsFlight-flight_text f h =
    record { digits = number_text f.number; is_number = SpellsNumber-number_text f.number h.number_to; suffixed = h.suffixed; spelled = refl }

-- three or four digits alone are a flight without a suffix
pub SpellsFlight-written : (n s : ℕ) (t : List ℕ) → n ≤ 9999 → s ≡ 32 → t ≡ number_text n → SpellsFlight (record { number = n; suffix = s }) t
SpellsFlight-written n s t h blank e =
    record { digits = number_text n; is_number = SpellsNumber-number_text n h; suffixed = rw blank refl; spelled = rw blank (e ∙ sym (append-nil (number_text n))) }

-- ---- a text spells one flight at most

not_both : (b : ℕ) → is_letter b ≡ true → is_digit b ≡ true → ⊥
not_both b l d = grind (arith, nat_tests)

ends_in_digit : (rest : List ℕ) (s : ℕ) → list_all is_digit (rest ++ s ∷ []) ≡ true → is_digit s ≡ true
ends_in_digit [] s all = grind arith
ends_in_digit (x ∷ rest) s all = ends_in_digit rest s (grind arith)

last_same : (xs ys : List ℕ) (a b : ℕ) → xs ++ a ∷ [] ≡ ys ++ b ∷ [] → (xs ≡ ys) × (a ≡ b)
last_same [] [] a b e = (refl, cc)
last_same [] (y ∷ ys) a b e = absurd (omega (arith, length-append ys (b ∷ []), ap length e))
last_same (x ∷ xs) [] a b e = absurd (omega (arith, length-append xs (a ∷ []), ap length e))
last_same (x ∷ xs) (y ∷ ys) a b e =
    let rest : xs ++ a ∷ [] ≡ ys ++ b ∷ [] = cc in
    let same = last_same xs ys a b rest in
    let first : x ≡ y = cc in
    (rw (first, same.0) refl, same.1)

letter_of : (s : ℕ) → IsTrue (is_suffix s) → (s == 32) ≡ false → is_letter s ≡ true
letter_of s is e = grind (arith, nat_tests)

-- the end of the digits
parted : (xs ys : List ℕ) (a b : ℕ) (p q : Bool) → (a == 32) ≡ p → (b == 32) ≡ q → list_all is_digit xs ≡ true → list_all is_digit ys ≡ true → IsTrue (is_suffix a) → IsTrue (is_suffix b) → xs ++ (if p then [] else a ∷ []) ≡ ys ++ (if q then [] else b ∷ []) → (xs ≡ ys) × (a ≡ b)
parted xs ys a b true true p q all all₂ s s₂ e =
    let same : a ≡ b = grind (arith, nat_tests) in
    (sym (append-nil xs) ∙ e ∙ append-nil ys, same)
parted xs ys a b true false p q all all₂ s s₂ e =
    let whole : xs ≡ ys ++ b ∷ [] = sym (append-nil xs) ∙ e in
    absurd (not_both b (letter_of b s₂ q) (ends_in_digit ys b (ap (list_all is_digit) (sym whole) ∙ all)))
parted xs ys a b false true p q all all₂ s s₂ e =
    let whole : ys ≡ xs ++ a ∷ [] = sym (append-nil ys) ∙ sym e in
    absurd (not_both a (letter_of a s p) (ends_in_digit xs a (ap (list_all is_digit) (sym whole) ∙ all₂)))
parted xs ys a b false false p q all all₂ s s₂ e = last_same xs ys a b e

same_flight : (f g : FlightNumber) → f.number ≡ g.number → f.suffix ≡ g.suffix → f ≡ g
same_flight f g n s =
    let numbers : f ≡ record { number = g.number; suffix = f.suffix } = ap (λ (n : ℕ). record { number = n; suffix = f.suffix }) n in
    let suffixes : record { number = g.number; suffix = f.suffix } ≡ g = ap (λ (s : ℕ). record { number = g.number; suffix = s }) s in
    numbers ∙ suffixes

pub SpellsFlight-unique : (f g : FlightNumber) (t : List ℕ) → SpellsFlight f t → SpellsFlight g t → f ≡ g
SpellsFlight-unique f g t p q =
    let at = parted p.digits q.digits f.suffix g.suffix (f.suffix == 32) (g.suffix == 32) refl refl p.is_number.all q.is_number.all p.suffixed q.suffixed (sym p.spelled ∙ q.spelled) in
    same_flight f g (sym p.is_number.number ∙ ap number_of at.0 ∙ q.is_number.number) at.1

-- a flight begins with a digit
pub SpellsFlight-digit : (f : FlightNumber) (t : List ℕ) → SpellsFlight f t → is_digit (slice_index t 0) ≡ true
SpellsFlight-digit f t p = rw p.spelled (first p.digits (suffix_text f.suffix) p.is_number.from p.is_number.all)
  where
    first : (digits rest : List ℕ) → 1 ≤ length digits → list_all is_digit digits ≡ true → is_digit (slice_index (digits ++ rest) 0) ≡ true
    first [] rest n all = absurd (omega arith)
    first (d ∷ digits) rest n all = grind arith

pub SpellsFlight-some : (f : FlightNumber) (t : List ℕ) → SpellsFlight f t → 1 ≤ length t
SpellsFlight-some f t p = rw p.spelled (omega (arith, p.is_number.from, length-append p.digits (suffix_text f.suffix)))
