-- Days of operation are read from exactly the texts that spell them: the digits of the text decide
-- the days.
use Rattle.std.proofs.Common.{◌≡◌, ℕ, ◌+◌, ◌<◌, ◌≤◌, Bool, true, false, ◌&&◌, nat_le, if◌then◌else◌, List, [], ◌∷◌, length, refl, sym, ap, ◌∙◌, arith, Some, None}
use Rattle.std.specs.Str.{bytes_eq}
use Rattle.std.proofs.lemmas.Bool.Decides.{nat_tests}
use Rattle.std.proofs.lemmas.Slice.Eq.{bytes_eq-Decides}
use Rattle.ssim_values.specs.DayMask.{IsMask, SpellsDays, days_of, digits_from, digits_in, digits_of, places_of, without_blanks}
use Rattle.ssim_values.proofs.DaysLemmas.{digits_in-spelled, length-places_from, places_from-blanks}

-- the test of a text whose digits are those of some days
abbrev stands : List ℕ → Bool
stands text =
    (nat_le 1 (length text) && nat_le (length text) 7)
    && (nat_le 1 (length (without_blanks text)) && bytes_eq (without_blanks text) (digits_of (digits_in text)))

if_stands : (days : List Bool) (text : List ℕ) (b : Bool) → stands text ≡ b → (if b then Some (digits_in text) else None) ≡ Some days → SpellsDays days text
if_stands days text true is e =
    let same : digits_in text ≡ days = cc in
    let equal : bytes_eq (without_blanks text) (digits_of (digits_in text)) ≡ true = grind (arith, nat_tests) in
    let digits : without_blanks text ≡ digits_of (digits_in text) = (bytes_eq-Decides _ _).0 equal in
    let some : 1 ≤ length (without_blanks text) = grind (arith, nat_tests) in
    let some_digit : 0 < length (digits_of days) = rw (← same, ← digits) (omega arith) in
    record { seven = rw (← same) refl; some = some_digit; from = grind (arith, nat_tests); to = grind (arith, nat_tests); digits = digits ∙ ap digits_of same }
if_stands days text false is e = absurd (cc)

pub days_of-sound : (days : List Bool) (text : List ℕ) → days_of text ≡ Some days → SpellsDays days text
unfolding days_of
days_of-sound days text e = if_stands days text (stands text) refl e

pub days_of-complete : (days : List Bool) (text : List ℕ) → SpellsDays days text → days_of text ≡ Some days
unfolding days_of
days_of-complete days text p =
    let same : digits_in text ≡ days = digits_in-spelled days text p.seven p.digits in
    let equal : bytes_eq (without_blanks text) (digits_of (digits_in text)) ≡ true = (bytes_eq-Decides _ _).1 (p.digits ∙ ap digits_of (sym same)) in
    let some : 1 ≤ length (without_blanks text) = rw p.digits (omega (arith, p.some)) in
    let all : stands text ≡ true = grind (arith, nat_tests, p.from, p.to) in
    rw all (ap Some same)

pub SpellsDays-places_of : (days : List Bool) → IsMask days → SpellsDays days (places_of days)
SpellsDays-places_of days m =
    let long = length-places_from 49 days in
    record { seven = m.seven; some = m.some; from = omega (arith, m.seven); to = omega (arith, m.seven); digits = places_from-blanks 49 days (omega arith) }

length-digits_from : (d : ℕ) (days : List Bool) → length (digits_from d days) ≤ length days
length-digits_from d [] = omega arith
length-digits_from d (true ∷ days) = omega (arith, length-digits_from (d + 1) days)
length-digits_from d (false ∷ days) = omega (arith, length-digits_from (d + 1) days)

without_blanks-digits_from : (d : ℕ) (days : List Bool) → 32 < d → without_blanks (digits_from d days) ≡ digits_from d days
without_blanks-digits_from d [] h = refl
without_blanks-digits_from d (true ∷ days) h = grind (arith, without_blanks-digits_from (d + 1) days (omega arith))
without_blanks-digits_from d (false ∷ days) h = without_blanks-digits_from (d + 1) days (omega arith)

pub SpellsDays-digits_of : (days : List Bool) → IsMask days → SpellsDays days (digits_of days)
SpellsDays-digits_of days m =
    let long = length-digits_from 49 days in
    record { seven = m.seven; some = m.some; from = omega (arith, m.some); to = omega (arith, m.seven); digits = without_blanks-digits_from 49 days (omega arith) }

pub days_of-places_of : (days : List Bool) → IsMask days → days_of (places_of days) ≡ Some days
days_of-places_of days m = days_of-complete days (places_of days) (SpellsDays-places_of days m)

pub days_of-digits_of : (days : List Bool) → IsMask days → days_of (digits_of days) ≡ Some days
days_of-digits_of days m = days_of-complete days (digits_of days) (SpellsDays-digits_of days m)
