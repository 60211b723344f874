-- A time and a variation are read from exactly the texts that spell them: their hours and minutes
-- are two digits each.
use Rattle.std.proofs.Common.{◌≡◌, ℕ, ◌+◌, ◌*◌, ◌/◌, ◌%◌, ◌<◌, ◌≤◌, Bool, true, false, ◌&&◌, ◌==◌, nat_lt, nat_le, if◌then◌else◌, List, [], ◌∷◌, refl, ap, ◌∙◌, arith, Option, Some, None}
use Rattle.std.proofs.lemmas.Bool.Decides.{nat_tests}
use Rattle.ssim_values.specs.Characters.{two_digits_of}
use Rattle.ssim_values.specs.Clock.{clock_text, SpellsClock, minutes_to, hours_and_minutes, clock_of}
use Rattle.ssim_values.specs.Variation.{Offset, SpellsVariation, signed, variation_of, variation_text}
use Rattle.ssim_values.proofs.SpellingLemmas.{two_digits_of-sound, two_digits_of-complete}

-- hours and minutes that were found
record HasParts (limit : ℕ) (h m : Option ℕ) (n : ℕ) : Type 0 where
  hours : ℕ
  minutes : ℕ
  hours_are : h ≡ Some hours
  minutes_are : m ≡ Some minutes
  below : minutes < 60
  to : n ≤ limit
  number : hours * 60 + minutes ≡ n

parts_if : (limit h m n : ℕ) (b : Bool) → (nat_lt m 60 && nat_le (h * 60 + m) limit) ≡ b → (if b then Some (h * 60 + m) else None) ≡ Some n → HasParts limit (Some h) (Some m) n
parts_if limit h m n true is e =
    let number : h * 60 + m ≡ n = cc in
    let most : h * 60 + m ≤ limit = grind (arith, nat_tests) in
    record { hours = h; minutes = m; hours_are = refl; minutes_are = refl; below = grind (arith, nat_tests); to = omega arith; number = number }
parts_if limit h m n false is e = absurd (cc)

parts : (limit : ℕ) (h m : Option ℕ) (n : ℕ) → minutes_to limit h m ≡ Some n → HasParts limit h m n
parts limit (Some h) (Some m) n e = parts_if limit h m n (nat_lt m 60 && nat_le (h * 60 + m) limit) refl e
parts limit (Some h) None n e = absurd (cc)
parts limit None m n e = absurd (cc)

four : (limit h₁ h₂ m₁ m₂ n : ℕ) → HasParts limit (two_digits_of h₁ h₂) (two_digits_of m₁ m₂) n → (n ≤ limit) × (h₁ ∷ h₂ ∷ m₁ ∷ m₂ ∷ [] ≡ clock_text n)
four limit h₁ h₂ m₁ m₂ n p =
    let h = two_digits_of-sound h₁ h₂ p.hours p.hours_are in
    let m = two_digits_of-sound m₁ m₂ p.minutes p.minutes_are in
    let hours : n / 60 ≡ p.hours = omega (arith, p.below, p.number) in
    let minutes : n % 60 ≡ p.minutes = omega (arith, p.below, p.number) in
    (p.to, rw (hours, minutes, h.1, h.2, m.1, m.2) refl)

pub hours_and_minutes-sound : (limit n : ℕ) (t : List ℕ) → hours_and_minutes limit t ≡ Some n → (n ≤ limit) × (t ≡ clock_text n)
hours_and_minutes-sound limit n (h₁ ∷ h₂ ∷ m₁ ∷ m₂ ∷ []) e = four limit h₁ h₂ m₁ m₂ n (parts limit _ _ n e)
hours_and_minutes-sound limit n [] e = absurd (cc)
hours_and_minutes-sound limit n (a ∷ []) e = absurd (cc)
hours_and_minutes-sound limit n (a ∷ b ∷ []) e = absurd (cc)
hours_and_minutes-sound limit n (a ∷ b ∷ c ∷ []) e = absurd (cc)
hours_and_minutes-sound limit n (a ∷ b ∷ c ∷ d ∷ f ∷ xs) e = absurd (cc)

pub hours_and_minutes-clock_text : (limit n : ℕ) → n ≤ limit → limit < 6000 → hours_and_minutes limit (clock_text n) ≡ Some n
hours_and_minutes-clock_text limit n h low =
    let hours : n / 60 < 100 = omega arith in
    let minutes : n % 60 < 100 = omega arith in
    let whole : n / 60 * 60 + n % 60 ≡ n = omega arith in
    let valid : (nat_lt (n % 60) 60 && nat_le n limit) ≡ true = grind (arith, nat_tests) in
    rw (two_digits_of-complete (n / 60) hours, two_digits_of-complete (n % 60) minutes, whole, valid) refl

pub clock_of-sound : (n : ℕ) (t : List ℕ) → clock_of t ≡ Some n → SpellsClock n t
unfolding clock_of
clock_of-sound n t e = let h = hours_and_minutes-sound 1440 n t e in record { to = h.0; spelled = h.1 }

pub clock_of-clock_text : (n : ℕ) → n ≤ 1440 → clock_of (clock_text n) ≡ Some n
unfolding clock_of
clock_of-clock_text n h = hours_and_minutes-clock_text 1440 n h (omega arith)

pub clock_of-complete : (n : ℕ) (t : List ℕ) → SpellsClock n t → clock_of t ≡ Some n
clock_of-complete n t p = ap clock_of p.spelled ∙ clock_of-clock_text n p.to

-- ---- variations

signed-sound : (negative : Bool) (o : Option ℕ) (v : Offset) → signed negative o ≡ Some v → (o ≡ Some v.minutes) × (negative ≡ v.negative)
signed-sound negative None v e = absurd (cc)
signed-sound negative (Some m) v e =
    let same : m ≡ v.minutes = cc in
    let sign : negative ≡ v.negative = cc in
    (ap Some same, sign)

of_sign : (sign : ℕ) (clock : List ℕ) (v : Offset) (negative : Bool) → sign ≡ (if negative then 45 else 43) → signed negative (hours_and_minutes 900 clock) ≡ Some v → SpellsVariation v (sign ∷ clock)
of_sign sign clock v negative is e =
    let s = signed-sound negative (hours_and_minutes 900 clock) v e in
    let h = hours_and_minutes-sound 900 v.minutes clock s.0 in
    record { to = h.0; spelled = rw (is, h.1, s.1) refl }

sign_cases : (sign : ℕ) (clock : List ℕ) (v : Offset) (plus minus : Bool) → (sign == 43) ≡ plus → (sign == 45) ≡ minus → (if plus then signed false (hours_and_minutes 900 clock) else (if minus then signed true (hours_and_minutes 900 clock) else None)) ≡ Some v → SpellsVariation v (sign ∷ clock)
sign_cases sign clock v true minus p m e = of_sign sign clock v false (grind (arith, nat_tests)) e
sign_cases sign clock v false true p m e = of_sign sign clock v true (grind (arith, nat_tests)) e
sign_cases sign clock v false false p m e = absurd (cc)

pub variation_of-sound : (v : Offset) (t : List ℕ) → variation_of t ≡ Some v → SpellsVariation v t
unfolding variation_of
variation_of-sound v [] e = absurd (cc)
variation_of-sound v (sign ∷ clock) e = sign_cases sign clock v (sign == 43) (sign == 45) refl refl e

written : (negative : Bool) (n : ℕ) → n ≤ 900 → variation_of ((if negative then 45 else 43) ∷ clock_text n) ≡ Some (record { negative = negative; minutes = n })
unfolding variation_of
written true n h = ap (signed true) (hours_and_minutes-clock_text 900 n h (omega arith))
written false n h = ap (signed false) (hours_and_minutes-clock_text 900 n h (omega arith))

pub variation_of-variation_text : (v : Offset) → v.minutes ≤ 900 → variation_of (variation_text v) ≡ Some v
variation_of-variation_text v h = written v.negative v.minutes h

pub variation_of-complete : (v : Offset) (t : List ℕ) → SpellsVariation v t → variation_of t ≡ Some v
variation_of-complete v t p = ap variation_of p.spelled ∙ variation_of-variation_text v p.to
