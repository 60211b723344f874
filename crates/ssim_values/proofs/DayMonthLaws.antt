-- A day of a month is read from exactly the texts that spell it, part by part.
use Rattle.std.proofs.Common.{◌≡◌, ℕ, ◌+◌, ◌/◌, ◌%◌, ◌<◌, Bool, true, false, ◌&&◌, nat_le, if◌then◌else◌, List, [], ◌∷◌, ◌++◌, length, refl, sym, ap, ◌∙◌, arith, Option, Some, None}
use Rattle.std.proofs.lemmas.Bool.Decides.{nat_tests}
use Rattle.ssim_values.specs.Calendar.{IsDayMonth, month_length}
use Rattle.ssim_values.specs.Characters.{two_digits, two_digits_of}
use Rattle.ssim_values.specs.Day.{month_name, month_named}
use Rattle.ssim_values.specs.DayMonth.{MonthDay, month_day_text, SpellsDayMonth, month_day, month_day_of}
use Rattle.ssim_values.proofs.SpellingLemmas.{month_named-complete, month_named-sound, two_digits_of-sound, two_digits_of-complete}
use Rattle.ssim_values.proofs.TextLemmas.{length-month_name}

-- some year has the day
abbrev is_day_month : ℕ → ℕ → Bool
is_day_month m d = (nat_le 1 m && nat_le m 12) && (nat_le 1 d && nat_le d (month_length 2000 m))

IsDayMonth-tested : (m d : ℕ) → is_day_month m d ≡ true → IsDayMonth m d
IsDayMonth-tested m d e =
    record { month_from = grind (arith, nat_tests); month_to = grind (arith, nat_tests); day_from = grind (arith, nat_tests); day_to = grind (arith, nat_tests) }

tested-IsDayMonth : (m d : ℕ) → IsDayMonth m d → is_day_month m d ≡ true
tested-IsDayMonth m d h = grind (arith, nat_tests, h.month_from, h.month_to, h.day_from, h.day_to)

-- the day that was found, part by part
record HasParts (m d : Option ℕ) (x : MonthDay) : Type 0 where
  month_is : m ≡ Some x.month
  day_is : d ≡ Some x.day
  is_date : IsDayMonth x.month x.day

parts_if : (m d : ℕ) (x : MonthDay) (b : Bool) → is_day_month m d ≡ b → (if b then Some (record { month = m; day = d }) else None) ≡ Some x → HasParts (Some m) (Some d) x
parts_if m d x true is e =
    let same : m ≡ x.month = cc in
    let here : d ≡ x.day = cc in
    record { month_is = ap Some same; day_is = ap Some here; is_date = rw (same, here) at (IsDayMonth-tested m d is) }
parts_if m d x false is e = absurd (cc)

parts : (m d : Option ℕ) (x : MonthDay) → month_day m d ≡ Some x → HasParts m d x
parts (Some m) (Some d) x e = parts_if m d x (is_day_month m d) refl e
parts (Some m) None x e = absurd (cc)
parts None d x e = absurd (cc)

five : (d₁ d₂ m₁ m₂ m₃ : ℕ) (x : MonthDay) → HasParts (month_named (m₁ ∷ m₂ ∷ m₃ ∷ [])) (two_digits_of d₁ d₂) x → SpellsDayMonth x (d₁ ∷ d₂ ∷ m₁ ∷ m₂ ∷ m₃ ∷ [])
five d₁ d₂ m₁ m₂ m₃ x p =
    let m = month_named-sound (m₁ ∷ m₂ ∷ m₃ ∷ []) x.month p.month_is in
    let d = two_digits_of-sound d₁ d₂ x.day p.day_is in
    record { is_date = p.is_date; spelled = rw (m.2, d.1, d.2) refl }

pub month_day_of-sound : (x : MonthDay) (t : List ℕ) → month_day_of t ≡ Some x → SpellsDayMonth x t
unfolding month_day_of
month_day_of-sound x (d₁ ∷ d₂ ∷ m₁ ∷ m₂ ∷ m₃ ∷ []) e = five d₁ d₂ m₁ m₂ m₃ x (parts _ _ x e)
month_day_of-sound x [] e = absurd (cc)
month_day_of-sound x (a ∷ []) e = absurd (cc)
month_day_of-sound x (a ∷ b ∷ []) e = absurd (cc)
month_day_of-sound x (a ∷ b ∷ c ∷ []) e = absurd (cc)
month_day_of-sound x (a ∷ b ∷ c ∷ d ∷ []) e = absurd (cc)
month_day_of-sound x (a ∷ b ∷ c ∷ d ∷ f ∷ g ∷ xs) e = absurd (cc)

read_parts : (d : ℕ) (name : List ℕ) → length name ≡ 3 → month_day_of (two_digits d ++ name) ≡ month_day (month_named name) (two_digits_of (48 + d / 10) (48 + d % 10))
unfolding month_day_of
read_parts d (a ∷ b ∷ c ∷ []) h = refl
read_parts d [] h = absurd (omega arith)
read_parts d (a ∷ []) h = absurd (omega arith)
read_parts d (a ∷ b ∷ []) h = absurd (omega arith)
read_parts d (a ∷ b ∷ c ∷ x ∷ xs) h = absurd (omega arith)

day_bound : (m d : ℕ) → IsDayMonth m d → d < 100
day_bound m d h = grind (arith, h.day_to)

read_back : (m d : ℕ) → IsDayMonth m d → month_day_of (two_digits d ++ month_name m) ≡ Some (record { month = m; day = d })
read_back m d h =
    let short = day_bound m d h in
    let valid = tested-IsDayMonth m d h in
    read_parts d (month_name m) (length-month_name m h.month_from h.month_to)
    ∙ rw (month_named-complete m h.month_from h.month_to, two_digits_of-complete d short, valid) refl

pub month_day_of-month_day_text : (x : MonthDay) → IsDayMonth x.month x.day → month_day_of (month_day_text x) ≡ Some x
month_day_of-month_day_text x h = read_back x.month x.day h

pub month_day_of-complete : (x : MonthDay) (t : List ℕ) → SpellsDayMonth x t → month_day_of t ≡ Some x
month_day_of-complete x t p = ap month_day_of p.spelled ∙ month_day_of-month_day_text x p.is_date

unwrapped : (x y : MonthDay) → Some x ≡ Some y → x ≡ y
unwrapped x y e = cc

-- a text spells one day of a month at most
pub SpellsDayMonth-unique : (x y : MonthDay) (t : List ℕ) → SpellsDayMonth x t → SpellsDayMonth y t → x ≡ y
SpellsDayMonth-unique x y t p q = unwrapped x y (sym (month_day_of-complete x t p) ∙ month_day_of-complete y t q)
